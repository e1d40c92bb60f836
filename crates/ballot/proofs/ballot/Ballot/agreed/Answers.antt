use Rattle.std.proofs.Common.{ℕ, ◌+◌, ◌-◌, ◌≡◌, refl, ◌∙◌, ap, arith}
use Rattle.rules.specs.Sets.{set_of}
use Rattle.ballot.specs.Ballot.{gave}
use Rattle.ballot.specs.declared.sets.Replicas.{Replicas}
use Rattle.ballot.proofs.Bits.{set_next}
use Rattle.ballot.proofs.ballot.Ballot.agreed.Goals as goal
use Rattle.ballot.proofs.ballot.Ballot.agreed.Goals.{Joined-has-self, then-has-self, else-has-self}

-- with i the set is that of the replicas up to i
up_to : (c : Joined-has-self) (n : ℕ) → c.loop-i.i ≡ n → c.if-has-self.set.0 ≡ set_of (gave c.args.self c.args.value) n
up_to c n is =
    let next = set_next (gave c.args.self c.args.value) c.loop-i.i c.loop-i.set.0 (omega arith) c.loop-i.invariant ∙ ap (set_of (gave c.args.self c.args.value)) is in
    elim c.if-has-self.branch [
      | then-has-self w ↦ ap (λ (s : Replicas). s.0) w.set-is ∙ w.with-set.ensures ∙ (rw (rw c.has.ensures at w.if-has-self.true) at next)
      | else-has-self w ↦ ap (λ (s : Replicas). s.0) w.set-is ∙ (rw (rw c.has.ensures at w.if-has-self.false) at next)
    ]

pub loop-i-init : goal.loop-i-init
unfolding set_of
loop-i-init c = refl

pub loop-i-preserved : goal.loop-i-preserved
loop-i-preserved c = up_to (goal.at.loop-i-preserved c).Joined-has-self (c.loop-i.i + 1 - 1) (omega arith)

pub returns-after-has-self : goal.returns-after-has-self
returns-after-has-self c = up_to (goal.at.returns-after-has-self c).Joined-has-self _ (omega arith)
