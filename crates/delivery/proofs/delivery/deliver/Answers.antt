-- What was admitted found a place, so it can be added.
use Prim.Native.Nat.{ℕ}
use mathlib.Core.Path.{◌≡◌, refl, sym, ap, ◌∙◌}
use native.Mathlib.Omega.{arith}
use lib.ListN.{length}
use Rattle.rules.specs.Replica.{admit, deliver}
use Rattle.laws.proofs.Accepted.{read-group, admit_admitted}
use Rattle.state.specs.State.{state_of}
use Rattle.delivery.proofs.Asked.{queue-length, admit-counted}
use Rattle.delivery.proofs.delivery.deliver.Goals as goal
use Rattle.delivery.proofs.delivery.deliver.Goals.{After-admit, Start}
use Rattle.question.specs.Refusals.{answer_of}

-- there are 64 places
long : (c : Start) → length c.args.r.pending ≡ 64
long c = c.well_formed.0.1.1.1.1.1.1.0.1.0.1

-- what is admitted is what the rules admit
admitted : (c : After-admit) →
    let a = c.args in
    answer_of c.admit.result ≡ admit (state_of a.r) a.bytes.now a.at
admitted c =
    c.admit.ensures ∙ admit-counted (state_of c.args.r) c.args.r.pending c.args.r.counts refl (long c.before.before.before.before.before.before.before) c.args.bytes.now c.args.at

pub add_pending-requires : goal.add_pending-requires
add_pending-requires c =
    let r = c.args.r in
    let found = admit_admitted (state_of r) c.args.bytes.now c.args.at (sym (admitted (goal.at.add_pending-requires c).After-admit) ∙ ap answer_of c.in-Ok.is) in
    let group = read-group r.settings.k r.settings.groups c.args.bytes.now found.reads in
    (group.0, group.1, omega (arith, found.room, queue-length r.pending r.counts c.in-Ok.request.group (long (goal.at.add_pending-requires c).Start) group.0 group.1))

pub returns-in-Ok : goal.returns-in-Ok
unfolding deliver
returns-in-Ok c =
    rw (← admitted (goal.at.returns-in-Ok c).After-admit, c.in-Ok.is)
    record { answer = refl; state = c.add_pending.ensures; kept = λ q e. absurd (let z : ◌≡◌ {A = ℕ} 0 1 = cc in omega arith) }

pub returns-in-Err : goal.returns-in-Err
unfolding deliver
returns-in-Err c = rw (← admitted (goal.at.returns-in-Err c).After-admit, c.in-Err.is) record { answer = refl; state = refl; kept = λ q e. refl }
