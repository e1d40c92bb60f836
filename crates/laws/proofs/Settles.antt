-- After a step no group has a stable batch.
use Prim.Native.Nat.{ℕ, zero, suc, ◌≤◌}
use mathlib.Core.Path.{◌≡◌, refl}
use mathlib.Core.Bool.{false}
use mathlib.Core.List.{List, [], ◌∷◌}
use native.Mathlib.Omega.{arith}
use lib.Dec.{eqb}
use lib.ListN.{length}
use borrow.Author.Tests.{eqb-true, eqb-false}
use Rattle.layout.specs.declared.clock.LocalTime.{LocalTime}
use Rattle.rules.specs.declared.Settings.{Settings}
use Rattle.rules.specs.Replica.{State, batch_of, is_stable, Part, part_of, handle_batch, visit, visit_group, visits}
use Rattle.rules.specs.declared.Pending.{Pending}
use Rattle.question.proofs.Tests.{case}
use Rattle.laws.proofs.Least.{stable_some, others_fewer}
use Rattle.laws.proofs.Queues.{replace_same, replace_other}
use Rattle.laws.proofs.Keeps.{visits-keep}

-- each handled batch takes a request off or more, so as many looks as the queue has requests are enough
pub visit_settles : (u : Settings) (replica group : ℕ) (now : LocalTime) (looks : ℕ) (part : Part) → length part.queue ≤ looks
    → is_stable u.delta now (batch_of (visit u replica group now looks part).state.queue) ≡ false
unfolding visit handle_batch
visit_settles u replica group now zero part h = none part.queue h
  where
    none : (l : List Pending) → length l ≤ 0 → is_stable u.delta now (batch_of l) ≡ false
    none [] h = refl
    none (p ∷ l) h = absurd (omega arith)
visit_settles u replica group now (suc looks) part h = case (is_stable u.delta now (batch_of part.queue))
    (λ e. rw e (visit_settles u replica group now looks (handle_batch u replica group part).state
    (omega (arith, others_fewer part.queue (stable_some u.delta now (batch_of part.queue) e)))))
    (λ e. rw e e)

module _ (group : ℕ) (now : LocalTime) (s : State) where
  -- so the visit of a group leaves it no stable batch
  pub visit_group_settles : is_stable s.settings.delta now (batch_of ((visit_group group now s).state.pending group)) ≡ false
  unfolding visit_group
  visit_group_settles =
      let looks = length (s.pending group) in
      let left = (visit s.settings s.number group now looks (part_of group s)).state.queue in
      rw (replace_same group left s.pending) (visit_settles s.settings s.number group now looks (part_of group s) (omega arith))

  -- and leaves the other groups' queues alone
  pub visit_group_other : (g : ℕ) → eqb g group ≡ false → (visit_group group now s).state.pending g ≡ s.pending g
  unfolding visit_group
  visit_group_other g e = replace_other group (visit s.settings s.number group now (length (s.pending group)) (part_of group s)).state.queue s.pending g e

-- after the visits of groups 1 to n none of them has a stable batch
pub visits_settle : (n : ℕ) (now : LocalTime) (s : State) (g : ℕ) → 1 ≤ g → g ≤ n
    → is_stable s.settings.delta now (batch_of ((visits n now s).state.pending g)) ≡ false
unfolding visits
visits_settle zero now s g low high = absurd (omega arith)
visits_settle (suc n) now s g low high =
    let t = (visits n now s).state in
    case (eqb g (suc n))
    (λ e. rw (eqb-true g (suc n) e) (rw (visits-keep n now s).settings at (visit_group_settles (suc n) now t)))
    (λ e. rw (visit_group_other (suc n) now t g e) (visits_settle n now s g low (omega (arith, eqb-false g (suc n) e))))
