-- Induction along the visits of a step: what holds of doing nothing, of handling one stable batch, and of one thing after
-- another, holds of them all.
use Prim.Native.Nat.{ℕ, zero, suc}
use mathlib.Core.Path.{◌≡◌, refl, sym, ◌∙◌, ap, subst}
use mathlib.Core.Bool.{true}
use mathlib.Core.List.{◌++◌}
use lib.ListN.{length}
use Rattle.layout.specs.declared.clock.LocalTime.{LocalTime}
use Rattle.rules.specs.Batch.{Effect, still, follow}
use Rattle.rules.specs.Replica.{State, Part, part_of, with_part, batch_of, is_stable, handle_batch, visit, visit_group, visits}
use Rattle.question.proofs.Tests.{case}
use Rattle.laws.proofs.Queues.{part_again, part_same, part_twice}

-- what is done to a part of a state, in that state
abbrev pub in_state : ℕ → State → Effect Part → Effect State
in_state group s e = record { state = with_part group e.state s; sent = e.sent }

-- the group's batch handled, in a state
unfoldable pub handle_in : ℕ → State → Effect State
handle_in group s = in_state group s (handle_batch s.settings s.number group (part_of group s))

-- the visit of the group, with so many looks, in a state
unfoldable pub visit_in : ℕ → LocalTime → ℕ → State → Effect State
visit_in group now looks s = in_state group s (visit s.settings s.number group now looks (part_of group s))

pub visit_group_lem : (group : ℕ) (now : LocalTime) (s : State) → visit_group group now s ≡ visit_in group now (length (s.pending group)) s
unfolding visit_group visit_in
visit_group_lem group now s = refl

module _ (group : ℕ) (now : LocalTime) (s : State) where
  -- no look, or a batch that is not stable
  visit-still : in_state group s (still (part_of group s)) ≡ still s
  visit-still = ap (λ (t : State). still t) (part_again group s)

  -- a stable batch, then the rest of the visit
  visit_first : (looks : ℕ)
      → in_state group s (follow (handle_batch s.settings s.number group (part_of group s)) (λ part. visit s.settings s.number group now looks part))
      ≡ follow (handle_in group s) (λ t. visit_in group now looks t)
  unfolding handle_in visit_in
  visit_first looks =
      let done = handle_batch s.settings s.number group (part_of group s) in
      let rest : Part → Effect Part = λ part. visit s.settings s.number group now looks part in
      let part = part_of group (with_part group done.state s) in
      sym (ap (λ (t : State). record { state = t; sent = done.sent ++ (rest part).sent }) (part_twice group s done.state (rest part).state)
      ∙ ap (λ (p : Part). in_state group s (record { state = (rest p).state; sent = done.sent ++ (rest p).sent })) (part_same group s done.state))

module _ (now : LocalTime) (P : State → Effect State → Type 0)
    (nothing : (s : State) → P s (still s))
    (then : (s : State) (e : Effect State) (next : State → Effect State) → P s e → P e.state (next e.state) → P s (follow e next)) where
  -- of the visit of one group
  pub visit_all : (group : ℕ) → ((s : State) → is_stable s.settings.delta now (batch_of (s.pending group)) ≡ true → P s (handle_in group s))
      → (looks : ℕ) (s : State) → P s (visit_in group now looks s)
  unfolding visit_in visit
  visit_all group batch zero s = subst (P s) (sym (visit-still group now s)) (nothing s)
  visit_all group batch (suc looks) s = case (is_stable s.settings.delta now (batch_of (s.pending group)))
      (λ e. rw e (subst (P s) (sym (visit_first group now s looks))
      (then s (handle_in group s) (λ t. visit_in group now looks t) (batch s e) (visit_all group batch looks (handle_in group s).state))))
      (λ e. rw e (subst (P s) (sym (visit-still group now s)) (nothing s)))

  -- of the visits of groups 1 to n
  pub visits_all : ((group : ℕ) (s : State) → is_stable s.settings.delta now (batch_of (s.pending group)) ≡ true → P s (handle_in group s))
      → (n : ℕ) (s : State) → P s (visits n now s)
  unfolding visits
  visits_all batch zero s = nothing s
  visits_all batch (suc n) s =
      let t = (visits n now s).state in
      then s (visits n now s) (λ t. visit_group (suc n) now t) (visits_all batch n s)
      (subst (P t) (sym (visit_group_lem (suc n) now t)) (visit_all (suc n) (batch (suc n)) (length (t.pending (suc n))) t))
