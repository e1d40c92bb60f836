-- A visit, look by look: where the batch is not stable it is over, and more looks than the queue has requests change nothing. Then
-- the visits, group by group.
use Prim.Native.Nat.{ℕ, zero, suc, ◌+◌, ◌-◌, ◌≤◌, ◌<◌}
use mathlib.Core.Path.{◌≡◌, refl, sym, ap, ◌∙◌}
use mathlib.Core.Bool.{Bool, true, false}
use mathlib.Core.List.{List, [], ◌∷◌}
use native.Mathlib.Numerals.{add-one, sub-one}
use native.Mathlib.Omega.{arith}
use lib.ListN.{length}
use Rattle.layout.specs.declared.clock.LocalTime.{LocalTime}
use Rattle.rules.specs.Batch.{Effect, still, follow}
use Rattle.rules.specs.Replica.{State, Part, part_of, with_part, Written, batch_of, is_stable, handle_batch, visit, visit_group, visits}
use Rattle.rules.specs.declared.Pending.{Pending}
use Rattle.rules.specs.declared.Settings.{Settings}
use Rattle.question.proofs.Tests.{case}
use Rattle.laws.proofs.Least.{stable_some, others_fewer}
use Rattle.laws.proofs.Queues.{part_again}
use Rattle.step.specs.Output.{Reached, sends}
use Rattle.step.proofs.Sends.{sends-follow}

module _ (u : Settings) (replica group : ℕ) (now : LocalTime) where
  abbrev stable : Part → Bool
  stable part = is_stable u.delta now (batch_of part.queue)

  abbrev looked : ℕ → Part → Effect Part
  looked looks part = visit u replica group now looks part

  pub visit-over : (looks : ℕ) (part : Part) → stable part ≡ false → looked looks part ≡ still part
  unfolding visit
  visit-over zero part e = refl
  visit-over (suc looks) part e = rw e

  visit_goes : (looks : ℕ) (part : Part) → 0 < looks → stable part ≡ true
      → looked looks part ≡ follow (handle_batch u replica group part) (λ next. looked (looks - 1) next)
  unfolding visit
  visit_goes zero part h e = absurd (omega arith)
  visit_goes (suc looks) part h e = rw (e, sub-one (suc looks))

  none_stable : (part : Part) → length part.queue ≤ 0 → stable part ≡ false
  none_stable part h = go part.queue h
    where
      go : (l : List Pending) → length l ≤ 0 → is_stable u.delta now (batch_of l) ≡ false
      go [] h = refl
      go (p ∷ l) h = absurd (omega arith)

  -- each handled batch takes a request off or more
  pub batch-fewer : (part : Part) → stable part ≡ true → length (handle_batch u replica group part).state.queue < length part.queue
  unfolding handle_batch
  batch-fewer part e = others_fewer part.queue (stable_some u.delta now (batch_of part.queue) e)

  visit-enough : (a b : ℕ) (part : Part) → length part.queue ≤ a → length part.queue ≤ b → looked a part ≡ looked b part
  unfolding visit
  visit-enough zero b part h i = sym (visit-over b part (none_stable part h))
  visit-enough (suc a) zero part h i = visit-over (suc a) part (none_stable part i)
  visit-enough (suc a) (suc b) part h i = case (stable part)
      (λ e.
      let fewer = batch-fewer part e in
      rw (e, visit-enough a b (handle_batch u replica group part).state (omega (arith, fewer)) (omega (arith, fewer))))
      (λ e. rw e)

  -- the whole visit: as many looks as the queue has requests
  abbrev pub whole : Part → Effect Part
  whole part = looked (length part.queue) part

  -- the batch's messages, and those of the rest of the visit behind them
  pub visit-sends : (w : Written) (part : Part) → stable part ≡ true
      → let d = sends u w (handle_batch u replica group part) in
      sends u w (whole part) ≡ sends u d.output (whole d.state)
  visit-sends w part e =
      let next = (handle_batch u replica group part).state in
      let fewer = batch-fewer part e in
      let looks = length part.queue - 1 in
      let d = sends u w (handle_batch u replica group part) in
      ap (λ (x : Effect Part). sends u w x) (visit_goes (length part.queue) part (omega (arith, fewer)) e)
      ∙ (sends-follow u w (handle_batch u replica group part) (λ (rest : Part). looked looks rest)
      ∙ ap (λ (x : Effect Part). sends u d.output x) (visit-enough looks (length next.queue) next (omega (arith, fewer)) (omega arith)))

-- ── in a state ──

module _ (group : ℕ) (now : LocalTime) (s : State) where
  -- a group whose batch is not stable
  pub group-stands : is_stable s.settings.delta now (batch_of (s.pending group)) ≡ false → visit_group group now s ≡ still s
  unfolding visit_group
  group-stands e =
      ap (λ (x : Effect Part). record { state = with_part group x.state s; sent = x.sent })
      (visit-over s.settings s.number group now (length (s.pending group)) (part_of group s) e)
      ∙ ap (λ (t : State). still t) (part_again group s)

  -- what the visit of the part comes to, in the state
  pub group-visited : (w : Written) (x : Reached Part)
      → x ≡ sends s.settings w (visit s.settings s.number group now (length (s.pending group)) (part_of group s))
      → ◌≡◌ {A = Reached State} (record { state = with_part group x.state s; output = x.output }) (sends s.settings w (visit_group group now s))
  unfolding visit_group
  group-visited w x e = ap (λ (y : Reached Part). record { state = with_part group y.state s; output = y.output }) e

-- the messages of the groups so far, and those of the next group's visit behind them
pub visits-sends : (u : Settings) (n : ℕ) (now : LocalTime) (w : Written) (s : State)
    → let d = sends u w (visits n now s) in
    sends u d.output (visit_group (n + 1) now d.state) ≡ sends u w (visits (n + 1) now s)
unfolding visits
visits-sends u n now w s =
    rw (add-one n) (sym (sends-follow u w (visits n now s) (λ (t : State). visit_group (suc n) now t)))
