-- What the second demand wants of every accepted step.
use Prim.Native.Nat.{ℕ, ◌≤◌, ◌<◌}
use mathlib.Core.Path.{◌≡◌, refl, sym}
use mathlib.Core.Bool.{false, cond}
use mathlib.Core.List.{List, [], ◌∷◌, ◌++◌}
use native.Mathlib.Omega.{arith}
use lib.Dec.{eqb}
use lib.ListN.{length, replicate}
use Rattle.limits.specs.Limits.{max_k, max_groups, max_sent, places, output_size}
use Rattle.question.specs.Question.{given, ask, map_answer, unit_questions}
use Rattle.layout.specs.Number.{digits}
use Rattle.layout.specs.Layout.{bytes_of}
use Rattle.record.specs.Kind.{read, write}
use Rattle.record.specs.Record.{field_questions, write_fields}
use Rattle.layout.specs.declared.clock.LocalTime.{LocalTime}
use Rattle.question.proofs.Questions.{ask_through, same_given}
use Rattle.rules.specs.Batch.{verdict_of, new_store, handle}
use Rattle.rules.specs.Replica.{State, Stepped, step_questions, batch_of, is_stable, handle_batch, visit, visit_group, visits, at_time, put, put_all, stepped, step}
use Rattle.rules.specs.declared.Pending.{Pending}
use Rattle.laws.proofs.Keeps.{Keeps, visits-keep}
use Rattle.laws.proofs.Settles.{visits_settle}
use Rattle.laws.proofs.Count.{visits-cost, pending_most}

-- an accepted step gives what the rules make of the state, the time and the output
pub step_accepted_lem : (s : State) (now : LocalTime) (output : List ℕ) {d : Stepped} → step s now output ≡ given d → d ≡ stepped s now output
unfolding step
step_accepted_lem s now output e = same_given (sym (ask_through (step_questions s.last now (length output)) (given (stepped s now output)) e))

module _ (s : State) (now : LocalTime) (output : List ℕ) {d : Stepped} (e : step s now output ≡ given d) where
  -- no group has a stable batch afterwards
  pub step_settles : (g : ℕ) → 1 ≤ g → g ≤ s.settings.groups → is_stable s.settings.delta now (batch_of (d.state.pending g)) ≡ false
  unfolding stepped
  step_settles g low high = rw (step_accepted_lem s now output e) (visits_settle s.settings.groups now (at_time now s) g low high)

  -- the time is the step's; otherwise the state is what it was, but for the variables' values, the writes performed, and requests
  -- that are no longer pending
  pub step_keeps : Keeps (at_time now s) d.state
  unfolding stepped
  step_keeps = rw (step_accepted_lem s now output e) (visits-keep s.settings.groups now (at_time now s))

-- 67 records are room enough for what a step sends
pub step_at_most_67 : (s : State) (now : LocalTime) → s.settings.k ≤ max_k → s.settings.groups ≤ max_groups
    → ((g : ℕ) → length (s.pending g) ≤ places) → 0 < length s.store.variables
    → length (visits s.settings.groups now (at_time now s)).sent ≤ max_sent
step_at_most_67 s now k groups few variables =
    let n = s.settings.groups in
    omega (arith, visits-cost n now (at_time now s) variables, pending_most places n s.pending few)

-- ── 67 is reached: sixteen requests of each of four groups, 63 reads and a write of one process alone that fails the store ──

abbrev waiting : ℕ → ℕ → ℕ → Pending
waiting kind group t = record {
  request = record { kind = kind; group = group; process = 1; variable = 1; timestamp = record { 0 = t }; value = 0 };
  arrival = record { 0 = 0 };
}

abbrev full : State
full = record {
  settings = record { k = 3; groups = 4; owner = 1; delta = 0 };
  number = 1;
  store = new_store;
  pending = λ group. cond (eqb group 1) (replicate 15 (waiting read 1 1) ++ (waiting write 1 2 ∷ [])) (replicate places (waiting read group 1));
  last = record { 0 = 0 };
}

pub sixty_seven-sent : map_answer (λ d. d.count) (step full (record { 0 = 1 }) (replicate output_size 0)) ≡ given max_sent
unfolding ask unit_questions digits bytes_of field_questions write_fields verdict_of handle handle_batch visit visit_group visits put put_all stepped step
sixty_seven-sent = refl
