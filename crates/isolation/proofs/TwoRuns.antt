-- What is supposed can be met: the theorem on the two runs of crates/rules. And all of it is needed: of the runs there that the owner can tell
-- from `served`, each fails with it one supposition, and meets the rest.
use Prim.Native.Nat.{ℕ}
use mathlib.Core.Path.{◌≡◌, refl}
use mathlib.Core.Bool.{Bool, true, false}
use mathlib.Core.List.{List, [], ◌∷◌, map, flat_map}
use Rattle.question.specs.Question.{ask, unit_questions}
use Rattle.layout.specs.Number.{number, digits}
use Rattle.layout.specs.Layout.{fields_of, bytes_of}
use Rattle.record.specs.Record.{request_fields, field_questions, read_fields, write_fields}
use Rattle.rules.specs.Batch.{verdict_of, handle}
use Rattle.rules.specs.Lists.{every}
use Rattle.rules.specs.Replica.{new_state, make, admit, deliver, handle_batch, visit, visit_group, visits, put, put_all, stepped, step}
use Rattle.rules.specs.Run.{Call, messages_in, call, run, Exchange, exchanges, Ran}
use Rattle.rules.specs.Owner.{owner_view}
use Rattle.rules.specs.Sample.{asked}
use Rattle.rules.specs.TwoRuns.{three, quiet, loud, served, overtaken, unserved, changed, delayed, hurried, unstepped, swapped}
use Rattle.laws.proofs.Delivered.{computed_lent}
use Rattle.isolation.specs.Isolation.{never_back, step_accepted, OwnerCall, delivers, steps, owner_calls, Supposed}
use Rattle.isolation.proofs.Isolation.{isolation}

-- what passes in a run
abbrev past : List Call → List Exchange
past calls = exchanges (new_state three 1) calls

-- ── the quiet run and the loud one ──

pub quiet-ran : Ran three 1 quiet
unfolding make ask unit_questions bytes_of digits
quiet-ran = record { made = refl; lent = computed_lent quiet refl }

pub loud-ran : Ran three 1 loud
unfolding make ask unit_questions bytes_of digits
loud-ran = record { made = refl; lent = computed_lent loud refl }

pub pair-supposed : Supposed three (past quiet) (past loud)
unfolding ask unit_questions number digits fields_of bytes_of field_questions read_fields write_fields verdict_of handle admit deliver handle_batch visit visit_group visits put put_all stepped step messages_in call run exchanges flat_map
pair-supposed = record { left = record { forward = refl; accepted = refl }; right = record { forward = refl; accepted = refl }; same = refl }

pub pair-alike : owner_view three 1 quiet ≡ owner_view three 1 loud
pair-alike = isolation three 1 quiet loud quiet-ran loud-ran pair-supposed

-- ── why each is needed ──

-- what the suppositions ask of a run: that its local times never go back, that its steps are accepted, and the calls of the owner
pub record Traits : Type 0 where
  pub forward : Bool
  pub accepted : Bool
  pub owners : List OwnerCall

abbrev pub traits_of : List Call → Traits
traits_of calls = record {
  forward = never_back (record { 0 = 0 }) (past calls);
  accepted = every step_accepted (past calls);
  owners = owner_calls three (past calls);
}

abbrev read_at : ℕ → ℕ → ℕ → OwnerCall
read_at at t variable = delivers (bytes_of (request_fields (asked 2 1 t variable))) (record { 0 = at })

abbrev steps_at : ℕ → OwnerCall
steps_at at = steps (record { 0 = at })

-- of `served`, and where nothing of the owner's differs from it
abbrev common : List OwnerCall
common = read_at 100 20 4 ∷ steps_at 110 ∷ read_at 110 10 4 ∷ []

abbrev steady : List OwnerCall → Traits
steady owners = record { forward = true; accepted = true; owners = owners }

pub each_needed : map traits_of (served ∷ overtaken ∷ unserved ∷ changed ∷ delayed ∷ hurried ∷ unstepped ∷ swapped ∷ [])
    ≡ (steady common
    ∷ record { forward = false; accepted = true; owners = common }
    ∷ record { forward = true; accepted = false; owners = common }
    ∷ steady (read_at 100 20 5 ∷ steps_at 110 ∷ read_at 110 10 4 ∷ [])
    ∷ steady (read_at 100 20 4 ∷ steps_at 110 ∷ read_at 111 10 4 ∷ [])
    ∷ steady (read_at 100 20 4 ∷ steps_at 105 ∷ read_at 110 10 4 ∷ [])
    ∷ steady (read_at 100 20 4 ∷ read_at 110 10 4 ∷ [])
    ∷ steady (read_at 100 20 4 ∷ read_at 110 10 4 ∷ steps_at 110 ∷ [])
    ∷ [])
unfolding ask unit_questions number digits fields_of bytes_of field_questions read_fields write_fields verdict_of handle admit deliver handle_batch visit visit_group visits put put_all stepped step messages_in call exchanges flat_map
each_needed = refl
