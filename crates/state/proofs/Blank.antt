-- The replica beside a refused making: it accepts no request, and has nothing to do in a step but to note the time.
use Prim.Native.Nat.{ℕ}
use mathlib.Core.Path.{◌≡◌, refl}
use mathlib.Core.List.{List}
use Rattle.question.specs.Question.{given, refused, ask, unit_questions}
use Rattle.record.specs.Record.{read_fields}
use Rattle.layout.specs.declared.clock.LocalTime.{LocalTime}
use Rattle.rules.specs.Replica.{admit, deliver, visits, put_all, Stepped, at_time, stepped, step}
use Rattle.laws.proofs.Step.{step_accepted_lem}
use Rattle.state.specs.Made.{blank_state}

-- whenever it was stepped last

-- 2: it has no groups
pub blank_refuses : (last : LocalTime) (bytes : List ℕ) (now : LocalTime) → deliver (at_time last blank_state) bytes now ≡ refused 2
unfolding ask unit_questions read_fields admit deliver
blank_refuses last bytes now = refl

-- it notes the time, and that is all
pub blank_stands : (last now : LocalTime) (output : List ℕ) {d : Stepped} → step (at_time last blank_state) now output ≡ given d
    → d ≡ record { state = at_time now blank_state; count = 0; output = output }
unfolding visits put_all stepped
blank_stands last now output e = step_accepted_lem (at_time last blank_state) now output e
