-- The questions of a step may be asked by themselves, and on a yes it gives what the visits reach.
use Prim.Native.Nat.{ℕ}
use mathlib.Core.Path.{◌≡◌, sym, ap}
use mathlib.Core.List.{List}
use lib.ListN.{length}
use Rattle.question.specs.Question.{Answer, given, Worked, worked, ask, next}
use Rattle.layout.specs.declared.clock.LocalTime.{LocalTime}
use Rattle.rules.specs.Replica.{State, at_time, step_questions, written, visits, stepped, step}
use Rattle.question.proofs.Questions.{next_asked}
use Rattle.step.specs.Output.{Reached, sends}

-- the questions of a step, asked by themselves, decide
pub step_next : (s : State) (now : LocalTime) (output : List ℕ) (alone : Answer Worked)
    → alone ≡ ask (step_questions s.last now (length output)) (given worked)
    → step s now output ≡ next alone (given (stepped s now output))
unfolding step
step_next s now output alone e = sym (next_asked (step_questions s.last now (length output)) (given (stepped s now output)) alone e)

pub stepped-reached : (s : State) (now : LocalTime) (output : List ℕ) {x : Reached State}
    → x ≡ sends s.settings (written 0 output) (visits s.settings.groups now (at_time now s))
    → stepped s now output ≡ record { state = x.state; count = x.output.count; output = x.output.output }
unfolding stepped
stepped-reached s now output e = ap (λ (y : Reached State). record { state = y.state; count = y.output.count; output = y.output.output }) (sym e)
