-- The questions are asked by themselves: on a yes, the visits send from the start of the output.
use Prim.Native.Nat.{ℕ}
use mathlib.Core.Path.{◌≡◌, refl}
use native.Mathlib.Omega.{arith}
use Rattle.question.specs.Question.{given, next}
use Rattle.question.specs.Refusals.{answer_of}
use Rattle.rules.specs.Replica.{State, stepped, step}
use Rattle.queue.specs.Queue.{queues_in}
use Rattle.step.specs.Output.{state_in}
use Rattle.step.proofs.Asked.{step_next, stepped-reached}
use Rattle.step.proofs.stepping.step_lent.Goals as goal
use Rattle.step.proofs.stepping.step_lent.Goals.{After-check_step, Start}

-- the state that is lent
abbrev lent : Start → State
lent c =
    let a = c.args in
    state_in a.u a.number a.last (queues_in a.pending.now a.counts.now) a.writes a.variables.now

-- the questions, asked by themselves, decide the answer
decided : (c : After-check_step) →
    step (lent c.before.before.before.before.before) c.args.at c.args.output.now ≡ next (answer_of c.check_step.result) (given (stepped (lent c.before.before.before.before.before) c.args.at c.args.output.now))
decided c =
    step_next (lent c.before.before.before.before.before) c.args.at c.args.output.now (answer_of c.check_step.result) c.check_step.ensures

pub returns-in-Ok : goal.returns-in-Ok
returns-in-Ok c =
    let reached = stepped-reached (lent (goal.at.returns-in-Ok c).Start) c.args.at c.args.output.now c.visits-done.ensures in
    rw (decided (goal.at.returns-in-Ok c).After-check_step, c.in-Ok.is, reached)
    record { answer = refl; state = refl; output = refl; kept = λ q e. absurd (let z : ◌≡◌ {A = ℕ} 0 1 = cc in omega arith) }

pub returns-in-Err : goal.returns-in-Err
returns-in-Err c = rw (decided (goal.at.returns-in-Err c).After-check_step, c.in-Err.is) record { answer = refl; state = refl; output = refl; kept = λ q e. (refl, refl) }
