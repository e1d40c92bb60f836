-- The questions are asked by themselves: on a yes, the visits of the rows send from the start of the output.
use Prim.Native.Nat.{ℕ}
use mathlib.Core.Path.{◌≡◌, refl, ap, ◌∙◌}
use mathlib.Core.List.{List}
use native.Mathlib.Omega.{arith}
use Rattle.question.specs.Question.{given, next}
use Rattle.question.specs.Refusals.{answer_of}
use Rattle.rules.specs.Replica.{State, written, visits, stepped, step}
use Rattle.rules.specs.declared.Pending.{Pending}
use Rattle.state.specs.State.{state_of}
use Rattle.state.specs.declared.state.Replica.{Replica}
use Rattle.step.specs.Output.{sends, state_in}
use Rattle.step.proofs.Asked.{step_next, stepped-reached}
use Rattle.step.proofs.Sends.{reached_is}
use Rattle.step.proofs.stepping.step.Goals as goal
use Rattle.step.proofs.stepping.step.Goals.{After-check_step, After-places_of}

-- the questions, asked by themselves, decide the answer
decided : (c : After-check_step) →
    let a = c.args in
    step (state_of a.r) a.at a.output.now ≡ next (answer_of c.check_step.result) (given (stepped (state_of a.r) a.at a.output.now))
decided c =
    let a = c.args in
    step_next (state_of a.r) a.at a.output.now (answer_of c.check_step.result) c.check_step.ensures

-- the replica after its visits
abbrev moved : After-places_of → Replica
moved c =
    let r = c.args.r in
    record {
      settings = r.settings;
      number = r.number;
      last = c.args.at;
      variables = c.visits-done.new.variables;
      pending = c.places_of.new.pending;
      counts = c.visits-done.new.counts;
      writes = c.visits-done.result.writes;
    }

-- a step gives what the visits of the rows reach
finished : (c : After-places_of) →
    let a = c.args in
    stepped (state_of a.r) a.at a.output.now
    ≡ record { state = state_of (moved c); count = c.visits-done.result.count; output = c.visits-done.new.output }
finished c =
    let a = c.args in
    let begun : (ℕ → List Pending) → State = λ queues. state_in a.r.settings a.r.number a.at queues a.r.writes a.r.variables in
    let visited = c.visits-done.ensures ∙ ap (λ queues. sends a.r.settings (written 0 a.output.now) (visits a.r.settings.groups a.at (begun queues))) c.rows_of-rows.ensures in
    let left : (ℕ → List Pending) → State = λ queues. state_in a.r.settings a.r.number a.at queues c.visits-done.result.writes c.visits-done.new.variables in
    stepped-reached (state_of a.r) a.at a.output.now (reached_is (ap left c.places_of.ensures) refl ∙ visited)

pub returns-in-Ok : goal.returns-in-Ok
returns-in-Ok c =
    rw (decided (goal.at.returns-in-Ok c).After-check_step, c.in-Ok.is, finished (goal.at.returns-in-Ok c).After-places_of)
    record { answer = refl; state = refl; output = refl; kept = λ q e. absurd (let z : ◌≡◌ {A = ℕ} 0 1 = cc in omega arith) }

pub returns-in-Err : goal.returns-in-Err
returns-in-Err c = rw (decided (goal.at.returns-in-Err c).After-check_step, c.in-Err.is) record { answer = refl; state = refl; output = refl; kept = λ q e. refl }
