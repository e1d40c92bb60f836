use Rattle.std.proofs.Common.{◌≡◌, ◌≤◌, true, ◌∙◌, sym, ap, length, take, arith}
use lib.ListN.{length-map, length-take}
use Rattle.rules.specs.Replica.{Part, written, head_timestamp, batch_of, is_stable}
use Rattle.queue.specs.Row.{pending_of}
use Rattle.queue.specs.Queue.{places_in}
use Rattle.queue.proofs.Rows.{places-taken, waiting_front, waiting-length}
use Rattle.batch.proofs.Stable.{late_yes, late_no}
use Rattle.step.specs.Output.{Reached, sends, part_in, part_of_rows}
use Rattle.step.proofs.Sends.{sends_as, sends-still}
use Rattle.step.proofs.Visited.{whole, batch-fewer, visit-over, visit-sends}
use Rattle.step.proofs.output.Visit.handle_stable.Goals as goal
use Rattle.step.proofs.output.Visit.handle_stable.Goals.{In-Some, After-handle_batch-done}

-- a head that is found is the queue's, and its batch is stable
late : (c : In-Some) →
    let queue = places_in (take c.loop-head.done.left c.loop-head.queue) in
    (c.in-Some.head.timestamp ≡ head_timestamp queue) × (is_stable c.args.self.settings.delta c.args.self.at (batch_of queue) ≡ true)
late c =
    let v = c.args.self in
    late_yes v.settings.delta v.at (places_in (take c.loop-head.done.left c.loop-head.queue)) (sym c.stable_head.ensures ∙ c.in-Some.is)

-- what is left waits in the rows that were lent
front : (c : After-handle_batch-done) → c.handle_batch-done.result.left ≤ length c.handle_batch-done.new.queue
front c = omega (arith, c.handle_batch-done.auto.queue)

pub handle_batch-done-requires : goal.handle_batch-done-requires
handle_batch-done-requires c = (late (goal.at.handle_batch-done-requires c).In-Some).0

pub loop-head-smaller : goal.loop-head-smaller
loop-head-smaller c =
    let v = c.args.self in
    let rows = take c.loop-head.done.left c.loop-head.queue in
    let fewer = batch-fewer v.settings v.number v.group v.at (part_of_rows c.loop-head.done.tally rows c.loop-head.variables) (late (goal.at.loop-head-smaller c).In-Some).1 in
    let left = ap (λ (x : Reached Part). length x.state.queue) c.handle_batch-done.ensures.reached in
    omega (
      arith,
      fewer,
      left,
      waiting-length c.handle_batch-done.new.queue c.handle_batch-done.result.left,
      front (goal.at.loop-head-smaller c).After-handle_batch-done,
      length-map rows pending_of,
      length-take c.loop-head.done.left c.loop-head.queue,
    )

pub loop-head-preserved : goal.loop-head-preserved
loop-head-preserved c =
    let v = c.args.self in
    let d = c.handle_batch-done in
    let rows = take c.loop-head.done.left c.loop-head.queue in
    let look = visit-sends v.settings v.number v.group v.at (written c.loop-head.done.tally.count c.loop-head.output) (part_of_rows c.loop-head.done.tally rows c.loop-head.variables) (late (goal.at.loop-head-preserved c).In-Some).1 in (
      omega (arith, c.loop-head.invariant.0, d.ensures.within, length-take c.loop-head.done.left c.loop-head.queue),
      rw (waiting_front d.new.queue _ d.result.left (front (goal.at.loop-head-preserved c).After-handle_batch-done))
          (ap (λ (x : Reached Part). sends v.settings x.output (whole v.settings v.number v.group v.at x.state)) d.ensures.reached
          ∙ (sym look ∙ (rw (← places-taken c.loop-head.queue c.loop-head.done.left) at c.loop-head.invariant.1))),
    )

pub returns-clause-reached : goal.returns-clause-reached
returns-clause-reached c =
    let v = c.args.self in
    let part = part_in c.loop-head.done c.loop-head.queue c.loop-head.variables in
    let w = written c.loop-head.done.tally.count c.loop-head.output in
    let no = rw (places-taken c.loop-head.queue c.loop-head.done.left) at (late_no v.settings.delta v.at (places_in (take c.loop-head.done.left c.loop-head.queue)) (sym c.stable_head.ensures ∙ c.in_default.is)) in
    sends_as v.settings w (visit-over v.settings v.number v.group v.at (length part.queue) part no) (sym (sends-still v.settings w part))
    ∙ c.loop-head.invariant.1
