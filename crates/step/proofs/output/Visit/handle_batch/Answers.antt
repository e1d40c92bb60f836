-- What comes of the batch, then its being taken off.
use Rattle.rules.specs.Replica.{written}
use Rattle.step.specs.Output.{part_of_rows}
use Rattle.step.proofs.Handled.{handled_off}
use Rattle.step.proofs.output.Visit.handle_batch.Goals as goal

pub returns-clause-reached : goal.returns-clause-reached
returns-clause-reached c =
    let a = c.args in
    let v = a.self in
    handled_off v.settings v.number v.group a.t (written a.tally.count a.output.now) (part_of_rows a.tally a.queue.now a.variables.now)
    c.requires c.carry_out-tally.ensures c.take_off-left.ensures.stay
