use Rattle.std.proofs.Common.{◌+◌, ◌-◌, ◌*◌, arith}
use Rattle.queue.specs.Queue.{places_in}
use Rattle.queue.proofs.Rows.{places-length, places_put}
use Rattle.queue.proofs.Copies.{copy_group, copy_end}
use Rattle.queue.proofs.places.rows_of.Goals as goal

pub loop-group-preserved : goal.loop-group-preserved
loop-group-preserved c =
    let from = 16 * c.loop-group.group in
    let n = from + c.at_most.result - from in
    let part = c.write_rows.new.rows in
    rw (places_put c.loop-group.rows from n part)
    (copy_group c.args.pending.now c.args.counts.now (places_in c.loop-group.rows) (places_in part) c.loop-group.group n c.loop-group.invariant
    (omega (arith, c.at_most.ensures)) (omega (arith, places-length c.loop-group.rows)) (omega (arith, places-length part)) c.write_rows.ensures)

pub returns : goal.returns
returns c = copy_end c.args.pending.now c.args.counts.now (places_in c.loop-group.rows) c.loop-group.group c.loop-group.invariant (omega arith)
