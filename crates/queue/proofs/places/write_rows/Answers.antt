use Rattle.std.proofs.Common.{arith}
use Rattle.queue.specs.Queue.{places_in}
use Rattle.queue.proofs.Rows.{places-length, place_set, written_next}
use Rattle.queue.proofs.places.write_rows.Goals as goal

pub loop-i-preserved : goal.loop-i-preserved
loop-i-preserved c =
    let rows = c.loop-i.rows in
    rw (place_set rows c.loop-i.i c.row_of.result)
    (written_next (places_in rows) c.args.pending.now c.loop-i.i _ _ (omega (arith, places-length rows)) (omega arith) c.loop-i.invariant c.row_of.ensures.back)
