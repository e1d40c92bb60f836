use Rattle.std.proofs.Common.{◌∙◌, arith}
use Rattle.queue.specs.Queue.{places_in}
use Rattle.queue.proofs.Rows.{places-length, place_at, written_next}
use Rattle.queue.proofs.places.write_places.Goals as goal

pub loop-i-preserved : goal.loop-i-preserved
loop-i-preserved c =
    let rows = c.args.rows.now in
    written_next c.loop-i.places (places_in rows) c.loop-i.i c.pending_of.result _ (omega arith) (omega (arith, places-length rows)) c.loop-i.invariant (c.pending_of.ensures ∙ place_at rows c.loop-i.i _)
