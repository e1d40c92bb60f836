use Rattle.std.proofs.Common.{◌≡◌, take}
use Rattle.queue.specs.Queue.{places_in}
use Rattle.queue.proofs.places.write_rows.Given as goal

abbrev pub invariant-loop-i : goal.invariant-loop-i
invariant-loop-i l = take l.i (places_in l.rows) ≡ take l.i l.pending
