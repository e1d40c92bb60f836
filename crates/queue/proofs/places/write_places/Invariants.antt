use Rattle.std.proofs.Common.{◌≡◌, take}
use Rattle.queue.specs.Queue.{places_in}
use Rattle.queue.proofs.places.write_places.Given as goal

abbrev pub invariant-loop-i : goal.invariant-loop-i
invariant-loop-i l = take l.i l.places ≡ take l.i (places_in l.rows)
