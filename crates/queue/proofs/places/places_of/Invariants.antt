use Rattle.std.proofs.Common.{◌≡◌, length}
use Rattle.queue.specs.Queue.{places_in}
use Rattle.queue.proofs.Copies.{Copied}
use Rattle.queue.proofs.places.places_of.Given as goal

abbrev pub invariant-loop-group : goal.invariant-loop-group
invariant-loop-group l = (length l.pending ≡ 64) × Copied (places_in l.fn.rows) l.fn.counts l.pending l.group
