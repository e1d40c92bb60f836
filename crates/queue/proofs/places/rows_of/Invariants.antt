use Rattle.queue.specs.Queue.{places_in}
use Rattle.queue.proofs.Copies.{Copied}
use Rattle.queue.proofs.places.rows_of.Given as goal

abbrev pub invariant-loop-group : goal.invariant-loop-group
invariant-loop-group l = Copied l.pending l.counts (places_in l.rows) l.group
