-- No request passed is of the batch, so what is left of the batch stays the same.
use Rattle.std.proofs.Common.{◌≡◌, length}
use Rattle.batch.specs.Head.{left_in}
use Rattle.batch.proofs.pending.BatchIterator.next.Given as goal

abbrev pub invariant-loop-row : goal.invariant-loop-row
invariant-loop-row l = left_in l.self ≡ left_in l.initial.self

abbrev pub decreases-loop-row : goal.decreases-loop-row
decreases-loop-row l = length l.self.rows.now
