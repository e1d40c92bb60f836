-- What was seen so far, and that what is left agrees, is that all agree.
use Rattle.std.proofs.Common.{◌≡◌, ◌+◌, ◌&&◌, false, length, replicate}
use Rattle.queue.specs.Queue.{places_in}
use Rattle.batch.specs.Head.{requests_at, left_in}
use Rattle.batch.proofs.Agree.{agree}
use Rattle.batch.proofs.unanimity.is_unanimous_from.Given as goal

abbrev pub invariant-loop-request : goal.invariant-loop-request
invariant-loop-request l =
    (length l.seen ≡ 256)
    × (l.size + length (left_in l.request-iterator) ≡ length (requests_at l.fn.t (places_in l.queue)))
    × (l.same && agree l.first l.seen (left_in l.request-iterator) ≡ agree l.first (replicate 256 false) (requests_at l.fn.t (places_in l.queue)))
