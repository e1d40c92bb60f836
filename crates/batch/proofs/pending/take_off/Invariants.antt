use Rattle.std.proofs.Common.{not}
use Rattle.std.proofs.lemmas.List.Filters.{FiltersInPlace}
use Rattle.rules.specs.Replica.{stamped}
use Rattle.queue.specs.Row.{pending_of}
use Rattle.batch.proofs.pending.take_off.Given as goal

abbrev pub invariant-loop-i : goal.invariant-loop-i
invariant-loop-i l = FiltersInPlace (λ row. not (stamped l.t (pending_of row).request)) l.initial.queue l.queue l.kept l.i
