-- What the groups so far have reached.
use Rattle.std.proofs.Common.{◌≡◌}
use Rattle.rules.specs.Replica.{written, visits}
use Rattle.queue.specs.Queue.{queues_in}
use Rattle.step.specs.Output.{sends, state_in, reached_all}
use Rattle.step.proofs.visit.visits.Given as goal

abbrev pub invariant-loop-i : goal.invariant-loop-i
invariant-loop-i l =
    reached_all l.settings l.number l.at l.done l.pending l.counts l.variables l.output
    ≡ sends l.settings (written 0 l.initial.output) (visits l.i l.at (state_in l.settings l.number l.at (queues_in l.initial.pending l.initial.counts) l.fn.performed l.initial.variables))
