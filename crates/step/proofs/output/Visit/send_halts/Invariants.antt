-- The halts of the processes so far are written.
use Rattle.std.proofs.Common.{◌≡◌, ◌-◌, map}
use Rattle.rules.specs.Lists.{up_to}
use Rattle.rules.specs.Batch.{halt_to}
use Rattle.rules.specs.Replica.{written, put_all}
use Rattle.step.proofs.output.Visit.send_halts.Given as goal

abbrev pub invariant-loop-process : goal.invariant-loop-process
invariant-loop-process l =
    let v = l.fn.self in
    written l.next l.output
    ≡ put_all v.settings.k v.settings.groups (written l.fn.count l.initial.output) (map (halt_to v.group v.number l.fn.t) (up_to (l.process - 1)))
