-- What was sent so far, and what is left of the visit sends behind it, is what the whole visit sends.
use Rattle.std.proofs.Common.{◌≡◌, ◌≤◌}
use Rattle.rules.specs.Replica.{written}
use Rattle.step.specs.Output.{sends, part_in}
use Rattle.step.proofs.Visited.{whole}
use Rattle.step.proofs.output.Visit.handle_stable.Given as goal

abbrev pub invariant-loop-head : goal.invariant-loop-head
invariant-loop-head l =
    let v = l.fn.self in
    (l.done.left ≤ l.initial.done.left)
    × (sends v.settings (written l.done.tally.count l.output) (whole v.settings v.number v.group v.at (part_in l.done l.queue l.variables))
    ≡ sends v.settings (written l.initial.done.tally.count l.initial.output) (whole v.settings v.number v.group v.at (part_in l.initial.done l.initial.queue l.initial.variables)))

abbrev pub decreases-loop-head : goal.decreases-loop-head
decreases-loop-head l = l.done.left
