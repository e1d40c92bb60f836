use Rattle.std.proofs.Common.{◌≡◌, ◌+◌, ◌-◌, ◌*◌, min, length, get_or, suc, arith}
use Rattle.rules.specs.Replica.{written}
use Rattle.queue.proofs.Rows.{waiting_most}
use Rattle.step.specs.declared.handle.Progress.{Progress}
use Rattle.step.proofs.Group.{group-lent, group_stays}
use Rattle.step.proofs.output.Visit.visit.Goals as goal
use Rattle.step.proofs.output.Visit.visit.Goals.{then-done-left, else-done-left}

pub returns : goal.returns
returns c =
    let a = c.args in
    let v = a.self in
    let i = v.group - 1 in
    let group : v.group ≡ suc i = omega arith in
    let rows = a.pending.now in
    let begun : Progress = record { left = c.count_of.result; tally = a.tally } in
    let done = c.handle_stable-done in
    let begins : c.at_most-from.result ≡ min (16 * i) (length rows) = omega (arith, c.at_most-from.ensures, c.from-i.ensures) in
    let ends : c.at_most-to.result ≡ min (16 * i + 16) (length rows) = omega (arith, c.at_most-to.ensures, c.from-i.ensures) in
    let counted : c.count_of.result ≡ get_or a.counts.now i 0 = rw group at c.count_of.ensures in
    let visited = rw (waiting_most _ _ _ c.pending_count-left.ensures.is, group) at done.ensures.reached in
    elim c.if-done-left.branch [
      | then-done-left w ↦
          rw (w.counts-is, w.set_count.ensures, group)
          (group-lent v.settings v.number i v.at rows a.counts.now begun a.variables.now (written a.tally.count a.output.now)
          counted _ _ begins ends done.new.queue done.auto.queue done.result done.new.variables done.new.output visited)
      | else-done-left w ↦
          rw (w.counts-is, group)
          (group_stays v.settings v.number i v.at rows a.counts.now begun a.variables.now (written a.tally.count a.output.now)
          counted _ _ begins ends done.new.queue done.auto.queue done.result done.new.variables done.new.output visited
          (omega (arith, w.if-done-left.false, done.ensures.within, c.pending_count-left.ensures.is)))
    ]
