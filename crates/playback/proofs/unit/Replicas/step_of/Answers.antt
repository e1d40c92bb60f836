-- The replica's parts are lent, and come back.
use native.Mathlib.Omega.{arith}
use borrow.Author.Rules.{rules}
use Rattle.playback.specs.Arrays.{arrays_of}
use Rattle.playback.proofs.Arrays.{lent-replica, returned-replica}
use Rattle.playback.proofs.unit.Replicas.step_of.Goals as goal

pub returns : goal.returns
returns c =
    let a = c.args in
    let i = c.index-i.result in
    let old = arrays_of a.self.now in
    let r = c.step_lent-done.result in
    let last = c.step_lent-done.new in
    let kept = c.step_lent-done.auto in
    let said = rw (← c.index-i.ensures, lent-replica a.u old i (omega arith) (omega arith) (omega arith) (omega arith)) at c.step_lent-done.ensures in
    let back = returned-replica a.u old i (omega arith) (omega arith) (omega arith) (omega arith) (omega arith) (omega arith) last.pending last.counts last.variables r.writes r.last.0
    kept.pending kept.counts kept.variables _ said.state in
    rw (← c.index-i.ensures) record { same_arrays = search rules; answer = said.answer; state = back; output = said.output }
