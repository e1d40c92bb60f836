use Rattle.std.proofs.Common.{◌≡◌, ◌+◌, ◌∙◌, ap, sym, arith}
use Rattle.rules.specs.Replica.{State, written, visit_group, visits}
use Rattle.queue.specs.Queue.{queues_in}
use Rattle.step.specs.Output.{Reached, sends, state_in}
use Rattle.step.proofs.Sends.{sends-still}
use Rattle.step.proofs.Visited.{visits-sends}
use Rattle.step.proofs.visit.visits.Goals as goal

pub loop-i-init : goal.loop-i-init
unfolding visits
loop-i-init c = sym (sends-still c.args.settings (written 0 c.args.output.now) _)

-- the next group's visit sends behind those before it
pub loop-i-preserved : goal.loop-i-preserved
loop-i-preserved c =
    let a = c.args in
    let i = c.loop-i.i in
    let s = state_in a.settings a.number a.at (queues_in a.pending.now a.counts.now) a.performed a.variables.now in
    let before = ap (λ (x : Reached State). sends a.settings x.output (visit_group (i + 1) a.at x.state)) c.loop-i.invariant in
    c.visit-done.ensures ∙ (before ∙ visits-sends a.settings i a.at (written 0 a.output.now) s)

pub returns : goal.returns
returns c =
    let e : c.loop-i.i ≡ c.args.settings.groups = omega arith in
    rw e at c.loop-i.invariant
