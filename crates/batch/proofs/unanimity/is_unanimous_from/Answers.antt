use Rattle.std.proofs.Common.{sym, ◌∙◌, ap, refl, arith, length, add-zero}
use mathlib.Core.Bool.{and-true}
use lib.ListN.{length-set, length-map}
use Rattle.queue.specs.Row.{pending_of}
use Rattle.queue.specs.Queue.{places_in}
use Rattle.batch.specs.Head.{requests_at, left_in}
use Rattle.batch.proofs.Lists.{batch_few}
use Rattle.batch.proofs.Agree.{agree-step, agree-unanimous}
use Rattle.batch.proofs.unanimity.is_unanimous_from.Goals as goal

pub overflow_add-size : goal.overflow_add-size
overflow_add-size c =
    let places = places_in c.args.queue.now in
    omega (arith, c.loop-request.invariant.1, ap length c.in-Some.ensures.steps, batch_few c.args.t places, length-map c.args.queue.now pending_of)

pub loop-request-preserved : goal.loop-request-preserved
loop-request-preserved c =
    let inv = c.loop-request.invariant in
    let next = c.in-Some.ensures.steps in (
      simp length-set inv.0,
      omega (arith, inv.1, ap length next),
      rw c.agrees.ensures (agree-step c.args.first c.loop-request.seen c.loop-request.same c.in-Some.request (left_in c.next.new.self) (omega arith)) ∙ (rw next at inv.2),
    )

pub returns : goal.returns
returns c =
    let inv = c.loop-request.invariant in
    let none = c.in-None.ensures.steps.0 in
    let same = sym (and-true c.loop-request.same) ∙ (rw none at inv.2) in
    let size = sym (add-zero c.loop-request.size) ∙ (rw none at inv.1) in
    agree-unanimous c.args.k (requests_at c.args.t (places_in c.args.queue.now)) (rw c.requires at same) (rw size refl)
