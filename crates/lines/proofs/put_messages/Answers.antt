-- Where no record is left, nor asked for, all lines are put.
use Rattle.std.proofs.Common.{◌∙◌, sym, append-nil, arith}
use Rattle.text.proofs.Put.{puts-nothing}
use Rattle.lines.proofs.Messages.{none_left, put_next}
use Rattle.lines.proofs.put_messages.Goals as goal

pub loop-bytes-preserved-in-Ok : goal.loop-bytes-preserved-in-Ok
loop-bytes-preserved-in-Ok c =
    let e = c.in-Some.ensures.steps in (
      e.0.0 ∙ c.loop-bytes.invariant.0,
      put_next _ _ _ _ _ _ _ _ _ e.0.1.0 (e.0.1.1 ∙ c.loop-bytes.invariant.0) e.1 (rw (← c.in-Ok.ensures, append-nil) c.put_message.ensures) ∙ c.loop-bytes.invariant.1,
    )

pub loop-bytes-preserved : goal.loop-bytes-preserved
loop-bytes-preserved c =
    let e = c.in-Some.ensures.steps in (
      e.0.0 ∙ c.loop-bytes.invariant.0,
      put_next _ _ _ _ _ _ _ _ _ e.0.1.0 (e.0.1.1 ∙ c.loop-bytes.invariant.0) e.1 (rw (← c.in_default.ensures) (sym (puts-nothing _))) ∙ c.loop-bytes.invariant.1,
    )

pub returns : goal.returns
returns c =
    let left = c.loop-bytes.bytes-iterator in
    let none = none_left c.args.k c.args.groups left.n left.iter.rest.now (λ more. omega (arith, c.in-None.ensures.steps more, c.loop-bytes.invariant.0)) in
    sym (puts-nothing _) ∙ (rw none at c.loop-bytes.invariant.1)
