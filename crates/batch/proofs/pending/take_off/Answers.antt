use Rattle.std.proofs.Common.{[], map, sym, ap, arith, ◌∙◌}
use Rattle.std.proofs.lemmas.List.{take-map, get_or_default}
use Rattle.std.proofs.lemmas.List.Filters.{FiltersInPlace-all, FiltersInPlace-more_no, FiltersInPlace-more_set}
use Rattle.queue.specs.Row.{pending_of}
use Rattle.batch.proofs.Lists.{keep-map}
use Rattle.batch.proofs.pending.take_off.Goals as goal
use Rattle.batch.proofs.pending.take_off.Goals.{then-not-in_batch, else-not-in_batch}

pub loop-i-preserved : goal.loop-i-preserved
loop-i-preserved c =
    let i = c.loop-i.i in
    let row = get_or_default c.loop-i.queue i [] _ (omega arith) in
    elim c.if-not-in_batch.branch [
      | then-not-in_batch w ↦ rw (w.queue-is, w.kept-is) (FiltersInPlace-more_set c.loop-i.invariant (omega arith) (rw (← c.pending_of.ensures, ← c.in_batch.ensures, w.if-not-in_batch.true)) row)
      | else-not-in_batch w ↦ rw (w.queue-is, w.kept-is) (FiltersInPlace-more_no c.loop-i.invariant (omega arith) (rw (← c.pending_of.ensures, ← c.in_batch.ensures, w.if-not-in_batch.false)) row)
    ]

pub returns-clause-stay : goal.returns-clause-stay
returns-clause-stay c =
    take-map pending_of c.loop-i.kept c.loop-i.queue
    ∙ (ap (λ rows. map pending_of rows) (FiltersInPlace-all c.loop-i.invariant (omega arith)) ∙ sym (keep-map pending_of _ c.args.queue.now))
