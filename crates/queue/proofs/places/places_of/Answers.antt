use Rattle.std.proofs.Common.{◌+◌, ◌-◌, ◌*◌, ◌∙◌, arith, length-append, length-take, length-drop}
use Rattle.queue.specs.Queue.{places_in}
use Rattle.queue.proofs.Rows.{places-part}
use Rattle.queue.proofs.Copies.{copy_group, copy_end}
use Rattle.queue.proofs.places.places_of.Goals as goal

pub loop-group-preserved : goal.loop-group-preserved
loop-group-preserved c =
    let from = 16 * c.loop-group.group in
    let n = from + c.at_most.result - from in (
      simp (length-append, length-take, length-drop) (omega (arith, c.at_most.ensures, c.loop-group.invariant.0, c.write_places.new.places)),
      copy_group (places_in c.args.rows.now) c.args.counts.now c.loop-group.pending c.write_places.new.places c.loop-group.group n c.loop-group.invariant.1
          (omega (arith, c.at_most.ensures)) (omega (arith, c.loop-group.invariant.0)) (omega arith) (c.write_places.ensures ∙ places-part c.args.rows.now from n),
    )

pub returns : goal.returns
returns c = copy_end (places_in c.args.rows.now) c.args.counts.now c.loop-group.pending c.loop-group.group c.loop-group.invariant.1 (omega arith)
