-- The lines of the first replicas, and that of the next behind them.
use Rattle.std.proofs.Common.{sym, ◌∙◌, arith}
use Rattle.text.proofs.Put.{puts-nothing}
use Rattle.playback.proofs.Cards.{cards_next}
use Rattle.playback.proofs.end.put_cards.Goals as goal

pub loop-i-init : goal.loop-i-init
loop-i-init c = λ u arrays e f. sym (puts-nothing _)

pub loop-i-preserved : goal.loop-i-preserved
loop-i-preserved c =
    λ u arrays e f.
    (rw (← e, ← f, c.loop-i.invariant u arrays e f) at c.put_card.ensures) ∙ cards_next u arrays _ c.loop-i.i (omega arith)
