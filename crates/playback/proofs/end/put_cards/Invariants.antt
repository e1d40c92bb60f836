-- The lines of the first replicas are put.
use Rattle.std.proofs.Common.{◌≡◌}
use Rattle.text.specs.Writer.{put}
use Rattle.rules.specs.declared.Settings.{Settings}
use Rattle.playback.specs.Arrays.{Arrays}
use Rattle.playback.proofs.Cards.{cards}
use Rattle.playback.proofs.end.put_cards.Given as goal

abbrev pub invariant-loop-i : goal.invariant-loop-i
invariant-loop-i l =
    (u : Settings) (a : Arrays) → a.variables ≡ l.variables → a.writes ≡ l.writes → l.writer ≡ put l.initial.writer (cards u a l.i)
