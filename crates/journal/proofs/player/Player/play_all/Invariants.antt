use Rattle.std.proofs.Common.{◌≤◌, length}
use Rattle.journal.proofs.player.Player.play_all.Given as goal

abbrev pub invariant-loop-taken : goal.invariant-loop-taken
invariant-loop-taken g l = length l.left ≤ length l.block

abbrev pub decreases-loop-taken : goal.decreases-loop-taken
decreases-loop-taken g l = length l.left
