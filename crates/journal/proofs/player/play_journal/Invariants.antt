use Rattle.std.proofs.Common.{◌≡◌, ◌≤◌, length}
use Rattle.journal.proofs.player.play_journal.Given as goal

abbrev pub invariant-loop : goal.invariant-loop
invariant-loop g l = (l.held ≤ 64000) × (length l.block ≡ 64000)
