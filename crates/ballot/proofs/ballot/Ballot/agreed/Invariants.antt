-- the set is that of the replicas before i
use Rattle.std.proofs.Common.{◌-◌, ◌≡◌}
use Rattle.rules.specs.Sets.{set_of}
use Rattle.ballot.specs.Ballot.{gave}
use Rattle.ballot.proofs.ballot.Ballot.agreed.Given as goal

abbrev pub invariant-loop-i : goal.invariant-loop-i
invariant-loop-i l = l.set.0 ≡ set_of (gave l.self l.value) (l.i - 1)
