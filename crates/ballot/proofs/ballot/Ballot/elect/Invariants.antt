-- the election among the replicas up to i is that among all, for none past i wins
use Rattle.std.proofs.Common.{◌+◌, ◌*◌, ◌≡◌}
use Rattle.ballot.specs.Ballot.{elect_in}
use Rattle.ballot.proofs.ballot.Ballot.elect.Given as goal

abbrev pub invariant-loop-i : goal.invariant-loop-i
invariant-loop-i l = elect_in l.k l.self l.i ≡ elect_in l.k l.self (2 * l.k + 1)
