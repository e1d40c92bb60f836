-- the ballot so far, with the messages that are left heard too, is the ballot of the whole list
use Rattle.std.proofs.Common.{◌≡◌, drop}
use Rattle.ballot.specs.Ballot.{hear_all, ballot_of}
use Rattle.vote.proofs.tally.tally.Given as goal

abbrev pub invariant-loop-m : goal.invariant-loop-m
invariant-loop-m l = hear_all l.k l.n l.q l.b (drop l.m-index l.list) ≡ ballot_of l.k l.n l.q l.list
