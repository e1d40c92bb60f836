-- the cases of the definition, by the tests that the code makes
use Rattle.std.proofs.Common.{rules}
use Rattle.rules.specs.Vote.{counts_for, counts_as_halt}
use Rattle.ballot.specs.Ballot.{hear}
use Rattle.ballot.proofs.ballot.Ballot.hear.Goals as goal

pub returns-then-passes-answers : goal.returns-then-passes-answers
unfolding hear counts_for
returns-then-passes-answers c = search rules

pub returns-then-passes-halts_for : goal.returns-then-passes-halts_for
unfolding hear counts_for counts_as_halt
returns-then-passes-halts_for c = search rules

pub returns : goal.returns
unfolding hear counts_for counts_as_halt
returns c = search rules
