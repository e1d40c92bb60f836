use Rattle.ballot.proofs.Bits.{halts_masked}
use Rattle.ballot.proofs.ballot.Ballot.halts.Goals as goal

pub returns : goal.returns
returns c = halts_masked _ _ _ c.of_unit.ensures
