use Rattle.question.proofs.Tests.{both}
use Rattle.ballot.specs.Ballot.{gave}
use Rattle.ballot.proofs.Bits.{election_masked}
use Rattle.ballot.proofs.ballot.Ballot.election.Goals as goal

-- whoever gave the value was heard
pub returns : goal.returns
returns c =
    let a = c.args in
    election_masked _ _ a.self.heard.0 _ _ (gave a.self a.value) (λ i e. (both _ _ e).0) c.of_unit-unit.ensures c.agreed-agreed.ensures
