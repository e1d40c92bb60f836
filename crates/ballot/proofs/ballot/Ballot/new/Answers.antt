use mathlib.Core.Path.{refl}
use Rattle.ballot.specs.Ballot.{new_ballot}
use Rattle.ballot.proofs.ballot.Ballot.new.Goals as goal

pub returns : goal.returns
unfolding new_ballot
returns c = refl
