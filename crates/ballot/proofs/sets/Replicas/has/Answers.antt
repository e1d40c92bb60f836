use Rattle.ballot.proofs.Bits.{has_shift}
use Rattle.ballot.proofs.sets.Replicas.has.Goals as goal

pub returns : goal.returns
returns c = has_shift c.args.self.0 c.args.replica c.requires.0
