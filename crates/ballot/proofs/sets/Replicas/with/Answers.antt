use Rattle.ballot.proofs.Bits.{with_shift}
use Rattle.ballot.proofs.sets.Replicas.with.Goals as goal

pub returns : goal.returns
returns c = with_shift c.args.self.0 c.args.replica c.requires.0 c.requires.1
