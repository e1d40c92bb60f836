use mathlib.Core.Path.{refl}
use Rattle.queue.specs.Row.{pending_of}
use Rattle.queue.proofs.row.pending_of.Goals as goal

pub returns : goal.returns
unfolding pending_of
returns c = refl
