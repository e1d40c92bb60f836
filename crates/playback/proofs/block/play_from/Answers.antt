-- Nothing is played where no unit is set up.
use mathlib.Core.Path.{refl, sym}
use borrow.Author.Tests.{lt-leb}
use Rattle.text.proofs.Put.{puts-nothing}
use Rattle.transcript.proofs.Block.{block-stopped}
use Rattle.playback.proofs.Loop.{room}
use Rattle.playback.proofs.block.play_from.Goals as goal

pub returns-in_default-clause-played : goal.returns-in_default-clause-played
returns-in_default-clause-played c =
    rw (c.in-Playing.is, lt-leb c.in-Playing.u.k 3 c.if-u-le-MAX_K.false, block-stopped (room c.args.writer.now) c.args.block.now) (refl, refl, sym (puts-nothing _))

pub returns-in_default-2-clause-played : goal.returns-in_default-2-clause-played
returns-in_default-2-clause-played c =
    rw (c.in_default.is, block-stopped (room c.args.writer.now) c.args.block.now) (refl, refl, sym (puts-nothing _))
