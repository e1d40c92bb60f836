-- A call takes no more than it is lent.
use Rattle.std.proofs.Common.{take, rules, arith, length-take}
use Rattle.transcript.proofs.Block.{taken-lent}
use Rattle.pieces.proofs.Lent.{used-lent}
use Rattle.pieces.proofs.player.Player.play_piece.Goals as goal

pub shared_ref_as_front-text : goal.shared_ref_as_front-text
shared_ref_as_front-text g c =
    let fits = used-lent _ _ c.play_block-b.ensures.played.2 in
    search (rules, fits)

pub returns : goal.returns
returns g c =
    let left = c.args.left.now in
    let size = c.at_most-size.result in
    omega (arith, taken-lent _ _ (take size left) c.play_block-b.ensures.played.1, length-take size left)
