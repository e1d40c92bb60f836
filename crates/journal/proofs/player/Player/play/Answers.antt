-- A call takes no more than it is lent.
use Rattle.std.proofs.Common.{rules}
use Rattle.transcript.proofs.Block.{taken-lent}
use Rattle.journal.proofs.Lent.{used-lent}
use Rattle.journal.proofs.player.Player.play.Goals as goal

pub shared_ref_as_front-text : goal.shared_ref_as_front-text
shared_ref_as_front-text g c =
    let fits = used-lent c.args.self.now.text _ c.play_block-b.ensures.played.2 in
    search (rules, fits)

pub returns : goal.returns
returns g c = taken-lent _ _ _ c.play_block-b.ensures.played.1
