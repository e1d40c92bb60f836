use Rattle.std.proofs.Common.{rules}
use mathlib.Core.Path.{refl}
use Rattle.playback.specs.Arrays.{arrays}
use Rattle.pieces.proofs.Lent.{used-lent}
use Rattle.pieces.proofs.player.Player.finish.Goals as goal

pub shared_ref_as_front-text : goal.shared_ref_as_front-text
shared_ref_as_front-text g c =
    let self = c.args.self.now in
    let used = c.play_end-used.ensures (arrays self.pending self.counts self.variables self.writes self.lasts) refl refl in
    let fits = used-lent self.text _ used in
    search (rules, fits)
