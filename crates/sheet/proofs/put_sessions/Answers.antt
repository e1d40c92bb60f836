use Rattle.std.proofs.Common.{ap, ◌∙◌, arith}
use Rattle.text.specs.Writer.{put}
use Rattle.sheet.proofs.Sheets.{lines_all, put_next}
use Rattle.sheet.proofs.put_sessions.Goals as goal

pub loop-place-init : goal.loop-place-init
loop-place-init c = ap (put _) lines_all

pub loop-place-preserved : goal.loop-place-preserved
loop-place-preserved c = rw c.put_session.ensures (put_next _ _ (omega arith)) ∙ c.loop-place.invariant
