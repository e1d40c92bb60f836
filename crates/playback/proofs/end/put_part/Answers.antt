use Rattle.std.proofs.Common.{sym}
use Rattle.text.proofs.Put.{puts-nothing}
use Rattle.playback.proofs.end.put_part.Goals as goal

pub returns-else-left-ne0 : goal.returns-else-left-ne0
returns-else-left-ne0 c = rw c.if-left-ne0.false (sym (puts-nothing _))
