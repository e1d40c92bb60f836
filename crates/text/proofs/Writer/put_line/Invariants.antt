use Rattle.std.proofs.Common.{◌≡◌, drop}
use Rattle.text.specs.Text.{spaced}
use Rattle.text.specs.Writer.{put}
use Rattle.text.proofs.Writer.put_line.Given as goal

abbrev pub invariant-loop-n : goal.invariant-loop-n
invariant-loop-n l = put l.self (spaced (drop l.n-index l.numbers)) ≡ put l.initial.self (spaced l.numbers)
