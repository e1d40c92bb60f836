-- The lines put so far, with those of the records that are left behind them, are the lines of all.
use Rattle.std.proofs.Common.{◌≡◌, map}
use Rattle.limits.specs.Limits.{record_size}
use Rattle.text.specs.Text.{joined}
use Rattle.text.specs.Writer.{put}
use Rattle.rules.specs.Run.{messages_in}
use Rattle.lines.specs.Lines.{message_line}
use Rattle.lines.proofs.put_messages.Given as goal

abbrev pub invariant-loop-bytes : goal.invariant-loop-bytes
invariant-loop-bytes l =
    let left = l.bytes-iterator in
    (left.iter.size ≡ record_size)
    × (put l.writer (joined (map message_line (messages_in l.k l.groups left.n left.iter.rest.now)))
    ≡ put l.initial.writer (joined (map message_line (messages_in l.k l.groups l.count l.sent))))
