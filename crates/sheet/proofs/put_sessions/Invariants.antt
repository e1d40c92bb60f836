-- The lines put so far, with those that are left behind them, are the sheet.
use Rattle.std.proofs.Common.{◌≡◌}
use Rattle.text.specs.Writer.{put}
use Rattle.sheet.specs.Sheet.{sheet}
use Rattle.sheet.proofs.Sheets.{lines_from}
use Rattle.sheet.proofs.put_sessions.Given as goal

abbrev pub invariant-loop-place : goal.invariant-loop-place
invariant-loop-place l = put l.writer (lines_from l.place) ≡ put l.initial.writer sheet
