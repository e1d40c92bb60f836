-- The destination is as long as the sheet, or is left.
use Rattle.std.proofs.Common.{◌≡◌, ◌≤◌, true, length, leb, rules, arith}
use borrow.Author.Tests.{leb-true, le-leb}
use Rattle.text.specs.Writer.{put}
use Rattle.sheet.specs.Sheet.{sheet}
use Rattle.sheet.proofs.Sheets.{put-sheet}
use Rattle.question.specs.Question.{ask}
use Rattle.sheet.proofs.Computed.{length-sheet}
use Rattle.sheet.proofs.write_sheet.Goals as goal

pub returns-in_err-ask-clause-answer : goal.returns-in_err-ask-clause-answer
unfolding ask
returns-in_err-ask-clause-answer c = rw length-sheet (search rules)

pub returns-in_err-ask-clause-content : goal.returns-in_err-ask-clause-content
unfolding ask
returns-in_err-ask-clause-content c = rw length-sheet (search rules)

pub returns-clause-answer : goal.returns-clause-answer
unfolding ask
returns-clause-answer c = rw length-sheet (search rules)

pub returns-clause-content : goal.returns-clause-content
unfolding ask put
returns-clause-content c =
    let destination = c.args.destination.now in
    let fits : leb 3730 (length destination) ≡ true = search rules in
    let room : length sheet ≤ length destination = omega (arith, length-sheet, leb-true 3730 (length destination) fits) in
    rw (le-leb (length sheet) (length destination) room, ← put-sheet destination room) (search rules)
