-- The questions are asked first, and decide both the answer and what is written.
use Rattle.std.proofs.Common.{◌≡◌, ◌∙◌, ap, refl, Err, length, rules}
use Rattle.question.specs.Question.{given, worked, ask}
use Rattle.question.specs.Refusals.{answer_of}
use Rattle.layout.proofs.Layouts.{put_in_lem}
use Rattle.record.specs.Record.{write_questions}
use Rattle.record.proofs.Reading.{write-room, write_decided}
use Rattle.record.proofs.record.write.Goals as goal

pub returns-in_err-check_write : goal.returns-in_err-check_write
returns-in_err-check_write g c =
    let a = c.args in
    let before = a.destination.now in
    let asked : answer_of c.check_write.result ≡ ask (write_questions g.R.Record.FAMILY a.k a.n c.into-f.result (length before)) (given worked) = cc in
    let is : c.from_residual.result ≡ Err c.in_err-check_write.field-0.0 = search rules in
    let of = g.met.R.Record.into_is _ _ c.into-f.ensures in
    let both = write_decided g.R.Record.FAMILY _ _ _ before _ asked of {content = before} (rw c.in_err-check_write.was refl) in
    record { answer = rw is (rw c.in_err-check_write.was at both.0); content = both.1 }

pub returns : goal.returns
returns g c =
    let a = c.args in
    let before = a.destination.now in
    let asked : answer_of c.check_write.result ≡ ask (write_questions g.R.Record.FAMILY a.k a.n c.into-f.result (length before)) (given worked) = cc in
    let room = write-room g.R.Record.FAMILY _ _ _ before _ asked (ap answer_of c.in_ok-check_write.was) in
    let of = g.met.R.Record.into_is _ _ c.into-f.ensures in
    let written = c.put.ensures ∙ put_in_lem c.into-f.result before room in
    let both = write_decided g.R.Record.FAMILY _ _ _ before _ asked of (rw c.in_ok-check_write.was written) in
    record { answer = rw c.in_ok-check_write.was at both.0; content = both.1 }
