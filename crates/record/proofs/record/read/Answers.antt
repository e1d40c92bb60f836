-- The first questions by themselves; then the fields are read and asked.
use Rattle.std.proofs.Common.{◌≡◌, Err, rules}
use Rattle.question.specs.Question.{given, worked, ask}
use Rattle.question.specs.Refusals.{answer_of}
use Rattle.record.specs.Record.{field_questions}
use Rattle.record.proofs.Reading.{read-refused, read_decided}
use Rattle.record.proofs.record.read.Goals as goal

pub returns-in_err-check_length : goal.returns-in_err-check_length
returns-in_err-check_length g c =
    let is : c.from_residual.result ≡ Err c.in_err-check_length.field-0.0 = search rules in
    rw is (read-refused g.R.Record.FAMILY _ _ _ _ c.check_length.ensures g.R.Record.of c.in_err-check_length.was)

pub returns-in_err-check_fields : goal.returns-in_err-check_fields
returns-in_err-check_fields g c =
    let a = c.args in
    let is : c.from_residual-in_err-check_fields.result ≡ Err c.in_err-check_fields.field-0.0 = search rules in
    let asked : answer_of c.check_fields.result ≡ ask (field_questions g.R.Record.FAMILY a.k a.n c.of_bytes-f.result) (given worked) = cc in
    let decided = read_decided g.R.Record.FAMILY _ _ _ _ c.check_length.ensures g.R.Record.of c.in_ok-check_length.was c.of_bytes-f.ensures asked in
    rw is (rw c.in_err-check_fields.was at decided)

pub returns : goal.returns
returns g c =
    let a = c.args in
    let asked : answer_of c.check_fields.result ≡ ask (field_questions g.R.Record.FAMILY a.k a.n c.of_bytes-f.result) (given worked) = cc in
    let decided = read_decided g.R.Record.FAMILY _ _ _ _ c.check_length.ensures g.R.Record.of c.in_ok-check_length.was c.of_bytes-f.ensures asked in
    rw (g.met.R.Record.from_is _ _ c.from.ensures) (rw c.in_ok-check_fields.was at decided)
