use Rattle.std.proofs.Common.{rules}
use Rattle.question.specs.Question.{worked}
use Rattle.question.proofs.Questions.{all_yes-given}
use Rattle.record.specs.Record.{field_questions, message_fields}
use Rattle.record.specs.declared.kind.Family.TheVariants.{Messages}
use Rattle.record.proofs.message.Message.passes.Goals as goal

pub returns : goal.returns
returns c =
    let a = c.args in
    let asked = rw c.into.ensures at c.check_fields.ensures in
    let says = all_yes-given (field_questions Messages a.k a.n (message_fields a.self)) worked in
    search rules
