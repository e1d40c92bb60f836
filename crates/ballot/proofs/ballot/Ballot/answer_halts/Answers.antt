-- The questions are asked by themselves: on a yes, the count is the answer.
use Rattle.std.proofs.Common.{◌≡◌, ◌∙◌, ap, Err, rules}
use Rattle.question.specs.Question.{given}
use Rattle.question.proofs.Questions.{next_no, next_yes}
use Rattle.rules.specs.Sets.{has}
use Rattle.rules.specs.Vote.{halts_by}
use Rattle.ballot.specs.Ballot.{ballot_questions, halt_count_on}
use Rattle.ballot.proofs.Answers.{asked-small}
use Rattle.ballot.proofs.ballot.Ballot.answer_halts.Goals as goal

pub halts-requires : goal.halts-requires
halts-requires c = asked-small c.args.k c.args.n c.args.self c.in_ok-check.ensures

pub returns-in_err-check : goal.returns-in_err-check
unfolding halt_count_on
returns-in_err-check c =
    let is : c.from_residual.result ≡ Err c.in_err-check.field-0.0 = search rules in
    rw is (next_no (ballot_questions c.args.k c.args.n c.args.self) (given (halts_by c.args.k (has c.args.self.halted.0))) c.in_err-check.ensures)

pub returns : goal.returns
unfolding halt_count_on
returns c =
    ap given c.halts.ensures ∙ next_yes (ballot_questions c.args.k c.args.n c.args.self) (given (halts_by c.args.k (has c.args.self.halted.0))) c.in_ok-check.ensures
