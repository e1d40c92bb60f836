-- The questions are asked by themselves: on a yes, the election is the answer.
use Rattle.std.proofs.Common.{◌≡◌, ◌+◌, ◌*◌, ◌∙◌, Err, rules}
use Rattle.question.proofs.Questions.{next_no, next_yes}
use Rattle.ballot.specs.Ballot.{elect_in, ballot_questions, vote_on}
use Rattle.ballot.proofs.Answers.{asked-small}
use Rattle.ballot.proofs.ballot.Ballot.answer_vote.Goals as goal

pub elect-requires : goal.elect-requires
elect-requires c = asked-small c.args.k c.args.n c.args.self c.in_ok-check.ensures

pub returns-in_err-check : goal.returns-in_err-check
unfolding vote_on
returns-in_err-check c =
    let is : c.from_residual.result ≡ Err c.in_err-check.field-0.0 = search rules in
    rw is (next_no (ballot_questions c.args.k c.args.n c.args.self) (elect_in c.args.k c.args.self (2 * c.args.k + 1)) c.in_err-check.ensures)

pub returns : goal.returns
unfolding vote_on
returns c =
    c.elect.ensures ∙ next_yes (ballot_questions c.args.k c.args.n c.args.self) (elect_in c.args.k c.args.self (2 * c.args.k + 1)) c.in_ok-check.ensures
