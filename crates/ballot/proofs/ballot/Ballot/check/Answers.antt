use Rattle.std.proofs.Common.{rules}
use Rattle.question.specs.Question.{ask, unit_questions}
use Rattle.ballot.proofs.ballot.Ballot.check.Goals as goal

pub returns : goal.returns
unfolding ask unit_questions
returns c = search rules

pub returns-in_err-check_unit : goal.returns-in_err-check_unit
unfolding ask unit_questions
returns-in_err-check_unit c = search rules
