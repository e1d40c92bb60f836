use Rattle.std.proofs.Common.{rules}
use Rattle.question.specs.Question.{ask, unit_questions}
use Rattle.checks.proofs.check_settings.Goals as goal

pub returns-in_err-check_unit : goal.returns-in_err-check_unit
unfolding ask unit_questions
returns-in_err-check_unit c = search rules

pub returns-in_err-ask : goal.returns-in_err-ask
unfolding ask unit_questions
returns-in_err-ask c = search rules

pub returns : goal.returns
unfolding ask unit_questions
returns c = search rules
