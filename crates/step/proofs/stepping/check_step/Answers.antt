use Rattle.std.proofs.Common.{rules}
use Rattle.question.specs.Question.{ask}
use Rattle.step.proofs.stepping.check_step.Goals as goal

pub returns-in_err-check_time : goal.returns-in_err-check_time
unfolding ask
returns-in_err-check_time c = search rules

pub returns : goal.returns
unfolding ask
returns c = search rules
