use Rattle.std.proofs.Common.{rules}
use Rattle.question.specs.Question.{ask}
use Rattle.checks.proofs.check_time.Goals as goal

pub returns-in_err-ask : goal.returns-in_err-ask
unfolding ask
returns-in_err-ask c = search rules

pub returns : goal.returns
unfolding ask
returns c = search rules
