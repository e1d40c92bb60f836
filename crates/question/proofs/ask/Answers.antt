use Rattle.std.proofs.Common.{refl}
use Rattle.question.specs.Question.{ask}
use Rattle.question.proofs.ask.Goals as goal

pub returns-then-yes : goal.returns-then-yes
unfolding ask
returns-then-yes c = rw c.if-yes.true refl

pub returns-else-yes : goal.returns-else-yes
unfolding ask
returns-else-yes c = rw c.if-yes.false refl
