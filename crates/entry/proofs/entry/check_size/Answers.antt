use Rattle.std.proofs.Common.{rules, tests}
use Rattle.question.specs.Question.{ask}
use Rattle.entry.proofs.entry.check_size.Goals as goal

pub returns-then-bytes-eq-ENTRY-clause-asked : goal.returns-then-bytes-eq-ENTRY-clause-asked
unfolding ask
returns-then-bytes-eq-ENTRY-clause-asked c = search (rules, tests)

pub returns-else-bytes-eq-ENTRY-clause-asked : goal.returns-else-bytes-eq-ENTRY-clause-asked
unfolding ask
returns-else-bytes-eq-ENTRY-clause-asked c = search (rules, tests)
