use Rattle.std.proofs.Common.{◌∙◌}
use Rattle.ballot.specs.Ballot.{halt_query}
use Rattle.ballot.proofs.Answers.{halt_count_on_lem}
use Rattle.vote.proofs.tally.count_halts.Goals as goal

pub returns : goal.returns
returns c =
    c.answer_halts.ensures
    ∙ rw (c.tally.ensures, c.halt_query.ensures)
    (halt_count_on_lem c.args.k c.args.n (halt_query c.args.group c.args.process) c.args.list.now)
