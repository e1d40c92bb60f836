use Rattle.std.proofs.Common.{◌∙◌}
use Rattle.ballot.proofs.Answers.{vote_on_lem}
use Rattle.vote.proofs.tally.vote.Goals as goal

pub returns : goal.returns
returns c = c.answer_vote.ensures ∙ rw c.tally.ensures (vote_on_lem c.args.k c.args.n c.args.q c.args.list.now)
