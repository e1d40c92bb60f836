use Rattle.std.proofs.Common.{◌∙◌, arith}
use Rattle.ballot.proofs.Heard.{hear_on, hear_end}
use Rattle.vote.proofs.tally.tally.Goals as goal

pub loop-m-preserved : goal.loop-m-preserved
loop-m-preserved c = rw c.hear-b.ensures (hear_on _ _ _ c.loop-m.b c.args.list.now c.loop-m.m-index _ c.loop-m-test.true ∙ c.loop-m.invariant)

pub returns : goal.returns
returns c = hear_end _ _ _ c.loop-m.b c.args.list.now c.loop-m.m-index (omega arith) c.loop-m-test.false ∙ c.loop-m.invariant
