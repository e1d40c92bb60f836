-- The loop's invariant: the election among the first i replicas is that among all, for none past i wins.
use mathlib.Core.Path.{sym, ◌∙◌}
use native.Mathlib.Omega.{arith}
use Rattle.ballot.proofs.Answers.{elect-hit, elect_miss, elect_end}
use Rattle.ballot.proofs.ballot.Ballot.elect.Goals as goal

pub returns-then-has-enough : goal.returns-then-has-enough
returns-then-has-enough c =
    let wins = rw (c.has.ensures, c.election-e.ensures) at c.if-has-enough.true in
    rw c.election-e.ensures (sym (elect-hit c.args.k c.args.self c.loop-i.i (omega arith) wins) ∙ c.loop-i.invariant)

pub loop-i-preserved : goal.loop-i-preserved
loop-i-preserved c =
    let loses = rw (c.has.ensures, c.election-e.ensures) at c.if-has-enough.false in
    sym (elect_miss c.args.k c.args.self c.loop-i.i (omega arith) loses) ∙ c.loop-i.invariant

pub returns : goal.returns
returns c =
    sym (elect_end c.args.k c.args.self c.loop-i.i (omega arith)) ∙ c.loop-i.invariant
