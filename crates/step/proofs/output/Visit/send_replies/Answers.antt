use Rattle.rules.specs.Replica.{put_all}
use Rattle.step.proofs.output.Visit.send_replies.Goals as goal

pub loop-request-preserved : goal.loop-request-preserved
unfolding put_all
loop-request-preserved c =
    λ s e. rw (c.put-next.ensures, c.reply_to-reply.ensures s e) (rw c.in-Some.ensures.steps at (c.loop-request.invariant s e))

pub returns : goal.returns
unfolding put_all
returns c = λ s e. rw c.in-None.ensures.steps.0 at (c.loop-request.invariant s e)
