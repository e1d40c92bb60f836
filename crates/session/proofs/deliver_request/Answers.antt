-- What is delivered is the record of the request.
use mathlib.Core.Path.{ap, ◌∙◌}
use lib.ListN.{replicate}
use Rattle.limits.specs.Limits.{record_size}
use Rattle.question.specs.Question.{after}
use Rattle.rules.specs.Run.{call, run}
use Rattle.session.proofs.deliver_request.Goals as goal

pub returns : goal.returns
unfolding call run
returns c =
    let content = c.write_request.ensures.content ∙ ap (after (replicate record_size 0)) c.requires in
    rw content at c.deliver-d.ensures.state
