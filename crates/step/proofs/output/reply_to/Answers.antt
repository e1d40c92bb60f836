use Rattle.step.proofs.output.reply_to.Goals as goal

pub returns : goal.returns
returns c = λ s e. rw (e, c.value_of.ensures)
