use Rattle.state.proofs.making.new_replica.Goals as goal

pub returns : goal.returns
returns c = rw c.blank-request.ensures
