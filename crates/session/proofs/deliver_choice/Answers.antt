-- Each choice has its request, which is written for the two processes of the unit.
use mathlib.Core.Path.{◌≡◌, sym, ap, subst, ◌∙◌}
use mathlib.Core.List.{[], ◌∷◌}
use native.Mathlib.Omega.{arith}
use borrow.Author.Tests.{ne_eqb}
use Rattle.record.specs.declared.request.Request.{Request}
use Rattle.rules.specs.Run.{run}
use Rattle.rules.specs.Sample.{deliver_at}
use Rattle.state.specs.State.{state_of}
use Rattle.session.proofs.Written.{Writes, read-written, write-written}
use Rattle.session.proofs.deliver_choice.Goals as goal
use Rattle.session.proofs.deliver_choice.Goals.{Start}

pub deliver_request-requires : goal.deliver_request-requires
deliver_request-requires c =
    subst Writes (sym c.read_at.ensures) (read-written c.args.process c.args.t c.requires.0 c.requires.1)

pub deliver_request-requires-in-2 : goal.deliver_request-requires-in-2
deliver_request-requires-in-2 c =
    subst Writes (sym c.write_at.ensures) (write-written c.args.process c.args.t c.requires.0 c.requires.1 _)

pub deliver_request-requires-in-3 : goal.deliver_request-requires-in-3
deliver_request-requires-in-3 c =
    subst Writes (sym c.write_at-in-3.ensures) (write-written c.args.process c.args.t c.requires.0 c.requires.1 _)

-- the calls of one request
delivered : (c : Start) {q r : Request} → q ≡ r → (run (state_of c.args.r) (deliver_at 0 q ∷ [])).state ≡ (run (state_of c.args.r) (deliver_at 0 r ∷ [])).state
delivered c e = ap (λ (q : Request). (run (state_of c.args.r) (deliver_at 0 q ∷ [])).state) e

pub returns-in-1 : goal.returns-in-1
returns-in-1 c = rw c.in-1.is (c.deliver_request.ensures ∙ delivered (goal.at.returns-in-1 c).Start c.read_at.ensures)

pub returns-in-2 : goal.returns-in-2
returns-in-2 c = rw c.in-2.is (c.deliver_request-in-2.ensures ∙ delivered (goal.at.returns-in-2 c).Start c.write_at.ensures)

pub returns-in-3 : goal.returns-in-3
returns-in-3 c = rw c.in-3.is (c.deliver_request-in-3.ensures ∙ delivered (goal.at.returns-in-3 c).Start c.write_at-in-3.ensures)

pub returns-in_default : goal.returns-in_default
unfolding run
returns-in_default c =
    let choice = c.args.choice in
    rw (ne_eqb choice 1 (omega arith), ne_eqb choice 2 (omega arith), ne_eqb choice 3 (omega arith))
