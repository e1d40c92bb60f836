-- The calls are those of the session, to a replica that can be made.
use Prim.Native.Nat.{◌<◌}
use mathlib.Core.Path.{◌≡◌, ◌∙◌}
use native.Mathlib.Omega.{arith}
use Rattle.std.proofs.Common.{Ok, rules}
use Rattle.question.proofs.Questions.{same_given}
use Rattle.question.proofs.Refusals.{ok_given}
use Rattle.state.specs.State.{state_of}
use Rattle.session.proofs.Brought.{made, brought}
use Rattle.session.proofs.session_figures.Goals as goal

pub unwrap-new-requires : goal.unwrap-new-requires
unwrap-new-requires c = ok_given state_of c.make.result (c.make.ensures ∙ made c.args.place (omega (arith, c.ranges.place)))

pub returns : goal.returns
returns c =
    let digits = c.choices-c.ensures in
    let place = c.args.place in
    let small : place < 256 = omega (arith, c.ranges.place) in
    let new : c.make.result ≡ Ok c.unwrap-new.result = search rules in
    c.figures_in.ensures ∙ brought place small
    (same_given ((rw new at c.make.ensures) ∙ made place small))
    (rw digits at c.deliver_choice-first.ensures)
    (rw digits at c.deliver_choice-second.ensures)
    (rw digits at c.deliver_choice-third.ensures)
    (rw digits at c.deliver_choice-fourth.ensures)
    c.step-closed.ensures.state
