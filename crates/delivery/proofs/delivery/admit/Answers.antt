-- The questions of the time and the place come after a record that was read.
use Rattle.std.proofs.Common.{◌≡◌, Err, rules}
use Rattle.question.specs.Question.{given}
use Rattle.question.proofs.Questions.{next_no, next_yes}
use Rattle.delivery.proofs.delivery.admit.Goals as goal

pub returns-in_err-check_place : goal.returns-in_err-check_place
returns-in_err-check_place c =
    let is : c.from_residual-in_err-check_place.result ≡ Err c.in_err-check_place.field-0.0 = search rules in
    rw (is, ← c.in_ok-request.ensures) (next_no _ (given c.in_ok-request.request) (rw c.count_of.ensures at c.in_err-check_place.ensures))

pub returns : goal.returns
returns c = rw (← c.in_ok-request.ensures) (next_yes _ (given c.in_ok-request.request) (rw c.count_of.ensures at c.in_ok-check_place.ensures))
