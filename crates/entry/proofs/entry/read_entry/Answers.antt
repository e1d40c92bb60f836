-- The record's questions in their order; then its kind decides.
use Rattle.std.proofs.Common.{◌≡◌, [], Err, rules, tests}
use Rattle.question.specs.Question.{given, ask}
use Rattle.question.proofs.Questions.{asked_no, asked_yes}
use Rattle.entry.specs.Entry.{entry_in, read_entry}
use Rattle.entry.proofs.entry.read_entry.Goals as goal

pub returns-in_err-check_size : goal.returns-in_err-check_size
unfolding read_entry
returns-in_err-check_size c =
    let is : c.from_residual.result ≡ Err c.in_err-check_size.field-0.0 = search rules in
    rw is (asked_no _ _ _ c.in_err-check_size.ensures.asked)

pub returns-in_err-ask : goal.returns-in_err-ask
unfolding read_entry ask
returns-in_err-ask c = search (rules, tests)

pub returns-in_err-ask-2 : goal.returns-in_err-ask-2
unfolding read_entry ask
returns-in_err-ask-2 c = search (rules, tests)

pub returns-in_err-ask-3 : goal.returns-in_err-ask-3
unfolding read_entry
returns-in_err-ask-3 c =
    let is : c.from_residual-in_err-ask-3.result ≡ Err c.in_err-ask-3.field-0.0 = search rules in
    let no =
    asked_yes _ _ _ c.in_ok-check_size.ensures.asked
    (asked_yes _ _ _ c.in_ok-ask.ensures
    (asked_yes _ _ _ c.in_ok-ask-2.ensures
    (asked_no _ [] (given (entry_in c.args.bytes.now)) c.in_err-ask-3.ensures))) in
    rw is (rw (c.is_within-known.ensures, c.is_within-there.ensures, c.is_zero.ensures, c.is_zero-2.ensures) at no)

pub returns-then-kind-eq-DELIVERY : goal.returns-then-kind-eq-DELIVERY
unfolding read_entry ask
returns-then-kind-eq-DELIVERY c = search (rules, tests)

pub returns : goal.returns
unfolding read_entry ask
returns c = search (rules, tests)
