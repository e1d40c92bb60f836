-- The record's own questions in their order, then those of the settings.
use Rattle.std.proofs.Common.{◌≡◌, List, [], ◌∷◌, Err, rules, tests}
use Rattle.question.specs.Question.{Question, Answer, given, worked, ask}
use Rattle.question.proofs.Questions.{asked_no, asked_yes, next_no, next_yes}
use Rattle.entry.specs.Entry.{read_setup}
use Rattle.entry.proofs.entry.read_setup.Goals as goal

-- 18, 19, 5 and 20 answered yes
asked : {A : Type 0} (size kind replica zero : Question) (later : List Question) (rest : Answer A) {answer : Answer A} →
    given worked ≡ ask (size ∷ []) (given worked) → given worked ≡ ask (kind ∷ []) (given worked) → given worked ≡ ask (replica ∷ []) (given worked) → given worked ≡ ask (zero ∷ []) (given worked) →
    answer ≡ ask later rest → answer ≡ ask (size ∷ kind ∷ replica ∷ zero ∷ later) rest
asked size kind replica zero later rest one two three four e =
    asked_yes _ _ _ one (asked_yes _ _ _ two (asked_yes _ _ _ three (asked_yes _ _ _ four e)))

pub returns-in_err-check_size : goal.returns-in_err-check_size
unfolding read_setup
returns-in_err-check_size c =
    let is : c.from_residual.result ≡ Err c.in_err-check_size.field-0.0 = search rules in
    rw is (asked_no _ _ _ c.in_err-check_size.ensures.asked)

pub returns-in_err-ask : goal.returns-in_err-ask
unfolding read_setup
returns-in_err-ask c =
    let is : c.from_residual-in_err-ask.result ≡ Err c.in_err-ask.field-0.0 = search rules in
    rw is (asked_yes _ _ _ c.in_ok-check_size.ensures.asked (asked_no _ _ _ c.in_err-ask.ensures))

pub returns-in_err-ask-2 : goal.returns-in_err-ask-2
unfolding read_setup
returns-in_err-ask-2 c =
    let is : c.from_residual-in_err-ask-2.result ≡ Err c.in_err-ask-2.field-0.0 = search rules in
    rw is
    (asked_yes _ _ _ c.in_ok-check_size.ensures.asked
    (asked_yes _ _ _ c.in_ok-ask.ensures
    (asked_no _ _ _ c.in_err-ask-2.ensures)))

pub returns-in_err-ask-3 : goal.returns-in_err-ask-3
unfolding read_setup ask
returns-in_err-ask-3 c = search (rules, tests)

pub returns-in_err-check_settings : goal.returns-in_err-check_settings
unfolding read_setup
returns-in_err-check_settings c =
    let is : c.from_residual-in_err-check_settings.result ≡ Err c.in_err-check_settings.field-0.0 = search rules in
    let no = asked _ _ _ _ _ _ c.in_ok-check_size.ensures.asked c.in_ok-ask.ensures c.in_ok-ask-2.ensures c.in_ok-ask-3.ensures (next_no _ (given c.settings_in-settings.result) c.in_err-check_settings.ensures) in
    rw is (rw (c.is_zero.ensures, c.is_zero-2.ensures, c.settings_in-settings.ensures) at no)

pub returns : goal.returns
unfolding read_setup
returns c =
    let yes = asked _ _ _ _ _ _ c.in_ok-check_size.ensures.asked c.in_ok-ask.ensures c.in_ok-ask-2.ensures c.in_ok-ask-3.ensures (next_yes _ (given c.settings_in-settings.result) c.in_ok-check_settings.ensures) in
    rw c.settings_in-settings.ensures (rw (c.is_zero.ensures, c.is_zero-2.ensures, c.settings_in-settings.ensures) at yes)
