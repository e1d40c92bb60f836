use Rattle.std.proofs.Common.{◌≡◌, Err, rules}
use Rattle.rules.specs.Replica.{settings_questions}
use Rattle.question.proofs.Questions.{asked_no, asked_yes}
use Rattle.state.proofs.making.check_make.Goals as goal

pub returns-in_err-check_settings : goal.returns-in_err-check_settings
returns-in_err-check_settings c =
    let is : c.from_residual.result ≡ Err c.in_err-check_settings.field-0.0 = search rules in
    rw is (asked_no (settings_questions c.args.u) _ _ c.in_err-check_settings.ensures)

pub returns : goal.returns
returns c = asked_yes (settings_questions c.args.u) _ _ c.in_ok-check_settings.ensures (rw c.is_within-own.ensures at c.ask.ensures)
