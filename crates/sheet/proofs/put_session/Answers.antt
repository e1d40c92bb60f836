-- The place, its digits and the figures, one behind the other.
use Rattle.text.proofs.Put.{puts}
use Rattle.sheet.proofs.put_session.Goals as goal

pub returns : goal.returns
returns c =
    rw (c.put_line.ensures, c.put_decimal.ensures, c.digits_word.ensures, c.session_figures-f.ensures) (puts _ _ _)
