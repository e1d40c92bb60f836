-- How long the sheet is, and four of its lines: document 02's two, the first and the last. Assumes nothing.
use mathlib.Core.Path.{◌≡◌, refl}
use mathlib.Core.List.{[], ◌∷◌, map}
use lib.ListN.{length}
use Rattle.rules.specs.Batch.{verdict_of}
use Rattle.rules.specs.Machine.{react, react_all, machine}
use Rattle.text.specs.Text.{decimal_in, decimal, line, joined}
use Rattle.std.specs.Prelude.{codes}
use Rattle.session.specs.Session.{figures_of}
use Rattle.sheet.specs.Sheet.{session_line, sheet}

pub length-sheet : length sheet ≡ 3730
unfolding verdict_of react react_all machine decimal_in decimal line figures_of sheet
length-sheet = refl

pub document_lines : joined (map session_line (0 ∷ 128 ∷ 160 ∷ 255 ∷ [])) ≡ codes "0 0000 0 0 0\n128 2000 1 0 0\n160 2200 0 1 1\n255 3333 0 2 2\n"
unfolding verdict_of react react_all machine decimal_in decimal line figures_of
document_lines = refl
