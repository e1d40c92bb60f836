-- The sheet is refused with no other number than 15, so not with 11 either.
use mathlib.Core.List.{List, [], ◌∷◌}
use mathlib.Core.Path.{refl}
use Prim.Native.Nat.{ℕ}
use lib.Dec.{leb}
use lib.ListN.{length}
use Rattle.question.specs.Question.{◌else◌, Listed, Never}
use Rattle.question.proofs.Questions.{given_listed, ask_listed}
use Rattle.laws.proofs.Numbers.{listed_never}
use Rattle.sheet.specs.Sheet.{sheet, write_sheet, sheet_numbers}

pub sheet_numbers_lem : (destination : List ℕ) → Listed sheet_numbers (write_sheet destination)
sheet_numbers_lem destination = ask_listed ((leb (length sheet) (length destination) else 15) ∷ []) _ _ (given_listed [] _)

pub sheet-never_11 : (destination : List ℕ) → Never 11 (write_sheet destination)
sheet-never_11 destination = listed_never 11 sheet_numbers refl (sheet_numbers_lem destination)
