-- Document 02, A1: the drill sheet, as ASCII.
use Rattle.std.specs.Prelude.{ℕ, ◌+◌, List, [], ◌∷◌, ◌++◌, map, leb, length, drop}
use Rattle.question.specs.Question.{◌else◌, Answer, given, ask}
use Rattle.text.specs.Text.{decimal, line, joined}
use Rattle.session.specs.Session.{choices, all_places, figures_of}

-- a space and the four digits of a place
abbrev pub digits_word : ℕ → List ℕ
digits_word place = 32 ∷ map (λ d. 48 + d) (choices place)

-- the line of a session: its place, its four digits, the failed mark, variable 1, the writes performed
abbrev pub session_line : ℕ → List ℕ
session_line place =
    let f = figures_of place in
    decimal place ++ line (digits_word place) (f.failed ∷ f.value ∷ f.writes ∷ [])

-- all 256, from 0 up
unfoldable pub sheet : List ℕ
sheet = joined (map session_line all_places)

-- the sheet written to the start of a destination; 15 where it does not fit
abbrev pub write_sheet : List ℕ → Answer (List ℕ)
write_sheet destination = ask ((leb (length sheet) (length destination) else 15) ∷ []) (given (sheet ++ drop (length sheet) destination))

-- the numbers that it may be refused with
abbrev pub sheet_numbers : List ℕ
sheet_numbers = 15 ∷ []
