-- Numbers and lines as text, in ASCII.
use Rattle.std.specs.Prelude.{ℕ, zero, suc, ◌/◌, ◌%◌, cond, List, [], ◌∷◌, ◌++◌, ltb}
use Rattle.std.specs.List.{concat}
use Rattle.io.specs.Digits.{hex_digit_ascii}

-- the decimal digits of a number that has at most `most` of them before the last one
unfoldable pub decimal_in : ℕ → ℕ → List ℕ
decimal_in zero n = hex_digit_ascii n ∷ []
decimal_in (suc most) n = cond (ltb n 10) (hex_digit_ascii n ∷ []) (decimal_in most (n / 10) ++ (hex_digit_ascii (n % 10) ∷ []))

-- those of a 64-bit number: at most twenty
unfoldable pub decimal : ℕ → List ℕ
decimal n = decimal_in 19 n

-- each number with a space before it
abbrev pub spaced : List ℕ → List ℕ
spaced [] = []
spaced (n ∷ numbers) = (32 ∷ decimal n) ++ spaced numbers

-- a word, the numbers and a line end
unfoldable pub line : List ℕ → List ℕ → List ℕ
line word numbers = word ++ (spaced numbers ++ (10 ∷ []))

-- texts one after the other
abbrev pub joined : List (List ℕ) → List ℕ
joined texts = concat texts
