-- How long a line is at most, and joined texts. Assumes nothing.
use Prim.Native.Nat.{ℕ, ◌+◌, ◌*◌, ◌≤◌}
use mathlib.Core.Path.{◌≡◌}
use mathlib.Core.List.{List, [], ◌∷◌, ◌++◌}
use lib.ListN.{length, length-append}
use native.Mathlib.Omega.{arith}
use Rattle.std.proofs.lemmas.List.Folds.{concat-append}
use Rattle.text.specs.Text.{decimal, spaced, line, joined}
use Rattle.text.proofs.Decimal.{decimal-short}

spaced-short : (numbers : List ℕ) → length (spaced numbers) ≤ 21 * length numbers
spaced-short [] = omega arith
spaced-short (n ∷ numbers) =
    omega (arith, length-append (32 ∷ decimal n) (spaced numbers), decimal-short n, spaced-short numbers)

pub line-short : (word numbers : List ℕ) → length (line word numbers) ≤ length word + 21 * length numbers + 1
unfolding line
line-short word numbers =
    omega (arith, length-append word (spaced numbers ++ (10 ∷ [])), length-append (spaced numbers) (10 ∷ []), spaced-short numbers)

pub joined-append : (texts more : List (List ℕ)) → joined (texts ++ more) ≡ joined texts ++ joined more
joined-append texts more = concat-append texts more
