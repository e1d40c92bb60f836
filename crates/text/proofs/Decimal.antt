-- The decimal digits of a 64-bit number are those that `io::decimal` writes, and at most twenty. Assumes nothing.
use Prim.Native.Nat.{ℕ, zero, suc, ◌-◌, ◌/◌, ◌%◌, ◌^◌, ◌≤◌, ◌<◌}
use mathlib.Core.Path.{◌≡◌, refl}
use mathlib.Core.Bool.{Bool, true, false, cond}
use mathlib.Core.List.{List, [], ◌∷◌, ◌++◌}
use lib.Dec.{ltb}
use lib.ListN.{length, length-append}
use native.Mathlib.Nat.{pow-suc, one-le-pow, mod-eq_of_lt}
use native.Mathlib.Omega.{arith}
use borrow.Author.Tests.{lt-ltb, le-ltb}
use Rattle.io.specs.Digits.{hex_digit_ascii, last_digits, IsDigitCount}
use Rattle.text.specs.Text.{decimal_in, decimal}

-- ── the same digits ──

one_digit : (most n : ℕ) → n < 10 → decimal_in most n ≡ hex_digit_ascii n ∷ []
unfolding decimal_in
one_digit zero n h = refl
one_digit (suc most) n h = rw (lt-ltb n 10 h)

last_digit : (most n : ℕ) → 10 ≤ n → decimal_in (suc most) n ≡ decimal_in most (n / 10) ++ (hex_digit_ascii (n % 10) ∷ [])
unfolding decimal_in
last_digit most n h = rw (le-ltb n 10 h)

more_digits : (count n : ℕ) → IsDigitCount 10 1 n (suc (suc count)) → 10 ^ suc count ≤ n
more_digits count n fewest =
    let last : suc (suc count) - 1 ≡ suc count = omega arith in
    rw last at (fewest.2 (omega arith))

-- at any number of digits: the twenty of `decimal` are not to be computed
fewest_in : (most count n : ℕ) → n < 10 ^ suc most → IsDigitCount 10 1 n count → last_digits 10 count n ≡ decimal_in most n
fewest_in most zero n small fewest = absurd (omega (arith, fewest.0))
fewest_in most (suc zero) n small fewest =
    let few : n < 10 = omega (arith, fewest.1) in
    rw (mod-eq_of_lt few, one_digit most n few)
fewest_in zero (suc (suc count)) n small fewest =
    absurd (omega (arith, more_digits count n fewest, pow-suc 10 count, one-le-pow count 10 (omega arith)))
fewest_in (suc most) (suc (suc count)) n small fewest =
    let high = more_digits count n fewest in
    let many : 10 ≤ n = omega (arith, pow-suc 10 count, one-le-pow count 10 (omega arith)) in
    let first : suc count - 1 ≡ count = omega arith in
    let rest : IsDigitCount 10 1 (n / 10) (suc count) =
    (omega arith, omega (arith, fewest.1, pow-suc 10 (suc count)), λ more. rw first (omega (arith, pow-suc 10 count))) in
    rw (last_digit most n many, fewest_in most (suc count) (n / 10) (omega (arith, pow-suc 10 (suc most))) rest)

pub fewest_decimal : (n count : ℕ) → n < 2 ^ 64 → IsDigitCount 10 1 n count → last_digits 10 count n ≡ decimal n
unfolding decimal
fewest_decimal n count small fewest = fewest_in 19 count n (omega arith) fewest

-- ── at most twenty ──

picked : (b : Bool) (few many : List ℕ) (most : ℕ) → length few ≤ most → length many ≤ most → length (cond b few many) ≤ most
picked true few many most h k = h
picked false few many most h k = k

short_in : (most n : ℕ) → length (decimal_in most n) ≤ suc most
unfolding decimal_in
short_in zero n = omega arith
short_in (suc most) n =
    picked (ltb n 10) (hex_digit_ascii n ∷ []) (decimal_in most (n / 10) ++ (hex_digit_ascii (n % 10) ∷ [])) (suc (suc most)) (omega arith)
    (omega (arith, length-append (decimal_in most (n / 10)) (hex_digit_ascii (n % 10) ∷ []), short_in most (n / 10)))

pub decimal-short : (n : ℕ) → length (decimal n) ≤ 20
unfolding decimal
decimal-short n = short_in 19 n
