-- Laws of sets of replicas: what a set with one replica more has, what a set by a test has, and how many.
use Prim.Native.Nat.{ℕ, zero, suc, ◌+◌, ◌*◌, ◌-◌, ◌/◌, ◌%◌, ◌^◌, ◌≤◌, ◌<◌, max}
use mathlib.Core.Path.{◌≡◌, refl, sym, ◌∙◌, ap}
use mathlib.Core.Bool.{Bool, true, false, cond, ◌||◌, or-true, or-false}
use native.Mathlib.Nat.{div_self, div-eq_of_lt, mod-lt, mod-eq_of_lt, mod-one, mul-mod_left, max-zero, one-mul}
use native.Mathlib.Numerals.{add-one}
use native.Mathlib.Omega.{arith}
use lib.Arith.{digits_mod}
use lib.Bits.{bit_or, or_shr, or_step, or_shifted_r}
use lib.Count.{ones, ones_cat}
use lib.Dec.{eqb, leb, ltb, lit<}
use lib.Pow.{pow_pos, pow-lt, pow-add, shl-shr, mod-pow-add}
use borrow.Author.Tests.{ltb-true, ltb-false, eqb-true, eqb-false, eq-eqb, ne_eqb, leb-true, leb-false}
use Rattle.question.proofs.Tests.{case, true-not-false}
use Rattle.rules.specs.Lists.{tally}
use Rattle.rules.specs.Sets.{has, with, set_of}
use Rattle.laws.proofs.Lists.{tally_same}

-- ── what a set has ──

-- a bit of a union
or_bit : (a b j : ℕ) → bit_or a b / 2 ^ j % 2 ≡ max (a / 2 ^ j % 2) (b / 2 ^ j % 2)
or_bit a b j =
    let low : (x : ℕ) → x % 2 < 2 = λ x. mod-lt x (lit< tt) in
    ap (λ (x : ℕ). x % 2) (or_shr a b j ∙ or_step (a / 2 ^ j) (b / 2 ^ j))
    ∙ digits_mod (bit_or (a / 2 ^ j / 2) (b / 2 ^ j / 2)) (omega (arith, low (a / 2 ^ j), low (b / 2 ^ j)))

-- a power of 2 has no other bit
pow_bit : (i j : ℕ) → (i ≡ j → ⊥) → 2 ^ i / 2 ^ j % 2 ≡ 0
pow_bit i j apart = case (ltb i j)
    (λ e. ap (λ (x : ℕ). x % 2) (div-eq_of_lt (pow-lt (ltb-true i j e))))
    (λ e.
    let m = i - j - 1 in
    let f : i ≡ (m + 1) + j = omega (arith, apart, ltb-false i j e) in
    ap (λ (x : ℕ). 2 ^ x / 2 ^ j % 2) f ∙ ap (λ (x : ℕ). x / 2 ^ j % 2) (pow-add 2 (m + 1) j)
    ∙ ap (λ (x : ℕ). x % 2) (shl-shr (2 ^ (m + 1)) j ∙ pow-add 2 m 1) ∙ mul-mod_left (2 ^ m) 2)

pub has_none : (i : ℕ) → has 0 i ≡ false
unfolding has
has_none zero = refl
has_none (suc i) = ap (λ (x : ℕ). eqb (x % 2) 1) (div-eq_of_lt (pow_pos i))

-- a set with one replica more has that one too
pub has_with : (set replica i : ℕ) → 1 ≤ replica → has (with set replica) i ≡ has set i || eqb replica i
unfolding has with
has_with set zero i h = absurd (omega arith)
has_with set (suc r) zero h = sym (ne_eqb (suc r) zero (λ e. omega arith))
has_with set (suc r) (suc i) h = case (eqb (suc r) (suc i))
    (λ e.
    let f : r ≡ i = omega (arith, eqb-true (suc r) (suc i) e) in
    let low : set / 2 ^ i % 2 < 2 = mod-lt (set / 2 ^ i) (lit< tt) in
    let one : 2 ^ r / 2 ^ i % 2 ≡ 1 = rw f (ap (λ (x : ℕ). x % 2) (div_self (pow_pos i))) in
    let bit : bit_or set (2 ^ r) / 2 ^ i % 2 ≡ 1 = or_bit set (2 ^ r) i ∙ omega (arith, low, one) in
    eq-eqb _ _ bit ∙ sym (ap (λ (t : Bool). eqb (set / 2 ^ i % 2) 1 || t) e ∙ or-true (eqb (set / 2 ^ i % 2) 1)))
    (λ e.
    let apart : r ≡ i → ⊥ = λ f. eqb-false (suc r) (suc i) e (ap suc f) in
    let bit : bit_or set (2 ^ r) / 2 ^ i % 2 ≡ set / 2 ^ i % 2 =
    or_bit set (2 ^ r) i ∙ ap (max (set / 2 ^ i % 2)) (pow_bit r i apart) ∙ max-zero (set / 2 ^ i % 2) in
    ap (λ (x : ℕ). eqb x 1) bit ∙ sym (ap (λ (t : Bool). eqb (set / 2 ^ i % 2) 1 || t) e ∙ or-false (eqb (set / 2 ^ i % 2) 1)))

-- ── how many a set has ──

-- a bit counts as one where it is set
ones_bit : (x : ℕ) → ones (x % 2) ≡ cond (eqb (x % 2) 1) 1 0
unfolding ones
ones_bit x = case (eqb (x % 2) 1)
    (λ e. rw (e, eqb-true (x % 2) 1 e))
    (λ e. let low : x % 2 < 2 = mod-lt x (lit< tt) in let f : x % 2 ≡ 0 = omega (arith, low, eqb-false (x % 2) 1 e) in rw f)

one_more : (n : ℕ) → suc n ≡ 1 + n
one_more n = omega arith

-- the highest of the lowest bits is counted apart
ones_cut : (set n : ℕ) → ones (set % 2 ^ suc n) ≡ ones (set / 2 ^ n % 2) + ones (set % 2 ^ n)
ones_cut set n =
    ap (λ (m : ℕ). ones (set % 2 ^ m)) (one_more n)
    ∙ ap ones (mod-pow-add set 1 n)
    ∙ ones_cat n (set / 2 ^ n % 2) (set % 2 ^ n) (mod-lt set (pow_pos n))

-- the ones of the lowest bits are the replicas that the set has, from 1 up
pub ones_has : (set n : ℕ) → ones (set % 2 ^ n) ≡ tally (has set) n
unfolding has ones
ones_has set zero = ap ones (mod-one set)
ones_has set (suc n) = case (eqb (set / 2 ^ n % 2) 1)
    (λ e. rw e (omega (arith, ones_cut set n, ones_has set n, rw e at (ones_bit (set / 2 ^ n)))))
    (λ e. rw e (omega (arith, ones_cut set n, ones_has set n, rw e at (ones_bit (set / 2 ^ n)))))

-- ── sets by a test ──

pub double : (n : ℕ) → 2 ^ suc n ≡ 2 ^ n + 2 ^ n
double n = ap (λ (m : ℕ). 2 ^ m) (one_more n) ∙ pow-add 2 1 n ∙ omega arith

-- a bit above all others is added
pub with_top : (set n : ℕ) → set < 2 ^ n → with set (suc n) ≡ 1 * 2 ^ n + set
unfolding with
with_top set n h = ap (bit_or set) (sym (one-mul (2 ^ n))) ∙ or_shifted_r 1 n set h

-- a set of the replicas 1 to n has n bits
pub set-small : (p : ℕ → Bool) (n : ℕ) → set_of p n < 2 ^ n
unfolding set_of
set-small p zero = lit< tt
set-small p (suc n) =
    let h = set-small p n in
    case (p (suc n))
    (λ e. rw e (omega (arith, with_top (set_of p n) n h, double n)))
    (λ e. rw e (omega (arith, double n)))

-- one replica more is taken, or left out; and none is left
pub set-taken : (p : ℕ → Bool) (n set : ℕ) → set ≡ set_of p n → p (n + 1) ≡ true → with set (n + 1) ≡ set_of p (n + 1)
unfolding set_of
set-taken p n set e t = rw (e, add-one) (rw (rw add-one at t))

pub set_left : (p : ℕ → Bool) (n set : ℕ) → set ≡ set_of p n → p (n + 1) ≡ false → set ≡ set_of p (n + 1)
unfolding set_of
set_left p n set e t = rw (e, add-one) (rw (rw add-one at t))

pub set_end : (p : ℕ → Bool) (n last set : ℕ) → n ≤ last → last ≤ n → set ≡ set_of p n → set ≡ set_of p last
set_end p n last set lo hi e = let f : n ≡ last = omega arith in e ∙ ap (set_of p) f

-- no replica past n is in it
pub set_past : (p : ℕ → Bool) (n i : ℕ) → n < i → has (set_of p n) i ≡ false
unfolding set_of
set_past p zero i h = has_none i
set_past p (suc n) i h =
    let r = set_past p n i (omega arith) in
    case (p (suc n))
    (λ e. rw e (has_with (set_of p n) (suc n) i (omega arith) ∙ rw (r, ne_eqb (suc n) i (λ f. omega arith))))
    (λ e. rw e r)

-- one of 1 to n is in it where it passes
pub set-has : (p : ℕ → Bool) (n i : ℕ) → 1 ≤ i → i ≤ n → has (set_of p n) i ≡ p i
unfolding set_of
set-has p zero i lo hi = absurd (omega arith)
set-has p (suc n) i lo hi = case (eqb (suc n) i)
    (λ e.
    let f = eqb-true (suc n) i e in
    let past = set_past p n i (omega arith) in
    case (p (suc n))
    (λ t. rw t (has_with (set_of p n) (suc n) i (omega arith) ∙ rw (past, e, ← f) (sym t)))
    (λ t. rw t (past ∙ rw (← f) (sym t))))
    (λ e.
    let r = set-has p n i lo (omega (arith, eqb-false (suc n) i e)) in
    case (p (suc n))
    (λ t. rw t (has_with (set_of p n) (suc n) i (omega arith) ∙ rw (r, e) (or-false (p i))))
    (λ t. rw t r))

-- what is in it is one of 1 to n that passes
pub set_in : (p : ℕ → Bool) (n i : ℕ) → has (set_of p n) i ≡ true → (1 ≤ i) × (i ≤ n) × (p i ≡ true)
unfolding has
set_in p n zero e = true-not-false false e refl
set_in p n (suc i) e = case (leb (suc i) n)
    (λ t. let high = leb-true (suc i) n t in (omega arith, high, sym (set-has p n (suc i) (omega arith) high) ∙ e))
    (λ t. true-not-false (has (set_of p n) (suc i)) e (set_past p n (suc i) (leb-false (suc i) n t)))

-- tests that agree on 1 to n have the same set
pub set_same : (p q : ℕ → Bool) (n : ℕ) → ((i : ℕ) → 1 ≤ i → i ≤ n → p i ≡ q i) → set_of p n ≡ set_of q n
unfolding set_of
set_same p q zero h = refl
set_same p q (suc n) h = rw (h (suc n) (omega arith) (omega arith), set_same p q n (λ i lo hi. h i lo (omega arith)))

-- its ones are the numbers that pass
pub ones_set : (p : ℕ → Bool) (n : ℕ) → ones (set_of p n) ≡ tally p n
ones_set p n =
    ap ones (sym (mod-eq_of_lt (set-small p n))) ∙ ones_has (set_of p n) n ∙ tally_same (has (set_of p n)) p n (λ i lo hi. set-has p n i lo hi)
