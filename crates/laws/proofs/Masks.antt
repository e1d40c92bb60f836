-- Laws of sets of replicas by a test, as masks: which bits they have in common, together, and apart.
use Prim.Native.Nat.{ℕ, zero, suc, ◌+◌, ◌*◌, ◌-◌, ◌/◌, ◌%◌, ◌^◌, ◌<◌}
use mathlib.Core.Path.{◌≡◌, refl, sym, ◌∙◌, ap, ap₂}
use mathlib.Core.Bool.{Bool, true, false, not, cond, ◌&&◌, ◌||◌}
use native.Mathlib.Nat.{mod-lt, mod-one, one-mul}
use native.Mathlib.Omega.{arith}
use lib.Bits.{bit_and, bit_or, bit_xor, and_mask, xor_block, or_lt, and_block, or_block}
use lib.Dec.{eqb, lit<}
use lib.Pow.{mod-pow-add}
use borrow.Author.Tests.{eqb-true, eqb-false}
use Rattle.question.proofs.Tests.{case, true-not-false}
use Rattle.rules.specs.Sets.{has, set_of}
use Rattle.laws.proofs.Sets.{double, with_top, set-small}

abbrev bit : Bool → ℕ
bit b = cond b 1 0

-- the highest bit, and the rest
set-step : (p : ℕ → Bool) (n : ℕ) → set_of p (suc n) ≡ bit (p (suc n)) * 2 ^ n + set_of p n
unfolding set_of
set-step p n = case (p (suc n)) (λ e. rw e (with_top (set_of p n) n (set-small p n))) (λ e. rw e (omega arith))

-- sets by tests that no number passes both have no bit in common
pub sets_apart : (p q : ℕ → Bool) (n : ℕ) → ((i : ℕ) → p i ≡ true → q i ≡ true → ⊥) → bit_and (set_of p n) (set_of q n) ≡ 0
unfolding set_of
sets_apart p q zero h = refl
sets_apart p q (suc n) h =
    ap₂ bit_and (set-step p n) (set-step q n)
    ∙ and_block n (bit (p (suc n))) (bit (q (suc n))) (set_of p n) (set_of q n) (set-small p n) (set-small q n)
    ∙ omega (arith, sets_apart p q n h, high (p (suc n)) (q (suc n)) (h (suc n)))
  where
    high : (a b : Bool) → (a ≡ true → b ≡ true → ⊥) → bit_and (bit a) (bit b) * 2 ^ n ≡ 0
    high true true f = absurd (f refl refl)
    high true false f = omega arith
    high false true f = omega arith
    high false false f = omega arith

-- sets by three tests of which each number passes one have all bits together
pub sets_all : (p q r : ℕ → Bool) (n : ℕ) → ((i : ℕ) → p i || q i || r i ≡ true)
    → bit_or (bit_or (set_of p n) (set_of q n)) (set_of r n) ≡ 2 ^ n - 1
unfolding set_of
sets_all p q r n h = omega (arith, go n)
  where
    high : (a b c : Bool) → a || b || c ≡ true → bit_or (bit_or (bit a) (bit b)) (bit c) ≡ 1
    high true true true e = refl
    high true true false e = refl
    high true false true e = refl
    high true false false e = refl
    high false true true e = refl
    high false true false e = refl
    high false false true e = refl
    high false false false e = true-not-false false e refl

    go : (n : ℕ) → bit_or (bit_or (set_of p n) (set_of q n)) (set_of r n) + 1 ≡ 2 ^ n
    go zero = refl
    go (suc n) =
        let a = bit (p (suc n)) in
        let b = bit (q (suc n)) in
        let c = bit (r (suc n)) in
        let small = or_lt n (set_of p n) (set_of q n) (set-small p n) (set-small q n) in
        let first : bit_or (set_of p (suc n)) (set_of q (suc n)) ≡ bit_or a b * 2 ^ n + bit_or (set_of p n) (set_of q n) =
        ap₂ bit_or (set-step p n) (set-step q n) ∙ or_block n a b (set_of p n) (set_of q n) (set-small p n) (set-small q n) in
        let both : bit_or (bit_or (set_of p (suc n)) (set_of q (suc n))) (set_of r (suc n)) ≡ bit_or (bit_or a b) c * 2 ^ n + bit_or (bit_or (set_of p n) (set_of q n)) (set_of r n) =
        ap₂ bit_or first (set-step r n) ∙ or_block n (bit_or a b) c (bit_or (set_of p n) (set_of q n)) (set_of r n) small (set-small r n) in
        let one : bit_or (bit_or a b) c * 2 ^ n ≡ 2 ^ n =
        ap (λ (x : ℕ). x * 2 ^ n) (high (p (suc n)) (q (suc n)) (r (suc n)) (h (suc n))) ∙ one-mul (2 ^ n) in
        omega (arith, both, one, go n, double n)

-- of the numbers that pass, those that do not pass a stronger test: the masks differ there
pub set_less : (p q : ℕ → Bool) (n : ℕ) → ((i : ℕ) → q i ≡ true → p i ≡ true)
    → set_of (λ i. p i && not (q i)) n ≡ bit_xor (set_of p n) (set_of q n)
unfolding set_of
set_less p q zero h = refl
set_less p q (suc n) h =
    set-step (λ i. p i && not (q i)) n
    ∙ ap₂ (λ (x y : ℕ). x * 2 ^ n + y) (high (p (suc n)) (q (suc n)) (h (suc n))) (set_less p q n h)
    ∙ sym (xor_block n (bit (p (suc n))) (bit (q (suc n))) (set_of p n) (set_of q n) (set-small p n) (set-small q n))
    ∙ sym (ap₂ bit_xor (set-step p n) (set-step q n))
  where
    high : (a b : Bool) → (b ≡ true → a ≡ true) → bit (a && not b) ≡ bit_xor (bit a) (bit b)
    high true true f = refl
    high true false f = refl
    high false true f = true-not-false false (f refl) refl
    high false false f = refl

-- all of 1 to n
pub set_all : (n : ℕ) → set_of (λ i. true) n ≡ 2 ^ n - 1
unfolding set_of
set_all n = omega (arith, go n)
  where
    go : (n : ℕ) → set_of (λ i. true) n + 1 ≡ 2 ^ n
    go zero = refl
    go (suc n) = omega (arith, set-step (λ i. true) n, go n, double n)

-- those that do not pass
pub set-not : (p : ℕ → Bool) (n : ℕ) → set_of (λ i. not (p i)) n ≡ bit_xor (2 ^ n - 1) (set_of p n)
set-not p n = set_less (λ i. true) p n (λ i e. refl) ∙ ap (λ (x : ℕ). bit_xor x (set_of p n)) (set_all n)

-- those of 1 to n that a set has: its lowest bits
pub set-cut : (set n : ℕ) → set_of (has set) n ≡ set % 2 ^ n
unfolding has set_of
set-cut set zero = sym (mod-one set)
set-cut set (suc n) =
    let more : 1 + n ≡ suc n = omega arith in
    set-step (has set) n
    ∙ ap₂ (λ (x y : ℕ). x * 2 ^ n + y) (low (set / 2 ^ n)) (set-cut set n)
    ∙ sym (mod-pow-add set 1 n)
    ∙ ap (λ (m : ℕ). set % 2 ^ m) more
  where
    low : (x : ℕ) → bit (eqb (x % 2) 1) ≡ x % 2
    low x = case (eqb (x % 2) 1)
        (λ e. rw e (sym (eqb-true (x % 2) 1 e)))
        (λ e. let small : x % 2 < 2 = mod-lt x (lit< tt) in rw e (omega (arith, small, eqb-false (x % 2) 1 e)))

-- as the code cuts them
pub set_mask : (set n : ℕ) → bit_and set (2 ^ n - 1) ≡ set_of (has set) n
set_mask set n = and_mask set n ∙ sym (set-cut set n)
