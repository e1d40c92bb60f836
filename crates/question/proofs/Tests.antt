-- Laws of tests: a Bool that was computed, and what it says. Assumes nothing.
use Prim.Native.Nat.{ℕ, ◌≤◌}
use mathlib.Core.Path.{◌≡◌, refl}
use mathlib.Core.Bool.{Bool, true, false, ◌&&◌, ◌||◌}
use mir.Val.{bool_byte}
use lib.Dec.{leb}
use native.Mathlib.Omega.{arith}
use borrow.Author.Tests.{leb-true, le-leb}
use Rattle.question.specs.Question.{within, unit_questions}
use Rattle.question.proofs.Questions.{AllYes}

-- a case of a computed test, with its equation
pub case {ℓ} : {A : Type ℓ} (b : Bool) → (b ≡ true → A) → (b ≡ false → A) → A
case true f g = f refl
case false f g = g refl

-- a test does not come out both ways
pub true-not-false : {A : Type 0} (b : Bool) → b ≡ true → b ≡ false → A
true-not-false b p q = absurd (let z : ◌≡◌ {A = ℕ} 0 1 = cc in omega arith)

pub both : (a b : Bool) → (a && b) ≡ true → (a ≡ true) × (b ≡ true)
both true true e = (refl, refl)
both true false e = (refl, e)
both false b e = (e, cc)

-- of two tests one of which passes, the other does where the first fails
pub other : (a b : Bool) → (a || b) ≡ true → a ≡ false → b ≡ true
other true b e f = true-not-false true refl f
other false b e f = e

-- a test counts for one at most
pub byte_one : (b : Bool) → bool_byte b ≤ 1
byte_one true = omega arith
byte_one false = omega arith

-- ── ranges ──

pub within-true : (low high x : ℕ) → within low high x ≡ true → (low ≤ x) × (x ≤ high)
within-true low high x e =
    let h = both (leb low x) (leb x high) e in
    (leb-true low x h.0, leb-true x high h.1)

pub in_within : (low high x : ℕ) → low ≤ x → x ≤ high → within low high x ≡ true
in_within low high x h k = rw (le-leb low x h, le-leb x high k)

-- ── questions 1 and 2, by name ──

pub record UnitFacts (k n : ℕ) : Type 0 where
  pub k-high : k ≤ 3
  pub n-low : 1 ≤ n
  pub n-high : n ≤ 4

pub unit_facts : (k n : ℕ) → AllYes (unit_questions k n) → UnitFacts k n
unfolding unit_questions
unit_facts k n all =
    let groups = within-true 1 4 n all.1.0 in
    record { k-high = (within-true 0 3 k all.0).1; n-low = groups.0; n-high = groups.1 }
