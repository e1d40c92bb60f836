-- What is computed of all places holds of each. Assumes nothing.
use Prim.Native.Nat.{ℕ, zero, suc, ◌+◌, ◌≤◌, ◌<◌}
use mathlib.Core.Path.{◌≡◌}
use mathlib.Core.Logic.{⊎_elim}
use mathlib.Core.List.Memᴰ
use mathlib.Core.List.{List, [], ◌∷◌, map, Memᴰ}
use native.Mathlib.Omega.{arith}
use lib.Dec.{eqb}
use borrow.Author.Tests.{eqb-true, eqb-false}
use Rattle.question.proofs.Tests.{case}
use Rattle.session.specs.Session.{count_up, all_places}

count-has : (n start i : ℕ) → start ≤ i → i < start + n → Memᴰ i (count_up start n)
count-has zero start i low high = absurd (omega (arith, low, high))
count-has (suc n) start i low high = case (eqb i start)
    (λ e. Memᴰ.head (eqb-true i start e))
    (λ e. Memᴰ.tail (count-has n (start + 1) i (omega (arith, eqb-false i start e)) (omega arith)))

-- two functions that agree on a list agree on each of its elements
module _ {A B : Type 0} (f g : A → B) where
  map_at : (l : List A) → map f l ≡ map g l → (x : A) → Memᴰ x l → f x ≡ g x
  map_at [] e x i = absurd (Memᴰ.not-nil i)
  map_at (y ∷ l) e x i = ⊎_elim
      (λ (same : x ≡ y). let head : f y ≡ g y = cc in rw same head)
      (λ (j : Memᴰ x l). let tail : map f l ≡ map g l = cc in map_at l tail x j)
      (Memᴰ.cases_cons i)

pub at_place : {B : Type 0} (f g : ℕ → B) → map f all_places ≡ map g all_places → (place : ℕ) → place < 256 → f place ≡ g place
at_place f g e place small = map_at f g all_places e place (count-has 256 0 place (omega arith) (omega arith))
