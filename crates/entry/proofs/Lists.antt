-- A law of every. Assumes nothing.
use Rattle.std.proofs.Common.{◌≡◌, refl, Bool, ◌&&◌, List, [], ◌∷◌, ap}
use Rattle.std.specs.List.{list_all}
use Rattle.rules.specs.Lists.{every}

-- it is what the library says of all items
pub every-list_all : {A : Type 0} (test : A → Bool) (xs : List A) → list_all test xs ≡ every test xs
every-list_all test [] = refl
every-list_all test (x ∷ xs) = ap (λ (b : Bool). test x && b) (every-list_all test xs)
