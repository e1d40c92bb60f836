-- A call is not refused with a number that its list has not.
use Prim.Native.Nat.{ℕ}
use mathlib.Core.Path.{◌≡◌, refl, ap}
use mathlib.Core.Bool.{true, not}
use mathlib.Core.List.{List}
use lib.Dec.{eqb}
use borrow.Author.Tests.{eq-eqb}
use Rattle.question.specs.Question.{Answer, Listed, Never}
use Rattle.question.proofs.Tests.{true-not-false}
use Rattle.rules.specs.Numbers.{lacks}
use Rattle.laws.proofs.Lists.{every_in}

pub listed_never : {A : Type 0} (number : ℕ) (numbers : List ℕ) {answer : Answer A} →
    lacks number numbers ≡ true → Listed numbers answer → Never number answer
listed_never number numbers absent listed e =
    let differs = every_in (λ other. not (eqb other number)) numbers absent number (listed number e) in
    true-not-false (not (eqb number number)) differs (ap not (eq-eqb number number refl))
