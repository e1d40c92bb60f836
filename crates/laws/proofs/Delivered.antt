-- A computed test that calls deliver bytes.
use Prim.Native.Nat.{ℕ, zero, suc}
use mathlib.Core.Path.{◌≡◌}
use mathlib.Core.Bool.{Bool, true}
use mathlib.Core.List.{List, [], ◌∷◌}
use native.Mathlib.Omega.{arith}
use lib.Dec.{ltb}
use borrow.Author.Tests.{ltb-true}
use Rattle.layout.specs.Number.{Bytes}
use Rattle.rules.specs.Lists.{every}
use Rattle.rules.specs.Run.{Call, delivery, turn, Lent}
use Rattle.question.proofs.Tests.{both}
use Rattle.laws.proofs.Lists.{every_in}

abbrev are_bytes : List ℕ → Bool
are_bytes bytes = every (λ b. ltb b 256) bytes

abbrev pub delivers_bytes : Call → Bool
delivers_bytes (delivery bytes now) = are_bytes bytes
delivers_bytes (turn now output) = true

bytes-true : (bytes : List ℕ) → are_bytes bytes ≡ true → Bytes bytes
bytes-true [] e i = omega arith
bytes-true (b ∷ bytes) e zero = ltb-true b 256 (both (ltb b 256) (are_bytes bytes) e).0
bytes-true (b ∷ bytes) e (suc i) = bytes-true bytes (both (ltb b 256) (are_bytes bytes) e).1 i

pub computed_lent : (calls : List Call) → every delivers_bytes calls ≡ true → Lent calls
computed_lent calls e (delivery bytes now) i = bytes-true bytes (every_in delivers_bytes calls e (delivery bytes now) i)
computed_lent calls e (turn now output) i = tt
