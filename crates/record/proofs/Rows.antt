-- What a kind decides, from its family and its row. Assumes nothing.
use Prim.Native.Nat.{ℕ, ◌≤◌}
use mathlib.Core.Path.{◌≡◌, refl}
use mathlib.Core.Bool.{true, false}
use lib.Dec.{eqb}
use native.Mathlib.Omega.{arith}
use Rattle.question.specs.Question.{within}
use Rattle.question.proofs.Tests.{case, within-true}
use Rattle.record.specs.Kind.{read, write, reply, halt, family_of, family_number, row, row_of}
use Rattle.record.specs.declared.kind.Row.{Row}

-- a kind of either family is at most 4
pub kind-small : (kind : ℕ) → 1 ≤ family_number (family_of kind) → kind ≤ 4
kind-small kind h = case (within read write kind)
    (λ e. omega (arith, within-true read write kind e))
    (λ e. case (within reply halt kind)
    (λ f. (within-true reply halt kind f).1)
    (λ f. absurd (omega (arith, rw (e, f) at h))))

-- what holds of every row holds of every kind
pub of_rows : (P : Row → Type 0) →
    P (row 0 255 false false false) → P (row 1 255 true false false) → P (row 0 255 true false false) → P (row 0 0 false false false) →
    (kind : ℕ) → P (row_of kind)
of_rows P reads writes replies halts kind = case (eqb kind read) (λ e. rw e reads)
    (λ e. case (eqb kind write) (λ f. rw (e, f) writes)
    (λ f. case (eqb kind reply) (λ g. rw (e, f, g) replies)
    (λ g. case (eqb kind halt) (λ h. rw (e, f, g, h) halts) (λ h. rw (e, f, g, h) halts))))

pub greatest_small : (kind : ℕ) → (row_of kind).greatest ≤ 255
greatest_small kind = of_rows (λ r. r.greatest ≤ 255) (omega arith) (omega arith) (omega arith) (omega arith) kind

-- no record carries anything in bytes 6–7, or in bytes 20–23
pub bytes6_spare : (kind : ℕ) → (row_of kind).bytes6 ≡ false
bytes6_spare kind = of_rows (λ r. r.bytes6 ≡ false) refl refl refl refl kind

pub bytes20_spare : (kind : ℕ) → (row_of kind).bytes20 ≡ false
bytes20_spare kind = of_rows (λ r. r.bytes20 ≡ false) refl refl refl refl kind
