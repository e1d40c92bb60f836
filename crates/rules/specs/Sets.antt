-- Document 02, A4: sets of replicas as bytes, one bit for each replica, the lowest for replica 1. How many a set has is the number of
-- its ones: `ones` of the kit's lib.Count.
use Rattle.std.specs.Prelude.{ℕ, zero, suc, ◌/◌, ◌%◌, ◌^◌, Bool, false, cond, eqb}
use Rattle.std.specs.Int.Bits.{bit_or}

-- whether a set has a replica; no replica has number 0
unfoldable pub has : ℕ → ℕ → Bool
has set zero = false
has set (suc i) = eqb (set / 2 ^ i % 2) 1

-- a set and one replica more
unfoldable pub with : ℕ → ℕ → ℕ
with set zero = set
with set (suc i) = bit_or set (2 ^ i)

-- those of the replicas 1 to n that pass a test
unfoldable pub set_of : (ℕ → Bool) → ℕ → ℕ
set_of test zero = 0
set_of test (suc n) = cond (test (suc n)) (with (set_of test n) (suc n)) (set_of test n)
