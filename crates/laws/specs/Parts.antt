-- Document 02, A4: the sets of a vote part the unit's replicas.
use Rattle.std.specs.Prelude.{ℕ, ◌+◌, ◌*◌, ◌-◌, ◌^◌, ◌≤◌, ◌≡◌}
use Rattle.std.specs.Int.Bits.{bit_and, bit_or}
use Rattle.std.specs.Int.Count.{ones}
use Rattle.rules.specs.declared.Election.{Election}

-- no two have a bit in common, all together are the 2k + 1 lowest bits, and at least k + 1 replicas agreed
pub record Parts (k : ℕ) (e : Election) : Type 0 where
  pub agreed_other : bit_and e.agreed e.other ≡ 0
  pub agreed-silent : bit_and e.agreed e.silent ≡ 0
  pub other_silent : bit_and e.other e.silent ≡ 0
  pub all : bit_or (bit_or e.agreed e.other) e.silent ≡ 2 ^ (2 * k + 1) - 1
  pub most : k + 1 ≤ ones e.agreed
