-- What the code computes of sets of replicas, by shifts and masks.
use Prim.Native.Nat.{ℕ, zero, suc, ◌+◌, ◌*◌, ◌-◌, ◌/◌, ◌%◌, ◌^◌, ◌≤◌}
use mathlib.Core.Path.{◌≡◌, ◌∙◌, ap}
use mathlib.Core.Bool.{Bool, true, cond}
use native.Mathlib.Nat.{mod-eq_of_lt, one-mul}
use native.Mathlib.Omega.{arith}
use lib.Bits.{bit_and, bit_or, bit_xor, and_mask}
use lib.Count.{ones}
use lib.Dec.{eqb, leb}
use lib.Pow.{pow-lt}
use Rattle.rules.specs.Sets.{has, with, set_of}
use Rattle.rules.specs.Vote.{election_by, halts_by}
use Rattle.laws.proofs.Masks.{set_mask, set_less, set-not}
use Rattle.ballot.specs.Sets.{last_replica}

less_one : (i : ℕ) → suc i - 1 ≡ i
less_one i = omega arith

-- the numbers up to i that pass a test, of those before it and of i
pub set_next : (test : ℕ → Bool) (i set : ℕ) → 1 ≤ i → set ≡ set_of test (i - 1) → cond (test i) (with set i) set ≡ set_of test i
unfolding set_of
set_next test zero set low e = absurd (omega arith)
set_next test (suc i) set low e = rw (e, less_one i)

pub has_shift : (set replica : ℕ) → 1 ≤ replica → eqb (bit_and (set / 2 ^ (replica - 1)) 1) 1 ≡ has set replica
unfolding has
has_shift set zero h = absurd (omega arith)
has_shift set (suc i) h = rw (less_one i) (ap (λ (x : ℕ). eqb x 1) (and_mask (set / 2 ^ i) 1))

pub with_shift : (set replica : ℕ) → 1 ≤ replica → replica ≤ last_replica → bit_or set (1 * 2 ^ (replica - 1) % 256) ≡ with set replica
unfolding with
with_shift set zero h g = absurd (omega arith)
with_shift set (suc i) h g =
    rw (less_one i) (ap (bit_or set) (ap (λ (x : ℕ). x % 256) (one-mul (2 ^ i)) ∙ mod-eq_of_lt (pow-lt {i = i} {j = 8} (omega arith))))

-- ── the answers ──

-- a set cut to the unit's replicas
cut : (set k unit : ℕ) → unit ≡ 2 ^ (2 * k + 1) - 1 → bit_and set unit ≡ set_of (has set) (2 * k + 1)
cut set k unit e = ap (bit_and set) e ∙ set_mask set (2 * k + 1)

pub halts_masked : (set k unit : ℕ) → unit ≡ 2 ^ (2 * k + 1) - 1
    → record { senders = bit_and set unit; size = ones (bit_and set unit); halt = leb (k + 1) (ones (bit_and set unit)) } ≡ halts_by k (has set)
halts_masked set k unit e =
    ap (λ (senders : ℕ). record { senders = senders; size = ones senders; halt = leb (k + 1) (ones senders) }) (cut set k unit e)

-- who gave another value: the masks of who gave one and who agreed differ there; who is silent: so do those of all and of who gave one
pub election_masked : (k value set unit agreed : ℕ) (agrees : ℕ → Bool) → ((i : ℕ) → agrees i ≡ true → has set i ≡ true)
    → unit ≡ 2 ^ (2 * k + 1) - 1 → agreed ≡ set_of agrees (2 * k + 1)
    → record { value = value; agreed = agreed; other = bit_xor (bit_and set unit) agreed; silent = bit_xor unit (bit_and set unit) }
    ≡ election_by k value (has set) agrees
election_masked k value set unit agreed agrees told e f =
    rw (cut set k unit e, e, f, set_less (has set) agrees (2 * k + 1) told, set-not (has set) (2 * k + 1))
