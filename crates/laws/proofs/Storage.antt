-- What a performed write and a failure do to storage.
use Prim.Native.Nat.{ℕ, ◌+◌, ◌≤◌, ◌<◌}
use mathlib.Core.Path.{◌≡◌, refl}
use mathlib.Core.Logic.{◌≢◌}
use mathlib.Core.Bool.{true}
use lib.ListN.{length, length-set}
use lib.Seq.{get_or-set_same, get_or-set_other}
use borrow.Author.Tests.{lt-ltb, le-ltb, eq-eqb}
use Rattle.limits.specs.Limits.{max_writes}
use Rattle.record.specs.declared.request.Request.{Request}
use Rattle.rules.specs.Batch.{Store, value_of, failed, perform, fail}

-- ── a performed write ──

module _ (r : Request) (s : Store) where
  -- its value is read back
  pub perform-reads : r.variable < length s.variables → value_of r.variable (perform r s) ≡ r.value
  perform-reads h = get_or-set_same s.variables r.variable r.value 0 h

  -- every other variable has the value that it had
  pub perform_others : (variable : ℕ) → variable ≢ r.variable → value_of variable (perform r s) ≡ value_of variable s
  perform_others variable h = get_or-set_other s.variables r.variable variable r.value 0 h

  -- no variable comes or goes
  pub perform-length : length (perform r s).variables ≡ length s.variables
  perform-length = length-set s.variables r.variable r.value

  -- one more write was performed, whatever the value; at its greatest the count holds
  pub perform-counts : s.writes < max_writes → (perform r s).writes ≡ s.writes + 1
  perform-counts h = rw (lt-ltb s.writes max_writes h)

  pub perform-holds : max_writes ≤ s.writes → (perform r s).writes ≡ s.writes
  perform-holds h = rw (le-ltb s.writes max_writes h)

-- ── a failure ──

module _ (s : Store) where
  -- variable 0 is 1
  pub fail_marks : 0 < length s.variables → value_of 0 (fail s) ≡ 1
  fail_marks h = get_or-set_same s.variables 0 1 0 h

  pub fail-failed : 0 < length s.variables → failed (fail s) ≡ true
  fail-failed h = eq-eqb (value_of 0 (fail s)) 1 (fail_marks h)

  -- every other variable has the value that it had
  pub fail_others : (variable : ℕ) → variable ≢ 0 → value_of variable (fail s) ≡ value_of variable s
  fail_others variable h = get_or-set_other s.variables 0 variable 1 0 h

  -- no variable comes or goes, and no write is counted
  pub fail-length : length (fail s).variables ≡ length s.variables
  fail-length = length-set s.variables 0 1

  pub fail-writes : (fail s).writes ≡ s.writes
  fail-writes = refl
