-- The queues of the struct: of new ones, and of one that is changed.
use Prim.Native.Nat.{ℕ, zero, suc, ◌-◌, ◌≤◌}
use mathlib.Core.Path.{◌≡◌, refl}
use mathlib.Core.Logic.{◌≢◌}
use mathlib.Core.List.{List, []}
use native.Mathlib.Omega.{arith}
use lib.Dec.{eqb}
use lib.ListN.{get_or, set, replicate, take}
use lib.Seq.{get_or-set_other}
use borrow.Author.Tests.{eqb-true, eqb-false}
use Rattle.rules.specs.Replica.{replace}
use Rattle.rules.specs.declared.Pending.{Pending}
use Rattle.question.proofs.Tests.{case}
use Rattle.laws.proofs.Queues.{fun_ext}
use Rattle.state.specs.State.{places_from, queue_of}

-- ── one queue ──

-- a group's queue, by the number of the group
pub queue_at : (pending : List Pending) (counts : List ℕ) (g : ℕ) → 1 ≤ g → queue_of pending counts g ≡ take (get_or counts (g - 1) 0) (places_from (g - 1) pending)
unfolding queue_of
queue_at pending counts zero h = absurd (omega arith)
queue_at pending counts (suc i) h = let z : suc i - 1 ≡ i = omega arith in rw z

-- where all counts are 0 none has a request
pub queues_new : (pending : List Pending) (n : ℕ) → queue_of pending (replicate n 0) ≡ (λ g. [])
unfolding queue_of
queues_new pending n = fun_ext at
  where
    none : (n i : ℕ) → ◌≡◌ {A = ℕ} (get_or (replicate n 0) i 0) 0
    none zero i = refl
    none (suc n) zero = refl
    none (suc n) (suc i) = none n i

    at : (g : ℕ) → queue_of pending (replicate n 0) g ≡ []
    at zero = refl
    at (suc i) = rw (none n i)

-- ── one queue changed ──

-- the places of one group and its count are changed, no others
module _ (old next : List Pending) (counts : List ℕ) (i count : ℕ) (queue : List Pending)
    (others : (j : ℕ) → j ≢ i → places_from j next ≡ places_from j old) (own : take (get_or (set counts i count) i 0) (places_from i next) ≡ queue) where
  pub queue-changed : queue_of next (set counts i count) ≡ replace (suc i) queue (queue_of old counts)
  unfolding queue_of
  queue-changed = fun_ext at
    where
      at : (g : ℕ) → queue_of next (set counts i count) g ≡ replace (suc i) queue (queue_of old counts) g
      at zero = case (eqb 0 (suc i)) (λ e. absurd (let z : 0 ≡ suc i = eqb-true 0 (suc i) e in omega arith)) (λ e. rw e)
      at (suc j) = case (eqb (suc j) (suc i))
          (λ e.
          let same : j ≡ i = omega (arith, eqb-true (suc j) (suc i) e) in
          rw (e, same) own)
          (λ e.
          let apart : j ≢ i = omega (arith, eqb-false (suc j) (suc i) e) in
          rw (e, get_or-set_other counts i j count 0 apart, others j apart))
