-- Up to which timestamp every batch of a queue is stable, and that handling a stable batch does not change it.
use Prim.Native.Nat.{ℕ}
use mathlib.Core.Path.{◌≡◌, refl, ap}
use mathlib.Core.Logic.{⊎_elim}
use mathlib.Core.Bool.{true, false, not}
use mathlib.Core.List.Memᴰ
use mathlib.Core.List.{List, Memᴰ}
use native.Mathlib.Omega.{arith}
use borrow.Author.Tests.{eqb-true, eq-eqb, leb-true, le-leb}
use Rattle.layout.specs.declared.clock.Timestamp.{Timestamp}
use Rattle.layout.specs.declared.clock.LocalTime.{LocalTime}
use Rattle.rules.specs.Lists.{keep}
use Rattle.rules.specs.Replica.{stamped, head_timestamp, batch_at, batch_of, others, is_stable}
use Rattle.rules.specs.declared.Pending.{Pending}
use Rattle.question.proofs.Tests.{case, true-not-false}
use Rattle.laws.specs.Handled.{not_after, batch_stable, cleared, StableUpTo}
use Rattle.laws.proofs.Lists.{same_test, keep_in, in_keep, every_in, in_every}
use Rattle.laws.proofs.Least.{batch_at_in, batch-hit, batch_least, others_in, others_whole}
use Rattle.laws.proofs.Occurring.{same_timestamp}

-- ── stable up to a timestamp ──

module _ (delta : ℕ) (now : LocalTime) (queue : List Pending) where
  -- the test says what is said of each request
  pub cleared_in : (t : Timestamp) → cleared delta now queue t ≡ true → StableUpTo delta now queue t
  unfolding cleared
  cleared_in t e p i low =
      every_in (batch_stable delta now queue) (keep (not_after t) queue) e p
      (in_keep (not_after t) queue i (le-leb p.request.timestamp.0 t.0 (omega arith)))

  pub in_cleared : (t : Timestamp) → StableUpTo delta now queue t → cleared delta now queue t ≡ true
  unfolding cleared
  in_cleared t h = in_every (batch_stable delta now queue) (keep (not_after t) queue) (λ p i.
      let a = keep_in (not_after t) queue i in
      h p a.0 (leb-true p.request.timestamp.0 t.0 a.1))

  abbrev first : Timestamp
  first = head_timestamp queue

  -- a stable batch is cleared: no request of the queue has a lesser timestamp
  pub batch-cleared : is_stable delta now (batch_of queue) ≡ true → (t : Timestamp) → t.0 ≡ first.0 → cleared delta now queue t ≡ true
  batch-cleared stable t e = in_cleared t (λ p i low.
      let same : p.request.timestamp ≡ first = same_timestamp (omega (arith, batch_least queue p i)) in
      rw same stable)

  -- where the batch is not stable, none is
  pub batch-uncleared : is_stable delta now (batch_of queue) ≡ false → (p : Pending) → Memᴰ p queue → cleared delta now queue p.request.timestamp ≡ false
  batch-uncleared unstable p i =
      let q = batch-hit queue p i in
      let a = batch_at_in first queue q.1 in
      case (cleared delta now queue p.request.timestamp)
      (λ e.
      let stable = cleared_in p.request.timestamp e q.0 a.0 (omega (arith, batch_least queue p i, a.1)) in
      true-not-false (is_stable delta now (batch_of queue)) (rw (same_timestamp {t = q.0.request.timestamp} {u = first} a.1) at stable) unstable)
      (λ e. e)

-- ── one batch less ──

module _ (delta : ℕ) (now : LocalTime) (queue : List Pending) (t : Timestamp) where
  abbrev rest : List Pending
  rest = others queue

  -- of a request that stays, the whole batch does
  batch-stays : (p : Pending) → Memᴰ p rest → batch_at p.request.timestamp rest ≡ batch_at p.request.timestamp queue
  batch-stays p i =
      let at = p.request.timestamp in
      ⊎_elim
      (λ none. absurd (Memᴰ.not-nil (rw none at (in_keep (λ q. stamped at q.request) rest i (eq-eqb at.0 at.0 refl)))))
      (λ whole. whole)
      (others_whole queue at)

  rest_stable : StableUpTo delta now queue t → StableUpTo delta now rest t
  rest_stable h p i low = rw (batch-stays p i) (h p (others_in queue i).0 low)

  stable-rest : is_stable delta now (batch_of queue) ≡ true → StableUpTo delta now rest t → StableUpTo delta now queue t
  stable-rest stable h p i low =
      let first = head_timestamp queue in
      case (stamped first p.request)
      (λ e. rw (same_timestamp {t = p.request.timestamp} {u = first} (eqb-true p.request.timestamp.0 first.0 e)) stable)
      (λ e. let j = in_keep (λ q. not (stamped first q.request)) queue i (ap not e) in rw (batch-stays p j) at (h p j low))

  -- to take a stable batch off makes no difference to what is cleared
  pub others_cleared : is_stable delta now (batch_of queue) ≡ true → cleared delta now rest t ≡ cleared delta now queue t
  others_cleared stable = same_test _ _
      (λ e. in_cleared delta now queue t (stable-rest stable (cleared_in delta now rest t e)))
      (λ e. in_cleared delta now rest t (rest_stable (cleared_in delta now queue t e)))
