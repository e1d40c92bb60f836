-- Laws of the least timestamp, of the earliest arrival, and of a queue's batch, which has the least timestamp.
use Prim.Native.Nat.{ℕ, ◌+◌, ◌≤◌, ◌<◌, min}
use mathlib.Core.Path.{◌≡◌, refl, sym, ◌∙◌, ap}
use mathlib.Core.Logic.{◌⊎◌, inl, inr, ⊎_elim}
use mathlib.Core.Bool.{Bool, true, false, not}
use mathlib.Core.List.Memᴰ
use mathlib.Core.List.{List, [], ◌∷◌, Memᴰ}
use native.Mathlib.Omega.{arith}
use lib.Dec.{eqb, leb}
use lib.ListN.{length}
use borrow.Author.Tests.{eqb-true, eq-eqb, leb-true, leb-false, ltb-true, not-true}
use Rattle.layout.specs.declared.clock.Timestamp.{Timestamp}
use Rattle.layout.specs.declared.clock.LocalTime.{LocalTime}
use Rattle.record.specs.declared.request.Request.{Request}
use Rattle.rules.specs.Replica.{stamped, lowest, least, requests_of, head_timestamp, batch_at, batch_of, others, earliest, is_stable}
use Rattle.rules.specs.declared.Pending.{Pending}
use Rattle.question.proofs.Tests.{case, true-not-false}
use Rattle.laws.proofs.Lists.{keep_in, in_keep, keep_none, keep_parts, keep-keep, in_length, map_in}

-- ── the least of some numbers ──

module _ {A : Type 0} (f : A → ℕ) where
  -- of a number and those of a list
  abbrev least_by : ℕ → List A → ℕ
  least_by n [] = n
  least_by n (x ∷ l) = min (f x) (least_by n l)

  -- some element has it
  least_by-hit : (x : A) (l : List A) → (y : A) × Memᴰ y (x ∷ l) × (f y ≡ least_by (f x) l)
  least_by-hit x [] = (x, Memᴰ.head refl, refl)
  least_by-hit x (z ∷ l) = go (least_by-hit x l) (leb (f z) (least_by (f x) l)) refl
    where
      there : {y : A} → (y ≡ x) ⊎ Memᴰ y l → Memᴰ y (x ∷ z ∷ l)
      there (inl e) = Memᴰ.head e
      there (inr m) = Memᴰ.tail (Memᴰ.tail m)

      go : (y : A) × Memᴰ y (x ∷ l) × (f y ≡ least_by (f x) l) → (b : Bool) → leb (f z) (least_by (f x) l) ≡ b
          → (y : A) × Memᴰ y (x ∷ z ∷ l) × (f y ≡ min (f z) (least_by (f x) l))
      go h true e = (z, Memᴰ.tail (Memᴰ.head refl), omega (arith, leb-true (f z) (least_by (f x) l) e))
      go h false e = (h.0, there (Memᴰ.cases_cons h.1), omega (arith, h.2, leb-false (f z) (least_by (f x) l) e))

-- ── the least timestamp ──

lowest_by : (t : Timestamp) (l : List Request) → least_by (λ r. r.timestamp.0) t.0 l ≡ (lowest t l).0
lowest_by t [] = refl
lowest_by t (r ∷ l) = ap (min r.timestamp.0) (lowest_by t l)

pub lowest_start : (t : Timestamp) (l : List Request) → (lowest t l).0 ≤ t.0
lowest_start t [] = omega arith
lowest_start t (r ∷ l) = omega (arith, lowest_start t l)

lowest_below : (t : Timestamp) {q : Request} (l : List Request) → Memᴰ q l → (lowest t l).0 ≤ q.timestamp.0
lowest_below t l (Memᴰ.head e) = rw e (omega arith)
lowest_below t l (Memᴰ.tail {xs = xs} m) = omega (arith, lowest_below t xs m)

lowest_above : (b : ℕ) (t : Timestamp) (l : List Request) → b ≤ t.0 → ((q : Request) → Memᴰ q l → b ≤ q.timestamp.0) → b ≤ (lowest t l).0
lowest_above b t [] h k = h
lowest_above b t (q ∷ l) h k = omega (arith, k q (Memᴰ.head refl), lowest_above b t l h (λ r m. k r (Memᴰ.tail m)))

-- no request has a lesser timestamp
pub least_below : (l : List Request) {q : Request} → Memᴰ q l → (least l).0 ≤ q.timestamp.0
least_below [] m = absurd (Memᴰ.not-nil m)
least_below (r ∷ l) {q} m = ⊎_elim
    (λ (e : q ≡ r). rw e (lowest_start r.timestamp l))
    (λ (n : Memᴰ q l). lowest_below r.timestamp l n)
    (Memᴰ.cases_cons m)

-- what is at most every timestamp is at most the least
pub least_above : (b : ℕ) (q : Request) (l : List Request) → ((r : Request) → Memᴰ r (q ∷ l) → b ≤ r.timestamp.0) → b ≤ (least (q ∷ l)).0
least_above b q l h = lowest_above b q.timestamp l (h q (Memᴰ.head refl)) (λ r m. h r (Memᴰ.tail m))

-- some request has it
pub least_hit : (l : List Request) {q : Request} → Memᴰ q l → (r : Request) × Memᴰ r l × (r.timestamp.0 ≡ (least l).0)
least_hit [] m = absurd (Memᴰ.not-nil m)
least_hit (r ∷ l) m = let h = least_by-hit (λ (q : Request). q.timestamp.0) r l in (h.0, h.1, h.2 ∙ lowest_by r.timestamp l)

-- ── the earliest arrival ──

earliest_by : (at : LocalTime) (l : List Pending) → least_by (λ p. p.arrival.0) at.0 l ≡ (earliest at l).0
earliest_by at [] = refl
earliest_by at (p ∷ l) = ap (min p.arrival.0) (earliest_by at l)

-- some request of the list arrived then
pub earliest-hit : (p : Pending) (l : List Pending) → (q : Pending) × Memᴰ q (p ∷ l) × (q.arrival.0 ≡ (earliest p.arrival l).0)
earliest-hit p l = let h = least_by-hit (λ (q : Pending). q.arrival.0) p l in (h.0, h.1, h.2 ∙ earliest_by p.arrival l)

-- a stable batch has a request that arrived more than δ ago
pub stable-hit : (delta : ℕ) (now : LocalTime) (l : List Pending) → is_stable delta now l ≡ true
    → (p : Pending) × Memᴰ p l × (p.arrival.0 + delta < now.0)
stable-hit delta now [] e = true-not-false false e refl
stable-hit delta now (p ∷ l) e =
    let h = earliest-hit p l in
    (h.0, h.1, omega (arith, h.2, ltb-true ((earliest p.arrival l).0 + delta) now.0 e))

-- so it is not empty
pub stable_some : (delta : ℕ) (now : LocalTime) (l : List Pending) → is_stable delta now l ≡ true → 0 < length l
stable_some delta now l e = in_length l (stable-hit delta now l e).1

-- ── the requests of a queue with a timestamp ──

pub batch_at_in : (t : Timestamp) (queue : List Pending) {p : Pending} → Memᴰ p (batch_at t queue)
    → Memᴰ p queue × (p.request.timestamp.0 ≡ t.0)
batch_at_in t queue {p} m =
    let a = keep_in (λ q. stamped t q.request) queue m in
    (a.0, eqb-true p.request.timestamp.0 t.0 a.1)

module _ (queue : List Pending) where
  request_in_lem : (p : Pending) → Memᴰ p queue → Memᴰ p.request (requests_of queue)
  request_in_lem p m = Memᴰ.map (λ (x : Pending). x.request) m

  -- a queue that has a request has a batch
  pub batch-hit : (p : Pending) → Memᴰ p queue → (q : Pending) × Memᴰ q (batch_of queue)
  batch-hit p m =
      let t = head_timestamp queue in
      let a = least_hit (requests_of queue) (request_in_lem p m) in
      let b = map_in (λ (x : Pending). x.request) queue a.1 in
      let c : b.0.request.timestamp.0 ≡ t.0 = ap (λ (r : Request). r.timestamp.0) (sym b.2) ∙ a.2 in
      (b.0, in_keep (λ (x : Pending). stamped t x.request) queue b.1 (eq-eqb b.0.request.timestamp.0 t.0 c))

  pub batch_some : (p : Pending) → Memᴰ p queue → 0 < length (batch_of queue)
  batch_some p m = in_length (batch_of queue) (batch-hit p m).1

  -- no request has a lesser timestamp than the batch
  pub batch_least : (p : Pending) → Memᴰ p queue → (head_timestamp queue).0 ≤ p.request.timestamp.0
  batch_least p m = least_below (requests_of queue) (request_in_lem p m)

  abbrev taken : Pending → Bool
  taken p = stamped (head_timestamp queue) p.request

  -- what stays was there, and is not of the batch
  pub others_in : {p : Pending} → Memᴰ p (others queue) → Memᴰ p queue × (taken p ≡ false)
  others_in {p} m = let a = keep_in (λ q. not (taken q)) queue m in (a.0, not-true (taken p) a.1)

  -- the batch and what stays are as many as were pending
  pub others_batch : length (others queue) + length (batch_of queue) ≡ length queue
  others_batch = keep_parts taken queue

  -- to take off a batch takes off one request or more
  pub others_fewer : 0 < length (batch_of queue) → length (others queue) < length queue
  others_fewer h = omega (arith, others_batch)

  -- none of the batch's timestamp stays
  pub others_none : batch_at (head_timestamp queue) (others queue) ≡ []
  others_none = keep_none taken (others queue) (λ p m. (others_in m).1)

  -- the requests with a timestamp are taken off all or none
  pub others_whole : (t : Timestamp) → (batch_at t (others queue) ≡ []) ⊎ (batch_at t (others queue) ≡ batch_at t queue)
  others_whole t = case (eqb t.0 (head_timestamp queue).0)
      (λ e. inl (rw (eqb-true t.0 (head_timestamp queue).0 e) others_none))
      (λ e. inr (keep-keep (λ p. stamped t p.request) (λ p. not (taken p)) queue (λ p i. rw (eqb-true p.request.timestamp.0 t.0 i, e))))
