-- The visit of a group handles the cleared batches of its queue one by one.
use Prim.Native.Nat.{ℕ, zero, suc, ◌≤◌}
use mathlib.Core.Path.{◌≡◌, refl, sym, ◌∙◌, ap}
use mathlib.Core.Bool.{true, false, not}
use mathlib.Core.List.Memᴰ
use mathlib.Core.List.{List, [], ◌∷◌, ◌++◌, Memᴰ}
use native.Mathlib.Omega.{arith}
use lib.ListN.{length}
use borrow.Author.Tests.{eqb-true}
use Rattle.layout.specs.declared.clock.Timestamp.{Timestamp}
use Rattle.layout.specs.declared.clock.LocalTime.{LocalTime}
use Rattle.record.specs.declared.request.Request.{Request}
use Rattle.rules.specs.Lists.{keep}
use Rattle.rules.specs.Batch.{Store, Effect, still, follow, handle}
use Rattle.rules.specs.Replica.{State, Part, part_of, stamped, least, requests_of, head_timestamp, batch_at, batch_of, others, is_stable, handle_batch, visit, visit_group}
use Rattle.rules.specs.Machine.{occurring}
use Rattle.rules.specs.declared.Pending.{Pending}
use Rattle.rules.specs.declared.Settings.{Settings}
use Rattle.question.proofs.Tests.{case}
use Rattle.laws.specs.Handled.{cleared, cleared_of}
use Rattle.laws.proofs.Lists.{keep_in, in_keep, keep_none, keep-keep, keep_swap, keep_same, map-keep, map_in}
use Rattle.laws.proofs.Least.{least_below, stable-hit, stable_some, batch_at_in, others_fewer}
use Rattle.laws.proofs.Occurring.{same_timestamp, occurring_in}
use Rattle.laws.proofs.Machine.{least_same}
use Rattle.laws.proofs.Cleared.{batch-cleared, batch-uncleared, others_cleared}
use Rattle.laws.proofs.Batches.{one_by_one, one_by_one_none, one_by_one_first}

-- ── the requests that the visit of a group handles ──

module _ (delta : ℕ) (now : LocalTime) where
  abbrev pub cleared_requests : List Pending → List Request
  cleared_requests queue = requests_of (keep (cleared_of delta now queue) queue)

  module _ (queue : List Pending) where
    abbrev first : Timestamp
    first = head_timestamp queue

    -- each stands in the queue, and is cleared
    pub request-cleared : {r : Request} → Memᴰ r (cleared_requests queue)
        → (p : Pending) × Memᴰ p queue × (cleared delta now queue p.request.timestamp ≡ true) × (r ≡ p.request)
    request-cleared i =
        let p = map_in (λ (q : Pending). q.request) (keep (cleared_of delta now queue) queue) i in
        let a = keep_in (cleared_of delta now queue) queue p.1 in
        (p.0, a.0, a.1, p.2)

    -- and each such one is among them
    pub cleared-request : {p : Pending} → Memᴰ p queue → cleared delta now queue p.request.timestamp ≡ true
        → Memᴰ p.request (cleared_requests queue)
    cleared-request i c = Memᴰ.map (λ (q : Pending). q.request) (in_keep (cleared_of delta now queue) queue i c)

    -- none, where the batch is not stable
    none_cleared : is_stable delta now (batch_of queue) ≡ false → cleared_requests queue ≡ []
    none_cleared unstable = ap requests_of (keep_none (cleared_of delta now queue) queue (batch-uncleared delta now queue unstable))

    -- with a timestamp, all that are pending
    pub batch-whole : (t : Timestamp) → cleared delta now queue t ≡ true → keep (stamped t) (cleared_requests queue) ≡ requests_of (batch_at t queue)
    batch-whole t c =
        map-keep (λ (p : Pending). p.request) (stamped t) (keep (cleared_of delta now queue) queue)
        ∙ ap requests_of (keep-keep (λ p. stamped t p.request) (cleared_of delta now queue) queue at)
      where
        at : (p : Pending) → stamped t p.request ≡ true → cleared delta now queue p.request.timestamp ≡ true
        at p e = rw (same_timestamp {t = p.request.timestamp} {u = t} (eqb-true p.request.timestamp.0 t.0 e)) c

    -- each timestamp of them is cleared
    pub occurring-cleared : {t : Timestamp} → Memᴰ t (occurring (cleared_requests queue)) → cleared delta now queue t ≡ true
    occurring-cleared {t} i =
        let r = occurring_in (cleared_requests queue) i in
        let p = request-cleared r.1 in
        let same : p.0.request.timestamp ≡ t = ap (λ (q : Request). q.timestamp) (sym p.3) ∙ r.2 in
        rw same at p.2

    module _ (stable : is_stable delta now (batch_of queue) ≡ true) where
      -- one request of the batch is among them
      head_in : (p : Pending) × Memᴰ p.request (cleared_requests queue) × (p.request.timestamp.0 ≡ first.0)
      head_in =
          let p = stable-hit delta now (batch_of queue) stable in
          let a = batch_at_in first queue p.1 in
          (p.0, cleared-request a.0 (batch-cleared delta now queue stable p.0.request.timestamp a.1), a.1)

      -- the batch has the least timestamp of them
      least_cleared : least (cleared_requests queue) ≡ first
      least_cleared = least_same (cleared_requests queue) (requests_of queue) head_in.1 (pending head_in.0.request head_in.1)
          (λ r i. least_below (requests_of queue) (pending r i))
          (λ r i. omega (arith, least_below (cleared_requests queue) head_in.1, head_in.2, least_below (requests_of queue) i))
        where
          pending : (r : Request) → Memᴰ r (cleared_requests queue) → Memᴰ r (requests_of queue)
          pending r i = let p = request-cleared i in rw p.3 (Memᴰ.map (λ (q : Pending). q.request) p.1)

      batch_first : keep (stamped first) (cleared_requests queue) ≡ requests_of (batch_of queue)
      batch_first = batch-whole first (batch-cleared delta now queue stable first refl)

      -- the others are what the visit handles after it
      rest-cleared : keep (λ r. not (stamped first r)) (cleared_requests queue) ≡ cleared_requests (others queue)
      rest-cleared =
          map-keep (λ (p : Pending). p.request) (λ r. not (stamped first r)) (keep (cleared_of delta now queue) queue)
          ∙ ap requests_of (keep_swap (λ p. not (stamped first p.request)) (cleared_of delta now queue) queue
          ∙ keep_same _ _ (others queue) (λ p. sym (others_cleared delta now queue p.request.timestamp stable)))

-- ── the visit of one group ──

-- the store and the messages
abbrev part_outcome : Effect Part → Effect Store
part_outcome e = record { state = e.state.store; sent = e.sent }

abbrev pub outcome : Effect State → Effect Store
outcome e = record { state = e.state.store; sent = e.sent }

module _ (u : Settings) (me group : ℕ) (now : LocalTime) where
  abbrev done : List Pending → Store → Effect Store
  done queue s = one_by_one u me group (cleared_requests u.delta now queue) s

  -- a stable batch, then the others
  done_first : (queue : List Pending) (s : Store) → is_stable u.delta now (batch_of queue) ≡ true
      → done queue s ≡ follow (handle u me group (head_timestamp queue) (requests_of (batch_of queue)) s) (done (others queue))
  done_first queue s e =
      one_by_one_first u me group (cleared_requests u.delta now queue) s (head_in u.delta now queue e).1
      ∙ rw (least_cleared u.delta now queue e, batch_first u.delta now queue e, rest-cleared u.delta now queue e)

  -- the cleared batches of the queue are handled one by one
  pub visit-one_by_one : (looks : ℕ) (part : Part) → length part.queue ≤ looks
      → part_outcome (visit u me group now looks part) ≡ one_by_one u me group (cleared_requests u.delta now part.queue) part.store
  unfolding visit handle_batch
  visit-one_by_one zero part h = none part.queue h
    where
      none : (l : List Pending) → length l ≤ 0 → still part.store ≡ done l part.store
      none [] h = sym (one_by_one_none u me group part.store)
      none (p ∷ l) h = absurd (omega arith)
  visit-one_by_one (suc looks) part h =
      let queue = part.queue in
      case (is_stable u.delta now (batch_of queue))
      (λ e. rw e (ap (λ (x : Effect Store). record { state = x.state; sent = (handle_batch u me group part).sent ++ x.sent })
      (visit-one_by_one looks (handle_batch u me group part).state
      (omega (arith, others_fewer queue (stable_some u.delta now (batch_of queue) e)))) ∙ sym (done_first queue part.store e)))
      (λ e. rw (e, none_cleared u.delta now queue e) (sym (one_by_one_none u me group part.store)))

-- the same in a state
pub visit_group-one_by_one : (group : ℕ) (now : LocalTime) (s : State)
    → outcome (visit_group group now s)
    ≡ one_by_one s.settings s.number group (cleared_requests s.settings.delta now (s.pending group)) s.store
unfolding visit_group
visit_group-one_by_one group now s = visit-one_by_one s.settings s.number group now (length (s.pending group)) (part_of group s) (omega arith)
