-- A step against the machine. Of the owner's pending requests followed by those still to come, the machine makes what the step
-- sends the owner, and then what it makes of the requests that are left: as long as none to come belongs before a stable batch.
use Prim.Native.Nat.{ℕ, ◌+◌, ◌<◌}
use mathlib.Core.Path.{◌≡◌, refl, ◌∙◌, ap}
use mathlib.Core.Bool.{true, false, not}
use mathlib.Core.List.Memᴰ
use mathlib.Core.List.{List, ◌++◌, map-append, Memᴰ, append_assoc}
use native.Mathlib.Omega.{arith}
use lib.Dec.{eqb}
use borrow.Author.Tests.{eqb-true}
use Rattle.layout.specs.declared.clock.Timestamp.{Timestamp}
use Rattle.layout.specs.declared.clock.LocalTime.{LocalTime}
use Rattle.record.specs.declared.request.Request.{Request}
use Rattle.record.specs.declared.message.Message.{Message}
use Rattle.rules.specs.Batch.{Store, Effect, follow, handle}
use Rattle.rules.specs.declared.Settings.{Settings}
use Rattle.rules.specs.Replica.{State, with_store, with_queue, stamped, requests_of, head_timestamp, batch_of, others, is_stable, handle_batch, visits}
use Rattle.rules.specs.Run.{to_group}
use Rattle.rules.specs.Machine.{signed_by}
use Rattle.rules.specs.declared.Pending.{Pending}
use Rattle.question.proofs.Tests.{case}
use Rattle.laws.proofs.Lists.{eqb_swap, map-keep, map_in}
use Rattle.laws.proofs.Least.{stable-hit, batch_at_in}
use Rattle.laws.proofs.Queues.{replace_same, replace_other, Housed}
use Rattle.laws.proofs.Verdict.{signed, handle-owner, handle_guest}
use Rattle.laws.proofs.Visits.{handle_in, visits_all}
use Rattle.laws.proofs.Keeps.{Keeps, batch-keeps}
use Rattle.laws.proofs.Guests.{to_append, batch-heard, batch_unheard}
use Rattle.laws.proofs.Occurring.{least_batch, rest_of}
use Rattle.laws.proofs.Machine.{machine_from, machine-later}

-- ── effects ──

-- messages sent before
abbrev pub ahead : {S : Type 0} → List Message → Effect S → Effect S
ahead sent e = record { state = e.state; sent = sent ++ e.sent }

-- to the owner, one sending after another
pub ahead_then : (owner : ℕ) (a b : List Message) {x y : Effect Store} (z : Effect Store)
    → x ≡ ahead (to_group owner a) y → y ≡ ahead (to_group owner b) z → x ≡ ahead (to_group owner (a ++ b)) z
ahead_then owner a b z p q =
    p ∙ ap (ahead (to_group owner a)) q
    ∙ rw (to_append owner a b, append_assoc (to_group owner a) (to_group owner b) z.sent)

-- ── a step ──

-- requests still to come have greater timestamps than one that arrived more than δ ago
abbrev pub Apart : Settings → LocalTime → List Pending → List Pending → Type 0
Apart u now coming queue =
    (p : Pending) → Memᴰ p queue → p.arrival.0 + u.delta < now.0
    → (q : Pending) → Memᴰ q coming → p.request.timestamp.0 < q.request.timestamp.0

module _ (u : Settings) (me : ℕ) where
  -- what the machine makes of the owner's pending requests followed by those to come, signed by the replica
  abbrev pub expected : List Pending → State → Effect Store
  expected coming s = signed me (machine_from u.k u.owner (requests_of (s.pending u.owner ++ coming)) s.store)

  -- it is what is sent the owner, and then what the machine makes of those that are left
  abbrev pub Matched : List Pending → State → Effect State → Type 0
  Matched coming s e = expected coming s ≡ ahead (to_group u.owner e.sent) (expected coming e.state)

  -- what comes of a group's batch
  abbrev handled : ℕ → State → Effect Store
  handled group s = handle u me group (head_timestamp (s.pending group)) (requests_of (batch_of (s.pending group))) s.store

  abbrev BatchMatched : List Pending → ℕ → State → Type 0
  BatchMatched coming group s =
      Matched coming s (record { state = with_queue group (others (s.pending group)) (with_store (handled group s).state s); sent = (handled group s).sent })

  owner-matched : (now : LocalTime) (coming : List Pending) (s : State) → Housed s → Apart u now coming (s.pending u.owner)
      → is_stable u.delta now (batch_of (s.pending u.owner)) ≡ true → BatchMatched coming u.owner s
  owner-matched now coming s housed apart stable = rw (
    replace_same u.owner (others queue) s.pending,
    map-append (λ (p : Pending). p.request) queue coming,
    machine-later u.k u.owner bag (requests_of coming) s.store hit later,
    batch,
    rest,
    map-append (λ (p : Pending). p.request) (others queue) coming,
    batch-heard u me u.owner queue s.store (housed u.owner),
    handle-owner u me t (requests_of (batch_of queue)) s.store,
    map-append (signed_by me),
  )
    where
      queue : List Pending
      queue = s.pending u.owner

      t : Timestamp
      t = head_timestamp queue

      bag : List Request
      bag = requests_of queue

      -- a request of the batch that arrived more than δ ago
      old : (p : Pending) × Memᴰ p (batch_of queue) × (p.arrival.0 + u.delta < now.0)
      old = stable-hit u.delta now (batch_of queue) stable

      held : Memᴰ old.0 queue × (old.0.request.timestamp.0 ≡ t.0)
      held = batch_at_in t queue old.1

      hit : Memᴰ old.0.request bag
      hit = Memᴰ.map (λ (p : Pending). p.request) held.0

      later : (r : Request) → Memᴰ r (requests_of coming) → t.0 < r.timestamp.0
      later r i =
          let q = map_in (λ (p : Pending). p.request) coming i in
          rw q.2 (omega (arith, apart old.0 held.0 old.2 q.0 q.1, held.1))

      batch : least_batch bag ≡ requests_of (batch_of queue)
      batch = map-keep (λ (p : Pending). p.request) (stamped t) queue

      rest : rest_of bag ≡ requests_of (others queue)
      rest = map-keep (λ (p : Pending). p.request) (λ r. not (stamped t r)) queue

  guest_matched : (group : ℕ) (coming : List Pending) (s : State) → Housed s → eqb group u.owner ≡ false → BatchMatched coming group s
  guest_matched group coming s housed e =
      let queue = s.pending group in
      let kept = handle_guest u me group (head_timestamp queue) (requests_of (batch_of queue)) s.store e in
      let quiet = batch_unheard u me group queue s.store (housed group) u.owner e in
      rw (replace_other group (others queue) s.pending u.owner (eqb_swap u.owner group ∙ e), quiet, kept)

  module _ (now : LocalTime) (coming : List Pending) where
    pub record Ready (s : State) : Type 0 where
      pub settings : s.settings ≡ u
      pub number : s.number ≡ me
      pub housed : Housed s
      pub apart : Apart u now coming (s.pending u.owner)

    abbrev Simulates : State → Effect State → Type 0
    Simulates s e = Ready s → Ready e.state × Matched coming s e

    simulates_then : (s : State) (e : Effect State) (next : State → Effect State)
        → Simulates s e → Simulates e.state (next e.state) → Simulates s (follow e next)
    simulates_then s e next a b h =
        let x = a h in
        let y = b x.0 in
        let last = next e.state in
        (y.0, ahead_then u.owner e.sent last.sent (expected coming last.state) x.1 y.1)

    batch_simulates : (group : ℕ) (s : State) → is_stable s.settings.delta now (batch_of (s.pending group)) ≡ true
        → Simulates s (handle_in group s)
    unfolding handle_in handle_batch
    batch_simulates group s stable h =
        (ready, rw (h.settings, h.number) (case (eqb group u.owner) own (guest_matched group coming s h.housed)))
      where
        keeps : Keeps s (handle_in group s).state
        keeps = batch-keeps group s

        ready : Ready (handle_in group s).state
        ready = record {
          settings = h.settings;
          number = h.number;
          housed = λ g p i. h.housed g p (keeps.pending g p i);
          apart = λ p i. h.apart p (keeps.pending u.owner p i);
        }

        own : eqb group u.owner ≡ true → BatchMatched coming group s
        own e =
            let same = eqb-true group u.owner e in
            rw same (owner-matched now coming s h.housed h.apart (rw (h.settings, same) at stable))

    pub visits_simulate : (n : ℕ) (s : State) → Simulates s (visits n now s)
    visits_simulate n s = visits_all now Simulates (λ s h. (h, refl)) simulates_then batch_simulates n s
