-- Whose each message of a step is: a handled batch's, in the store at that point. So a reply has the value of its variable then.
use Prim.Native.Nat.{ℕ}
use mathlib.Core.Path.{◌≡◌, sym, ◌∙◌, ap}
use mathlib.Core.Logic.{◌↔◌}
use mathlib.Core.Bool.{true}
use mathlib.Core.List.{List, Memᴰ}
use native.Mathlib.Omega.{arith}
use Rattle.question.specs.Question.{within}
use Rattle.record.specs.Kind.{reply}
use Rattle.layout.specs.declared.clock.Timestamp.{Timestamp}
use Rattle.layout.specs.declared.clock.LocalTime.{LocalTime}
use Rattle.record.specs.declared.request.Request.{Request}
use Rattle.record.specs.declared.message.Message.{Message}
use Rattle.rules.specs.Lists.{up_to}
use Rattle.rules.specs.Batch.{reply_to}
use Rattle.rules.specs.Replica.{State, requests_of, batch_at, visits, at_time}
use Rattle.rules.specs.Machine.{occurring}
use Rattle.rules.specs.declared.Pending.{Pending}
use Rattle.question.proofs.Tests.{both, within-true, in_within}
use Rattle.laws.specs.Handled.{cleared_of, handled, store_when, batch_sent, visit_sent, step_sent, ForHandled}
use Rattle.laws.proofs.Lists.{map_in, flat_in, in_flat, up_to_in, in_up_to}
use Rattle.laws.proofs.Least.{batch_at_in}
use Rattle.laws.proofs.Verdict.{Said, replied, halted, handled-said, handle-view}
use Rattle.laws.proofs.Occurring.{same_timestamp, occurring_in, in_occurring}
use Rattle.laws.proofs.Visited.{cleared_requests, request-cleared, cleared-request}
use Rattle.laws.proofs.Sent.{step-sends}

module _ (s : State) (now : LocalTime) where
  -- the requests that the visit of a group handles
  abbrev visited : ℕ → List Request
  visited g = cleared_requests s.settings.delta now (s.pending g)

  -- what is sent for a handled request's batch is among a step's messages
  back : (m : Message) → ForHandled s now m → Memᴰ m (step_sent s now)
  back m f =
      let g = f.0 in
      let h = both (within 1 s.settings.groups g) (cleared_of s.settings.delta now (s.pending g) f.1) f.3 in
      let bounds = within-true 1 s.settings.groups g h.0 in
      let r = cleared-request s.settings.delta now (s.pending g) f.2 h.1 in
      in_flat (visit_sent s now) (up_to s.settings.groups) (in_up_to s.settings.groups g bounds.0 bounds.1)
      (in_flat (batch_sent s now g) _ (in_occurring (visited g) r) f.4)

  -- a message for a timestamp that the visit of a group comes to belongs to a handled batch
  visit-message : (m : Message) (g : ℕ) (t : Timestamp) → Memᴰ g (up_to s.settings.groups)
      → Memᴰ t (occurring (visited g)) → Memᴰ m (batch_sent s now g t) → ForHandled s now m
  visit-message m g t i j k =
      let r = occurring_in (visited g) j in
      let p = request-cleared s.settings.delta now (s.pending g) r.1 in
      let at : p.0.request.timestamp ≡ t = ap (λ (q : Request). q.timestamp) (sym p.3) ∙ r.2 in
      let bounds = up_to_in s.settings.groups i in
      (g, p.0, p.1, rw (in_within 1 s.settings.groups g bounds.0 bounds.1) p.2, rw at k)

  -- and so does each of a step's
  there : (m : Message) → Memᴰ m (step_sent s now) → ForHandled s now m
  there m i =
      let g = flat_in (visit_sent s now) (up_to s.settings.groups) i in
      let t = flat_in (batch_sent s now g.0) (occurring (visited g.0)) g.2 in
      visit-message m g.0 t.0 g.1 t.1 t.2

  -- the messages are exactly those of the handled batches
  pub sent_exactly : (m : Message) → Memᴰ m (visits s.settings.groups now (at_time now s)).sent ↔ ForHandled s now m
  sent_exactly m = rw (step-sends s now) (there m, back m)

  -- a reply answers a handled request, with the value of its variable when its batch is handled
  pub reply-value : (m : Message) → Memᴰ m (visits s.settings.groups now (at_time now s)).sent → m.kind ≡ reply
      → (group : ℕ) × (p : Pending) × Memᴰ p (s.pending group) × (handled s now group p ≡ true)
      × (m ≡ reply_to (store_when s now group p.request.timestamp) s.number p.request)
  reply-value m i kind =
      let f = (sent_exactly m).0 i in
      answer f.0 f.1 f.3 (handled-said s.settings.k s.settings.owner s.number _ _ _ _ (handle-view s.settings s.number _ _ _ _) m f.4)
    where
      answer : (g : ℕ) (p : Pending) → handled s now g p ≡ true
          → Said s.settings.k s.settings.owner s.number g p.request.timestamp
          (requests_of (batch_at p.request.timestamp (s.pending g))) (store_when s now g p.request.timestamp) m
          → (group : ℕ) × (q : Pending) × Memᴰ q (s.pending group) × (handled s now group q ≡ true)
          × (m ≡ reply_to (store_when s now group q.request.timestamp) s.number q.request)
      answer g p h (replied r j e) =
          let q = map_in (λ (x : Pending). x.request) (batch_at p.request.timestamp (s.pending g)) j in
          let a = batch_at_in p.request.timestamp (s.pending g) q.1 in
          let at : q.0.request.timestamp ≡ p.request.timestamp = same_timestamp a.1 in (
            g,
            q.0,
            a.0,
            rw at h,
            e ∙ ap (reply_to (store_when s now g p.request.timestamp) s.number) q.2 ∙ rw at,
          )
      answer g p h (halted process j e) = absurd (omega (arith, kind, ap (λ (x : Message). x.kind) e))
