-- Whom a batch concerns: its messages go to its own group, and a guest's leaves the store. So the visit of a guest is nothing to the owner.
use Prim.Native.Nat.{ℕ, zero, suc}
use mathlib.Core.Path.{◌≡◌, refl, ◌∙◌}
use mathlib.Core.Bool.{false}
use mathlib.Core.List.{List, [], ◌++◌, Memᴰ}
use lib.Dec.{eqb}
use lib.ListN.{length}
use borrow.Author.Tests.{eq-eqb}
use Rattle.layout.specs.declared.clock.LocalTime.{LocalTime}
use Rattle.record.specs.declared.message.Message.{Message}
use Rattle.rules.specs.Batch.{Store, Effect, handle}
use Rattle.rules.specs.Replica.{State, requests_of, head_timestamp, batch_of, is_stable, Part, part_of, handle_batch, visit, visit_group}
use Rattle.rules.specs.Run.{to_group}
use Rattle.rules.specs.declared.Pending.{Pending}
use Rattle.rules.specs.declared.Settings.{Settings}
use Rattle.question.proofs.Tests.{case}
use Rattle.laws.proofs.Lists.{eqb_swap, keep_none, keep_all, keep_append, map_in}
use Rattle.laws.proofs.Least.{batch_at_in, others_in}
use Rattle.laws.proofs.Queues.{Of}
use Rattle.laws.proofs.Verdict.{handle_guest, handle-sent}
use Rattle.laws.proofs.Settles.{visit_group_other}

-- to a group, one sending after another
pub to_append : (group : ℕ) (a b : List Message) → to_group group (a ++ b) ≡ to_group group a ++ to_group group b
to_append group a b = keep_append (λ (m : Message). eqb m.group group) a b

-- ── one batch ──

module _ (u : Settings) (me group : ℕ) (queue : List Pending) (s : Store) (of : Of group queue) where
  -- what comes of a queue's batch
  abbrev done : Effect Store
  done = handle u me group (head_timestamp queue) (requests_of (batch_of queue)) s

  -- its messages have its group
  batch-group : (m : Message) → Memᴰ m done.sent → m.group ≡ group
  batch-group m i =
      let t = head_timestamp queue in
      (handle-sent u me group t (requests_of (batch_of queue)) s (λ r j.
      let a = map_in (λ (p : Pending). p.request) (batch_of queue) j in
      let b = batch_at_in t queue a.1 in
      rw a.2 (of a.0 b.0, b.1)) m i).0

  -- so they all go to it
  pub batch-heard : to_group group done.sent ≡ done.sent
  batch-heard = keep_all (λ (m : Message). eqb m.group group) done.sent (λ m i. eq-eqb m.group group (batch-group m i))

  -- and none to another
  pub batch_unheard : (other : ℕ) → eqb group other ≡ false → to_group other done.sent ≡ []
  batch_unheard other e = keep_none (λ (m : Message). eqb m.group other) done.sent (λ m i. rw (batch-group m i) e)

-- ── the visit of a guest ──

module _ (u : Settings) (me group : ℕ) (guest : eqb group u.owner ≡ false) (now : LocalTime) where
  -- it leaves the store, and sends the owner nothing
  record Unseen (part : Part) (e : Effect Part) : Type 0 where
    store : e.state.store ≡ part.store
    quiet : to_group u.owner e.sent ≡ []

  visit-unseen : (looks : ℕ) (part : Part) → Of group part.queue → Unseen part (visit u me group now looks part)
  unfolding visit handle_batch
  visit-unseen zero part of = record { store = refl; quiet = refl }
  visit-unseen (suc looks) part of = case (is_stable u.delta now (batch_of part.queue))
      (λ e.
      let queue = part.queue in
      let first = handle_batch u me group part in
      let rest = visit-unseen looks first.state (λ p i. of p (others_in queue i).0) in
      rw e (record {
        store = rest.store ∙ handle_guest u me group (head_timestamp queue) (requests_of (batch_of queue)) part.store guest;
        quiet = to_append u.owner first.sent (visit u me group now looks first.state).sent
            ∙ rw (batch_unheard u me group queue part.store of u.owner guest) rest.quiet;
      }))
      (λ e. rw e (record { store = refl; quiet = refl }))

-- in a state, it leaves the owner's queue too
pub record Untouched (owner : ℕ) (s : State) (e : Effect State) : Type 0 where
  pub store : e.state.store ≡ s.store
  pub pending : e.state.pending owner ≡ s.pending owner
  pub quiet : to_group owner e.sent ≡ []

pub guest_untouched : (group : ℕ) (now : LocalTime) (s : State) → Of group (s.pending group) → eqb group s.settings.owner ≡ false
    → Untouched s.settings.owner s (visit_group group now s)
unfolding visit_group
guest_untouched group now s of e =
    let seen = visit-unseen s.settings s.number group e now (length (s.pending group)) (part_of group s) of in
    record {
      store = seen.store;
      pending = visit_group_other group now s s.settings.owner (eqb_swap s.settings.owner group ∙ e);
      quiet = seen.quiet;
    }
