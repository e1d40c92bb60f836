-- How many messages a step sends: one for each request that it handles, and k more where the store fails.
use Prim.Native.Nat.{ℕ, zero, suc, ◌+◌, ◌*◌, ◌≤◌, ◌<◌}
use mathlib.Core.Path.{◌≡◌}
use mathlib.Core.Bool.{true, cond}
use mathlib.Core.List.{List}
use native.Mathlib.Omega.{arith}
use lib.ListN.{length, length-append, length-map}
use Rattle.layout.specs.declared.clock.Timestamp.{Timestamp}
use Rattle.layout.specs.declared.clock.LocalTime.{LocalTime}
use Rattle.record.specs.declared.request.Request.{Request}
use Rattle.rules.specs.Lists.{up_to}
use Rattle.rules.specs.Batch.{first_of, Store, Effect, still, follow, failed, perform, reply_to, halt_to, handle}
use Rattle.rules.specs.declared.Settings.{Settings}
use Rattle.rules.specs.Replica.{State, pending_in, requests_of, head_timestamp, batch_of, others, is_stable, handle_batch, visit_group, visits}
use Rattle.rules.specs.declared.Pending.{Pending}
use Rattle.question.proofs.Tests.{case}
use Rattle.laws.proofs.Lists.{length-up_to}
use Rattle.laws.proofs.Least.{stable_some, others_batch}
use Rattle.laws.proofs.Queues.{replace_same}
use Rattle.laws.proofs.Storage.{fail-failed}
use Rattle.laws.proofs.Verdict.{Handled, answered, performed, failing, passed, handle-view}
use Rattle.laws.proofs.Visits.{handle_in, visit_group_lem, visit_all}
use Rattle.laws.proofs.Keeps.{Keeps, keeps_same, keeps_then, batch-keeps, visits-keep}

-- what a failure may still add to the number of messages
abbrev pub spare : ℕ → Store → ℕ
spare k s = cond (failed s) 0 k

pub spare_le : (k : ℕ) (s : Store) → spare k s ≤ k
spare_le k s = case (failed s) (λ e. rw e (omega arith)) (λ e. rw e (omega arith))

-- a batch costs no more messages than it has requests, and k more where the store fails
handle-cost : (u : Settings) (replica group : ℕ) (t : Timestamp) (batch : List Request) (s : Store) → 0 < length batch → 0 < length s.variables
    → length (handle u replica group t batch s).sent + spare u.k (handle u replica group t batch s).state ≤ length batch + spare u.k s
handle-cost u replica group t batch s filled room = go (handle-view u replica group t batch s)
  where
    go : {e : Effect Store} → Handled u.k u.owner replica group t batch s e
        → length e.sent + spare u.k e.state ≤ length batch + spare u.k s
    go (answered a) = omega (arith, length-map batch (reply_to s replica))
    go (performed a o f) = rw f (omega (arith, spare_le u.k (perform (first_of batch) s)))
    go (failing o f) =
        let g = fail-failed s room in
        rw (f, g) (omega (arith, length-map (up_to (u.k + 1)) (halt_to group replica t), length-up_to (u.k + 1)))
    go passed = omega arith

-- the messages of a group's visit and what is still pending of it cost no more than what was pending
record Bill (group : ℕ) (s : State) (e : Effect State) : Type 0 where
  keeps : Keeps s e.state
  cost : 0 < length s.store.variables
      → length e.sent + (length (e.state.pending group) + spare e.state.settings.k e.state.store)
      ≤ length (s.pending group) + spare s.settings.k s.store

module _ (group : ℕ) where
  nothing_bill : (s : State) → Bill group s (still s)
  nothing_bill s = record { keeps = keeps_same s; cost = λ h. omega arith }

  batch_bill : (now : LocalTime) (s : State) → is_stable s.settings.delta now (batch_of (s.pending group)) ≡ true
      → Bill group s (handle_in group s)
  unfolding handle_in handle_batch
  batch_bill now s e = record {
    keeps = batch-keeps group s;
    cost = λ h.
        let queue = s.pending group in
        let batch = batch_of queue in
        let l : length (requests_of batch) ≡ length batch = length-map batch (λ (p : Pending). p.request) in
        rw (replace_same group (others queue) s.pending) (omega (
          arith,
          l,
          others_batch queue,
          handle-cost s.settings s.number group (head_timestamp queue) (requests_of batch) s.store (omega (arith, l, stable_some s.settings.delta now batch e)) h,
        ));
  }

  bill_then : (s : State) (e : Effect State) (next : State → Effect State)
      → Bill group s e → Bill group e.state (next e.state) → Bill group s (follow e next)
  bill_then s e next a b = record {
    keeps = keeps_then a.keeps b.keeps;
    cost = λ h. omega (arith, length-append e.sent (next e.state).sent, a.cost h, b.cost (omega (arith, a.keeps.variables)));
  }

  visit_bill : (now : LocalTime) (s : State) → Bill group s (visit_group group now s)
  visit_bill now s = rw (visit_group_lem group now s)
      (visit_all now (Bill group) nothing_bill bill_then group (batch_bill now) (length (s.pending group)) s)

-- the visits of the groups, one after the other
visits_bill : (n : ℕ) (now : LocalTime) (s : State) → 0 < length s.store.variables
    → length (visits n now s).sent + spare (visits n now s).state.settings.k (visits n now s).state.store
    ≤ pending_in n s.pending + spare s.settings.k s.store
unfolding visits
visits_bill zero now s h = omega arith
visits_bill (suc n) now s h =
    let t = (visits n now s).state in
    let kept = visits-keep n now s in
    omega (
      arith,
      visits_bill n now s h,
      (visit_bill (suc n) now t).cost (omega (arith, kept.variables)),
      kept.fewer (suc n),
      length-append (visits n now s).sent (visit_group (suc n) now t).sent,
    )

-- one message for each request of groups 1 to n that was pending, and k more at most
pub visits-cost : (n : ℕ) (now : LocalTime) (s : State) → 0 < length s.store.variables
    → length (visits n now s).sent ≤ pending_in n s.pending + s.settings.k
visits-cost n now s h = omega (arith, visits_bill n now s h, spare_le s.settings.k s.store)

-- where each group has at most so many
pub pending_most : (most n : ℕ) (pending : ℕ → List Pending) → ((g : ℕ) → length (pending g) ≤ most) → pending_in n pending ≤ n * most
pending_most most zero pending h = omega arith
pending_most most (suc n) pending h = omega (arith, pending_most most n pending h, h (suc n))
