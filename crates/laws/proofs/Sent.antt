-- The store after a step, and its messages: each batch is handled in the store that the owner's requests before it leave.
use Prim.Native.Nat.{ℕ, zero, suc}
use mathlib.Core.Path.{◌≡◌, refl, sym, ◌∙◌, ap}
use mathlib.Core.Bool.{Bool, true, false, ◌||◌, or-true}
use mathlib.Core.List.{List, [], ◌∷◌, ◌++◌, append-nil, flat_map}
use native.Mathlib.Nat.{zero-add}
use native.Mathlib.Omega.{arith}
use lib.Dec.{eqb, ltb}
use lib.ListN.{length}
use borrow.Author.Tests.{eqb-true, lt-ltb, le-ltb}
use Rattle.question.specs.Question.{given, within}
use Rattle.layout.specs.declared.clock.Timestamp.{Timestamp}
use Rattle.layout.specs.declared.clock.LocalTime.{LocalTime}
use Rattle.record.specs.declared.request.Request.{Request}
use Rattle.rules.specs.Lists.{keep, up_to}
use Rattle.rules.specs.Batch.{Store, Effect}
use Rattle.rules.specs.Replica.{State, Stepped, requests_of, visit_group, visits, Written, written, put_all, at_time, stepped, step}
use Rattle.rules.specs.Machine.{react_all}
use Rattle.question.proofs.Tests.{case, within-true, in_within}
use Rattle.laws.specs.Handled.{handled_in, own_handled, left_by, store_when, visit_sent, step_sent}
use Rattle.laws.specs.Output.{CountsRecords}
use Rattle.laws.proofs.Lists.{eqb_swap, keep_none, keep_all, keep_same, flat_append, flat_same}
use Rattle.laws.proofs.Keeps.{visits-keep}
use Rattle.laws.proofs.Machine.{machine_from}
use Rattle.laws.proofs.Replies.{before}
use Rattle.laws.proofs.Handled.{none_within, past-within, next_within, none_handled, past_left}
use Rattle.laws.proofs.Batches.{leaves, messages_at, one_by_one}
use Rattle.laws.proofs.Visited.{cleared_requests, batch-whole, occurring-cleared, outcome, visit_group-one_by_one}
use Rattle.laws.proofs.Step.{step_accepted_lem}
use Rattle.laws.proofs.Records.{put-stands}

module _ (s : State) (now : LocalTime) where
  abbrev owner : ℕ
  owner = s.settings.owner

  -- what the visit of group n + 1 handles
  abbrev next_requests : ℕ → List Request
  next_requests n = cleared_requests s.settings.delta now (s.pending (suc n))

  -- ── the store ──

  -- none of the owner's requests is handled, where the owner is not among groups 1 to n
  own_none : (n : ℕ) → within 1 n owner ≡ false → own_handled n s now ≡ []
  own_none n e = ap requests_of (keep_none (handled_in n s now owner) (s.pending owner) (λ p i. none_handled s now n owner e p))

  -- all that are cleared, where it is
  own_all : (n : ℕ) → within 1 n owner ≡ true → own_handled n s now ≡ cleared_requests s.settings.delta now (s.pending owner)
  own_all n e = ap requests_of (keep_same _ _ (s.pending owner) (λ p. rw e))

  -- the owner's requests that the visits of groups 1 to n + 1 handle, those of group n + 1 only where they pass a test
  abbrev up_to_next : ℕ → (Request → Bool) → List Request
  up_to_next n test = keep (λ r. ltb owner (suc n) || test r) (own_handled (suc n) s now)

  -- group n + 1 is the owner: its own
  own_next : (n : ℕ) (test : Request → Bool) → suc n ≡ owner → up_to_next n test ≡ keep test (next_requests n)
  own_next n test o =
      rw (own_all (suc n) (in_within 1 (suc n) owner (omega arith) (omega arith)), le-ltb owner (suc n) (omega arith))
      (ap (λ g. keep test (cleared_requests s.settings.delta now (s.pending g))) (sym o))

  -- another group: the owner's are those before
  guest_next : (n : ℕ) (test : Request → Bool) → eqb (suc n) owner ≡ false → up_to_next n test ≡ own_handled n s now
  guest_next n test o =
      let same = next_within n owner (eqb_swap owner (suc n) ∙ o) in
      case (within 1 n owner)
      (λ h. rw (own_all (suc n) (same ∙ h), own_all n h, lt-ltb owner (suc n) (omega (arith, (within-true 1 n owner h).1)))
      (keep_all (λ r. true) (cleared_requests s.settings.delta now (s.pending owner)) (λ r i. refl)))
      (λ h. rw (own_none (suc n) (same ∙ h), own_none n h))

  store_next : (n : ℕ) (test : Request → Bool)
      → leaves s.settings (suc n) (keep test (next_requests n)) (left_by s (own_handled n s now))
      ≡ left_by s (up_to_next n test)
  unfolding leaves machine_from react_all
  store_next n test = case (eqb (suc n) owner)
      (λ o. let e = eqb-true (suc n) owner o in rw (o, own_none n (rw (← e) (past-within n)), own_next n test e))
      (λ o. rw (o, guest_next n test o))

  -- what comes of the visit of group n + 1 after those of groups 1 to n, in the store that they leave
  visit_next : (n : ℕ) → (visits n now s).state.store ≡ left_by s (own_handled n s now)
      → outcome (visit_group (suc n) now (visits n now s).state)
      ≡ one_by_one s.settings s.number (suc n) (next_requests n) (left_by s (own_handled n s now))
  visit_next n store =
      let keeps = visits-keep n now s in
      visit_group-one_by_one (suc n) now (visits n now s).state ∙ rw (keeps.settings, keeps.number, store, past_left s now n (suc n) (omega arith))

  -- the visits of groups 1 to n leave what the owner's requests that they handle leave
  pub visits-store : (n : ℕ) → (visits n now s).state.store ≡ left_by s (own_handled n s now)
  unfolding visits react_all
  visits-store zero = rw (own_none 0 (none_within owner))
  visits-store (suc n) = ap (λ (e : Effect Store). e.state) (visit_next n (visits-store n)) ∙ rw (all, whole) at (store_next n (λ r. true))
    where
      all : keep (λ r. true) (next_requests n) ≡ next_requests n
      all = keep_all (λ r. true) (next_requests n) (λ r i. refl)

      whole : up_to_next n (λ r. true) ≡ own_handled (suc n) s now
      whole = keep_all _ (own_handled (suc n) s now) (λ r i. or-true (ltb owner (suc n)))

  -- ── the messages ──

  -- the store in which a batch of group n + 1 is handled
  next_store : (n : ℕ) (t : Timestamp)
      → leaves s.settings (suc n) (before t (next_requests n)) (left_by s (own_handled n s now))
      ≡ store_when s now (suc n) t
  next_store n t = store_next n (λ r. ltb r.timestamp.0 t.0)

  next_sent : (n : ℕ)
      → (one_by_one s.settings s.number (suc n) (next_requests n) (left_by s (own_handled n s now))).sent
      ≡ visit_sent s now (suc n)
  next_sent n = flat_same _ _ _ (λ t i.
      rw (
        batch-whole s.settings.delta now (s.pending (suc n)) t (occurring-cleared s.settings.delta now (s.pending (suc n)) i),
        next_store n t,
        messages_at,
      ))

  -- of the visits of groups 1 to n, by ascending group
  pub visits-sent : (n : ℕ) → (visits n now s).sent ≡ flat_map (visit_sent s now) (up_to n)
  unfolding visits flat_map
  visits-sent zero = refl
  visits-sent (suc n) =
      rw (flat_append (visit_sent s now) (up_to n) (suc n ∷ []), append-nil (visit_sent s now (suc n)), visits-sent n)
      (ap (λ l. flat_map (visit_sent s now) (up_to n) ++ l) (ap (λ (e : Effect Store). e.sent) (visit_next n (visits-store n)) ∙ next_sent n))

-- ── a step ──

-- its messages, all of them, in their order
pub step-sends : (s : State) (now : LocalTime) → (visits s.settings.groups now (at_time now s)).sent ≡ step_sent s now
step-sends s now = visits-sent (at_time now s) now s.settings.groups

module _ (s : State) (now : LocalTime) (output : List ℕ) {d : Stepped} (e : step s now output ≡ given d) where
  -- the owner's handled requests leave the store as the machine does
  pub step-store : d.state.store ≡ left_by s (own_handled s.settings.groups s now)
  unfolding stepped
  step-store = rw (step_accepted_lem s now output e) (visits-store (at_time now s) now s.settings.groups)

  -- and they are what is written
  pub step-writes : written d.count d.output ≡ put_all s.settings.k s.settings.groups (written 0 output) (step_sent s now)
  unfolding stepped
  step-writes = rw (step_accepted_lem s now output e, step-sends s now)

  -- whatever the replica, the answer counts the records that stand in the output
  pub step_counts : CountsRecords (step_sent s now) output d
  step_counts =
      let stands = put-stands s.settings.k s.settings.groups (step_sent s now) 0 [] output refl in
      let same = step-writes ∙ stands.is in
      record {
        kept = stands.kept;
        among = stands.among;
        count = ap (λ (w : Written). w.count) same ∙ zero-add (length stands.kept);
        records = ap (λ (w : Written). w.output) same;
      }
