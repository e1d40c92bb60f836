-- Which pending requests a step handles: exactly those of which every batch of their queue, up to their timestamp, is stable.
use Prim.Native.Nat.{ℕ, zero, suc, ◌≤◌, ◌<◌}
use mathlib.Core.Path.{◌≡◌, refl, sym, ◌∙◌, ap}
use mathlib.Core.Logic.{◌↔◌}
use mathlib.Core.Bool.{Bool, true, false, not, ◌&&◌}
use mathlib.Core.List.Memᴰ
use mathlib.Core.List.{List, [], ◌∷◌, Memᴰ}
use native.Mathlib.Omega.{arith}
use lib.Dec.{eqb}
use lib.ListN.{length}
use borrow.Author.Tests.{eqb-true, eqb-false, eq-eqb, ne_eqb, not-true}
use Rattle.question.specs.Question.{given, within}
use Rattle.layout.specs.declared.clock.Timestamp.{Timestamp}
use Rattle.layout.specs.declared.clock.LocalTime.{LocalTime}
use Rattle.rules.specs.Lists.{keep}
use Rattle.rules.specs.Replica.{State, Stepped, Part, stamped, head_timestamp, batch_at, batch_of, others, is_stable, handle_batch, visit, visit_group, visits, part_of, at_time, stepped, step}
use Rattle.rules.specs.declared.Pending.{Pending}
use Rattle.rules.specs.declared.Settings.{Settings}
use Rattle.question.proofs.Tests.{case, true-not-false, within-true, in_within}
use Rattle.laws.specs.Handled.{cleared, StableUpTo, cleared_of, handled_in, handled}
use Rattle.laws.proofs.Lists.{same_test, keep_in, in_keep, keep_none, keep_all, keep_both, keep_same}
use Rattle.laws.proofs.Least.{stable_some, batch_at_in, others_fewer}
use Rattle.laws.proofs.Queues.{replace_same}
use Rattle.laws.proofs.Occurring.{same_timestamp}
use Rattle.laws.proofs.Keeps.{visits-keep}
use Rattle.laws.proofs.Settles.{visit_group_other}
use Rattle.laws.proofs.Step.{step_accepted_lem}
use Rattle.laws.proofs.Cleared.{cleared_in, in_cleared, batch-cleared, batch-uncleared, others_cleared}

-- ── the visit of one group ──

module _ (u : Settings) (replica group : ℕ) (now : LocalTime) where
  -- what stays of a queue
  abbrev uncleared : List Pending → List Pending
  uncleared queue = keep (λ p. not (cleared_of u.delta now queue p)) queue

  -- after a stable batch as before it
  uncleared_others : (queue : List Pending) → is_stable u.delta now (batch_of queue) ≡ true → uncleared (others queue) ≡ uncleared queue
  uncleared_others queue e =
      keep_both (λ p. not (cleared_of u.delta now (others queue) p)) (λ p. not (stamped first p.request)) queue
      ∙ keep_same _ _ queue alike
    where
      first : Timestamp
      first = head_timestamp queue

      alike : (p : Pending)
          → (not (stamped first p.request) && not (cleared_of u.delta now (others queue) p)) ≡ not (cleared_of u.delta now queue p)
      alike p = rw (others_cleared u.delta now queue p.request.timestamp e) (case (stamped first p.request)
          (λ q. rw (q, batch-cleared u.delta now queue e p.request.timestamp (eqb-true p.request.timestamp.0 first.0 q)))
          (λ q. rw q))

  -- the visit takes off what is cleared, and leaves the rest in its order
  pub visit_exactly : (looks : ℕ) (part : Part) → length part.queue ≤ looks
      → (visit u replica group now looks part).state.queue ≡ keep (λ p. not (cleared_of u.delta now part.queue p)) part.queue
  unfolding visit handle_batch
  visit_exactly zero part h = none part.queue h
    where
      none : (l : List Pending) → length l ≤ 0 → l ≡ uncleared l
      none [] h = refl
      none (p ∷ l) h = absurd (omega arith)
  visit_exactly (suc looks) part h =
      let queue = part.queue in
      case (is_stable u.delta now (batch_of queue))
      (λ e. rw e (visit_exactly looks (handle_batch u replica group part).state
      (omega (arith, others_fewer queue (stable_some u.delta now (batch_of queue) e))) ∙ uncleared_others queue e))
      (λ e. rw e (sym (keep_all (λ p. not (cleared_of u.delta now queue p)) queue (λ p i. ap not (batch-uncleared u.delta now queue e p i)))))

-- the same in a state
pub visit_group_exactly : (group : ℕ) (now : LocalTime) (s : State)
    → (visit_group group now s).state.pending group ≡ keep (λ p. not (cleared_of s.settings.delta now (s.pending group) p)) (s.pending group)
unfolding visit_group
visit_group_exactly group now s =
    let looks = length (s.pending group) in
    replace_same group (visit s.settings s.number group now looks (part_of group s)).state.queue s.pending
    ∙ visit_exactly s.settings s.number group now looks (part_of group s) (omega arith)

-- ── the visits of groups 1 to n ──

pub none_within : (x : ℕ) → within 1 0 x ≡ false
none_within x = case (within 1 0 x) (λ e. absurd (omega (arith, (within-true 1 0 x e).0, (within-true 1 0 x e).1))) (λ e. e)

pub past-within : (n : ℕ) → within 1 n (suc n) ≡ false
past-within n = case (within 1 n (suc n)) (λ e. absurd (omega (arith, (within-true 1 n (suc n) e).1))) (λ e. e)

-- n + 1 is the one more
pub next_within : (n x : ℕ) → eqb x (suc n) ≡ false → within 1 (suc n) x ≡ within 1 n x
next_within n x e = same_test _ _
    (λ a. let h = within-true 1 (suc n) x a in in_within 1 n x h.0 (omega (arith, h.1, eqb-false x (suc n) e)))
    (λ a. let h = within-true 1 n x a in in_within 1 (suc n) x h.0 (omega (arith, h.1)))

module _ (s : State) (now : LocalTime) where
  -- of a group that is not among them no request is handled
  pub none_handled : (n g : ℕ) → within 1 n g ≡ false → (p : Pending) → handled_in n s now g p ≡ false
  none_handled n g e p = ap (λ (b : Bool). b && cleared_of s.settings.delta now (s.pending g) p) e

  -- they leave the queues of the groups past n
  pub past_left : (n g : ℕ) → n < g → (visits n now s).state.pending g ≡ s.pending g
  unfolding visits
  past_left zero g h = refl
  past_left (suc n) g h = visit_group_other (suc n) now (visits n now s).state g (ne_eqb g (suc n) (λ e. omega arith)) ∙ past_left n g (omega arith)

  -- they take off what they handle, and leave the rest in its order
  pub visits_exactly : (n g : ℕ) → (visits n now s).state.pending g ≡ keep (λ p. not (handled_in n s now g p)) (s.pending g)
  unfolding visits
  visits_exactly zero g = sym (keep_all (λ p. not (handled_in 0 s now g p)) (s.pending g) (λ p i. ap not (none_handled 0 g (none_within g) p)))
  visits_exactly (suc n) g =
      let t = (visits n now s).state in
      case (eqb g (suc n))
      (λ e. rw (eqb-true g (suc n) e, in_within 1 (suc n) (suc n) (omega arith) (omega arith))
      (visit_group_exactly (suc n) now t ∙ rw ((visits-keep n now s).settings, past_left n (suc n) (omega arith))))
      (λ e. rw (next_within n g e) (visit_group_other (suc n) now t g e ∙ visits_exactly n g))

-- ── a step ──

module _ (s : State) (now : LocalTime) (output : List ℕ) {d : Stepped} (e : step s now output ≡ given d) where
  -- of each queue exactly what is handled is gone; what stays keeps its order and its arrivals
  pub step_exactly : (g : ℕ) → d.state.pending g ≡ keep (λ p. not (handled s now g p)) (s.pending g)
  unfolding stepped
  step_exactly g = rw (step_accepted_lem s now output e) (visits_exactly (at_time now s) now s.settings.groups g)

  -- a batch is gone exactly when it is stable and so is every one of its queue with a lesser timestamp
  pub gone_exactly : (g : ℕ) (t : Timestamp) → 1 ≤ g → g ≤ s.settings.groups → {p : Pending} → Memᴰ p (batch_at t (s.pending g))
      → (batch_at t (d.state.pending g) ≡ []) ↔ StableUpTo s.settings.delta now (s.pending g) t
  gone_exactly g t low high {p} i = (
    λ none. cleared_in s.settings.delta now (s.pending g) t (case (cleared s.settings.delta now (s.pending g) t)
        (λ c. c)
        (λ c. absurd (Memᴰ.not-nil (rw (← step_exactly g, none) at
        (in_keep (λ q. stamped t q.request) _ (stays c) (eq-eqb p.request.timestamp.0 t.0 a.1)))))),
    λ h. rw (step_exactly g) (keep_none (λ q. stamped t q.request) _ (off (in_cleared s.settings.delta now (s.pending g) t h))),
  )
    where
      a : Memᴰ p (s.pending g) × (p.request.timestamp.0 ≡ t.0)
      a = batch_at_in t (s.pending g) i

      -- whether a request of the batch is handled
      alike : (q : Pending) → q.request.timestamp.0 ≡ t.0 → handled s now g q ≡ cleared s.settings.delta now (s.pending g) t
      alike q at = rw (same_timestamp {t = q.request.timestamp} {u = t} at, in_within 1 s.settings.groups g low high)

      stays : cleared s.settings.delta now (s.pending g) t ≡ false → Memᴰ p (keep (λ q. not (handled s now g q)) (s.pending g))
      stays c = in_keep (λ q. not (handled s now g q)) (s.pending g) a.0 (ap not (alike p a.1 ∙ c))

      off : cleared s.settings.delta now (s.pending g) t ≡ true
          → (q : Pending) → Memᴰ q (keep (λ q. not (handled s now g q)) (s.pending g)) → stamped t q.request ≡ false
      off c q j = case (stamped t q.request)
          (λ b.
          let here = alike q (eqb-true q.request.timestamp.0 t.0 b) ∙ c in
          true-not-false (handled s now g q) here (not-true (handled s now g q) (keep_in (λ q. not (handled s now g q)) (s.pending g) j).1))
          (λ b. b)
