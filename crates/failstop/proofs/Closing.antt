-- After a closing step none of the owner's requests arrives, and none is pending at the end of the run.
use Prim.Native.Nat.{ℕ, ◌+◌, ◌<◌}
use mathlib.Core.Path.{◌≡◌, refl, sym, ◌∙◌, ap, subst}
use mathlib.Core.Logic.{⊎_elim}
use mathlib.Core.Bool.{true, false}
use mathlib.Core.List.Memᴰ
use mathlib.Core.List.{List, [], ◌∷◌, Memᴰ, flat_map}
use native.Mathlib.Omega.{arith}
use lib.ListN.{length}
use borrow.Author.Tests.{leb-true, lt-ltb}
use Rattle.question.specs.Question.{Answer, given, refused, is_given, map_answer}
use Rattle.layout.specs.declared.clock.LocalTime.{LocalTime}
use Rattle.rules.specs.Lists.{some}
use Rattle.rules.specs.Batch.{Effect}
use Rattle.rules.specs.declared.Settings.{Settings}
use Rattle.rules.specs.Replica.{State, Stepped, head_timestamp, batch_of, earliest, is_stable, visits, at_time, step}
use Rattle.rules.specs.Run.{Call, delivery, turn, messages_of, call, run, step_in, exchanges}
use Rattle.failstop.specs.Suppose.{is_past, closes}
use Rattle.rules.specs.declared.Pending.{Pending}
use Rattle.question.proofs.Tests.{case, true-not-false}
use Rattle.laws.proofs.Lists.{no_member, every_in}
use Rattle.laws.proofs.Least.{earliest-hit, batch_at_in, batch_some}
use Rattle.laws.proofs.Keeps.{visits-keep}
use Rattle.laws.proofs.Settles.{visits_settle}
use Rattle.laws.proofs.Accepted.{Made}
use Rattle.laws.proofs.Exchanges.{step-passed}
use Rattle.laws.proofs.Calls.{call_step}
use Rattle.failstop.proofs.Arrivals.{run-pending}
use Rattle.failstop.proofs.Runs.{Underway, underway_next, after_step}

-- a batch of which every request arrived more than δ ago is stable
all_stable : (delta : ℕ) (now : LocalTime) (l : List Pending) → 0 < length l → ((p : Pending) → Memᴰ p l → p.arrival.0 + delta < now.0)
    → is_stable delta now l ≡ true
all_stable delta now [] some old = absurd (omega arith)
all_stable delta now (p ∷ l) some old =
    let h = earliest-hit p l in
    lt-ltb ((earliest p.arrival l).0 + delta) now.0 (omega (arith, old h.0 h.1, h.2))

module _ (u : Settings) (me : ℕ) (ok : Made u me) where
  -- a step more than δ past every pending request of the owner leaves none
  visits-empty : (now : LocalTime) (s : State) → s.settings ≡ u
      → ((p : Pending) → Memᴰ p (s.pending u.owner) → p.arrival.0 + u.delta < now.0)
      → (visits u.groups now s).state.pending u.owner ≡ []
  visits-empty now s e old = no_member _ (λ p i. true-not-false (is_stable u.delta now (batch_of left)) (stable p i) settled)
    where
      left : List Pending
      left = (visits u.groups now s).state.pending u.owner

      -- were one left, its group would have a stable batch
      stable : (p : Pending) → Memᴰ p left → is_stable u.delta now (batch_of left) ≡ true
      stable p i = all_stable u.delta now (batch_of left) (batch_some left p i)
          (λ q j. old q ((visits-keep u.groups now s).pending u.owner q (batch_at_in (head_timestamp left) left j).0))

      settled : is_stable u.delta now (batch_of left) ≡ false
      settled =
          subst (λ (v : Settings). is_stable v.delta now (batch_of left) ≡ false) e
          (visits_settle u.groups now s u.owner ok.owner-low ok.owner-high)

  module _ (all : List Pending) where
    closing-empty : (s : State) (now : LocalTime) (output : List ℕ) (calls : List Call) → Underway u me all s (turn now output ∷ calls)
        → is_given (step s now output) ≡ true → closes u.delta all now ≡ true
        → (run (call s (turn now output)).state calls).state.pending u.owner ≡ []
    closing-empty s now output calls w given-one e = go (step s now output) refl
      where
        -- what the test says, whichever it is
        past : (p : Pending) → is_past u.delta now p ≡ true → p.arrival.0 + u.delta < now.0
        past p h = omega (arith, leb-true)

        old : (p : Pending) → Memᴰ p all → p.arrival.0 + u.delta < now.0
        old p i = past p (every_in (is_past u.delta now) all e p i)

        go : (a : Answer Stepped) → step s now output ≡ a → (run (call s (turn now output)).state calls).state.pending u.owner ≡ []
        go (refused number) f = true-not-false (is_given (step s now output)) given-one (ap is_given f)
        go (given d) f =
            let c = turn now output in
            let next = underway_next u me ok all s c calls w in
            let same = call_step u me ok s now output w.going.sound f in
            let gone : (call s c).state.pending u.owner ≡ [] =
            ap (λ (x : Effect State). x.state.pending u.owner) same
            ∙ visits-empty now (at_time now s) w.going.sound.settings (λ p i. old p (w.pending p i)) in
            no_member _ (λ p i. ⊎_elim
            (λ j. Memᴰ.not-nil (rw gone at j))
            (λ j. omega (arith, old p (next.coming p j), after_step u me ok all s c calls w now same p j))
            (run-pending u me ok calls (call s c).state next.going p i))

    pub run-empty : (calls : List Call) (s : State) → Underway u me all s calls → some (closes u.delta all) (flat_map step_in (exchanges s calls)) ≡ true
        → (run s calls).state.pending u.owner ≡ []
    unfolding run exchanges flat_map
    run-empty [] s w e = true-not-false false e refl
    run-empty (delivery bytes now ∷ calls) s w e =
        run-empty calls (call s (delivery bytes now)).state (underway_next u me ok all s (delivery bytes now) calls w) e
    run-empty (turn now output ∷ calls) s w e =
        let c = turn now output in
        let next = underway_next u me ok all s c calls w in
        case (is_given (map_answer (messages_of s) (step s now output)))
        (λ g. case (closes u.delta all now)
        (λ t. closing-empty s now output calls w (sym (step-passed s now output) ∙ g) t)
        (λ t. run-empty calls (call s c).state next (rw (g, t) at e)))
        (λ g. run-empty calls (call s c).state next (rw g at e))
