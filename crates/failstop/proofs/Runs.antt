-- A whole run of one replica against the machine: of the owner's pending requests followed by the arrivals still to come, the machine
-- makes what the run sends the owner, and then what it makes of the requests that are left. Here the arrival rule is used, once.
use Prim.Native.Nat.{ℕ, ◌≤◌}
use mathlib.Core.Path.{◌≡◌, refl, ◌∙◌, ap}
use mathlib.Core.Logic.{⊎_elim}
use mathlib.Core.List.Memᴰ
use mathlib.Core.List.{List, [], ◌∷◌, ◌++◌, Memᴰ, append_assoc, flat_map}
use native.Mathlib.Omega.{arith}
use lib.Dec.{eqb, leb}
use borrow.Author.Tests.{leb-true, leb-false}
use Rattle.layout.specs.declared.clock.LocalTime.{LocalTime}
use Rattle.rules.specs.Batch.{Effect}
use Rattle.rules.specs.declared.Settings.{Settings}
use Rattle.rules.specs.Replica.{State, visits, at_time}
use Rattle.rules.specs.Run.{Call, to_group, call, run, exchange, arrival_in, arrivals, exchanges}
use Rattle.rules.specs.declared.Pending.{Pending}
use Rattle.question.proofs.Tests.{case}
use Rattle.laws.proofs.Queues.{arrive-mine, arrive_other}
use Rattle.laws.proofs.Keeps.{visits-keep}
use Rattle.laws.proofs.Accepted.{Made}
use Rattle.laws.proofs.Calls.{Act, nothing, arrives, steps}
use Rattle.failstop.proofs.Simulation.{ahead, ahead_then, Apart, expected, visits_simulate}
use Rattle.failstop.proofs.Arrivals.{Going, first_act, going_next, call-between, LooseRule, arrivals-later}

-- where a run stands: all that is pending or still to arrive is among the arrivals of the whole run
pub record Underway (u : Settings) (me : ℕ) (all : List Pending) (s : State) (calls : List Call) : Type 0 where
  pub going : Going u me s calls
  pub pending : (p : Pending) → Memᴰ p (s.pending u.owner) → Memᴰ p all
  pub coming : (p : Pending) → Memᴰ p (arrivals u (exchanges s calls)) → Memᴰ p all

module _ (u : Settings) (me : ℕ) (ok : Made u me) (all : List Pending) where
  pub underway_next : (s : State) (c : Call) (calls : List Call) → Underway u me all s (c ∷ calls) → Underway u me all (call s c).state calls
  unfolding exchanges flat_map
  underway_next s c calls w = record {
    going = going_next u me ok w.going;
    pending = λ p i.
        ⊎_elim (w.pending p) (λ j. w.coming p (Memᴰ.append_left (arrivals u (exchanges (call s c).state calls)) j)) ((call-between u me ok w.going).pending p i);
    coming = λ p i. w.coming p (Memᴰ.append_right (arrival_in u (exchange s c)) i);
  }

  -- what is still to arrive after a step arrives no earlier than it
  pub after_step : (s : State) (c : Call) (calls : List Call) → Underway u me all s (c ∷ calls)
      → (now : LocalTime) → call s c ≡ visits u.groups now (at_time now s)
      → (p : Pending) → Memᴰ p (arrivals u (exchanges (call s c).state calls)) → now.0 ≤ p.arrival.0
  after_step s c calls w now e p i =
      let next = underway_next s c calls w in
      let last : (call s c).state.last.0 ≡ now.0 =
      ap (λ (x : Effect State). x.state.last.0) e ∙ ap (λ (x : LocalTime). x.0) (visits-keep u.groups now (at_time now s)).last in
      omega (arith, (arrivals-later u me ok calls (call s c).state next.going p i).0)

  -- ── one call ──

  abbrev CallMatched : State → Call → List Pending → Type 0
  CallMatched s c coming = expected u me (arrival_in u (exchange s c) ++ coming) s ≡ ahead (to_group u.owner (call s c).sent) (expected u me coming (call s c).state)

  call-matched : (s : State) (c : Call) (calls : List Call) (coming : List Pending) → Going u me s (c ∷ calls)
      → ((now : LocalTime) → call s c ≡ visits u.groups now (at_time now s) → Apart u now coming (s.pending u.owner)) → CallMatched s c coming
  call-matched s c calls coming g apart = go (first_act u me ok g)
    where
      go : Act u s c → CallMatched s c coming
      go (nothing e a) = rw (e, a)
      go (arrives r now proper late room e a) =
          let new : List Pending = record { request = r; arrival = now } ∷ [] in
          case (eqb r.group u.owner)
          (λ t. rw (e, a, t, arrive-mine s r now u.owner t, ← append_assoc (s.pending u.owner) new coming))
          (λ t. rw (e, a, t, arrive_other s r now u.owner t))
      go (steps now late e a) =
          let h = g.sound in
          rw (e, a) (visits_simulate u me now coming u.groups (at_time now s)
          (record { settings = h.settings; number = h.number; housed = h.housed; apart = apart now e })).1

  -- ── a run ──

  module _ (rule : LooseRule u.delta all) where
    -- none of what is still to come belongs before what was stable in the step
    step-apart : (s : State) (c : Call) (calls : List Call) → Underway u me all s (c ∷ calls)
        → (now : LocalTime) → call s c ≡ visits u.groups now (at_time now s) → Apart u now (arrivals u (exchanges (call s c).state calls)) (s.pending u.owner)
    step-apart s c calls w now e p i old q j = case (leb q.request.timestamp.0 p.request.timestamp.0)
        (λ t.
        let soon = rule p q (w.pending p i) ((underway_next s c calls w).coming q j) (leb-true q.request.timestamp.0 p.request.timestamp.0 t) in
        absurd (omega (arith, soon, after_step s c calls w now e q j)))
        (leb-false q.request.timestamp.0 p.request.timestamp.0)

    pub run-matched : (calls : List Call) (s : State) → Underway u me all s calls
        → expected u me (arrivals u (exchanges s calls)) s ≡ ahead (to_group u.owner (run s calls).sent) (expected u me [] (run s calls).state)
    unfolding run exchanges flat_map
    run-matched [] s w = refl
    run-matched (c ∷ calls) s w =
        let t = (call s c).state in
        ahead_then u.owner (call s c).sent (run t calls).sent (expected u me [] (run t calls).state)
        (call-matched s c calls (arrivals u (exchanges t calls)) w.going (step-apart s c calls w))
        (run-matched calls t (underway_next s c calls w))
