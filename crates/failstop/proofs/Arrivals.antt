-- A run call by call: what it sends passes the questions, its arrivals do not fall, and the arrival rule may be measured from any
-- request of a timestamp.
use Prim.Native.Nat.{ℕ, ◌+◌, ◌≤◌}
use mathlib.Core.Path.{◌≡◌, refl, sym, ap}
use mathlib.Core.Logic.{◌⊎◌, inl, inr, ⊎_elim}
use mathlib.Core.Bool.{false}
use mathlib.Core.List.Memᴰ
use mathlib.Core.List.{List, [], ◌∷◌, ◌++◌, Memᴰ, flat_map}
use native.Mathlib.Omega.{arith}
use lib.Dec.{eqb}
use borrow.Author.Tests.{eqb-true, eqb-false, eq-eqb}
use Rattle.record.specs.declared.request.Request.{Request}
use Rattle.rules.specs.declared.Settings.{Settings}
use Rattle.rules.specs.Replica.{State, stamped, at_time}
use Rattle.rules.specs.Run.{Call, Lent, call, run, exchange, arrival_in, arrivals, exchanges}
use Rattle.failstop.specs.Suppose.{first_arrival, ArrivalRule}
use Rattle.rules.specs.declared.Pending.{Pending}
use Rattle.question.proofs.Tests.{case}
use Rattle.laws.proofs.Queues.{arrive_in}
use Rattle.laws.proofs.Keeps.{visits-keep}
use Rattle.laws.proofs.Accepted.{Made, Proper}
use Rattle.laws.proofs.Records.{AllSendable}
use Rattle.laws.proofs.Sound.{Sound, visits_soundly}
use Rattle.laws.proofs.Calls.{Act, nothing, arrives, steps, at_sound, call_act, call-sound}

-- ── one call ──

-- an owner's request that passed the questions
pub record Owned (u : Settings) (r : Request) : Type 0 where
  pub owner : r.group ≡ u.owner
  pub proper : Proper u.k u.groups r

-- what lies between the states before and after a call
pub record Between (u : Settings) (s : State) (c : Call) : Type 0 where
  -- the local time does not fall
  pub last : s.last.0 ≤ (call s c).state.last.0
  -- what arrives is accepted last, and is the owner's
  pub arrival : (p : Pending) → Memᴰ p (arrival_in u (exchange s c)) → (p.arrival.0 ≡ (call s c).state.last.0) × Owned u p.request
  -- what is pending after it was pending or has arrived
  pub pending : (p : Pending) → Memᴰ p ((call s c).state.pending u.owner) → Memᴰ p (s.pending u.owner) ⊎ Memᴰ p (arrival_in u (exchange s c))

between : {u : Settings} {s : State} {c : Call} → Act u s c → Between u s c
between {u} {s} {c} (nothing e a) = record {
  last = rw e (omega arith);
  arrival = λ p i. absurd (Memᴰ.not-nil (rw a at i));
  pending = λ p i. inl (rw e at i);
}
between {u} {s} {c} (arrives r now proper late room e a) = record {
  last = rw e late;
  arrival = λ p i. case (eqb r.group u.owner)
      (λ t.
      let same : p ≡ new = Memᴰ.eq_of_singleton (rw (a, t) at i) in
      (rw (e, same), record { owner = rw same (eqb-true r.group u.owner t); proper = rw same proper }))
      (λ t. absurd (Memᴰ.not-nil (rw (a, t) at i)));
  pending = λ p i. ⊎_elim inl
      (λ j. inr (rw (a, eq-eqb r.group u.owner (sym j.1)) (Memᴰ.head j.0)))
      (arrive_in s r now u.owner p (rw e at i));
}
  where
    new : Pending
    new = record { request = r; arrival = now }
between {u} {s} {c} (steps now late e a) = record {
  last = rw (e, (visits-keep u.groups now (at_time now s)).last) late;
  arrival = λ p i. absurd (Memᴰ.not-nil (rw a at i));
  pending = λ p i. inl ((visits-keep u.groups now (at_time now s)).pending u.owner p (rw e at i));
}

-- ── the arrival rule ──

-- of what arrived no later than p, and of more, the first of p's timestamp arrived no later than p
first_no_later : (p : Pending) (a b : List Pending) → ((q : Pending) → Memᴰ q a → q.arrival.0 ≤ p.arrival.0)
    → Memᴰ p a ⊎ ((first_arrival p.request.timestamp b).0 ≤ p.arrival.0) → (first_arrival p.request.timestamp (a ++ b)).0 ≤ p.arrival.0
first_no_later p [] b old h = ⊎_elim (λ i. absurd (Memᴰ.not-nil i)) (λ late. late) h
first_no_later p (q ∷ a) b old h = case (stamped p.request.timestamp q.request)
    (λ e. rw e (old q (Memᴰ.head refl)))
    (λ e. rw e (first_no_later p a b (λ x i. old x (Memᴰ.tail i)) (⊎_elim (λ i. ⊎_elim (λ same. absurd (apart e same)) inl (Memᴰ.cases_cons i)) inr h)))
  where
    apart : stamped p.request.timestamp q.request ≡ false → p ≡ q → ⊥
    apart e same = eqb-false q.request.timestamp.0 p.request.timestamp.0 e (ap (λ (x : Pending). x.request.timestamp.0) (sym same))

-- the rule, measured from any request of the timestamp
abbrev pub LooseRule : ℕ → List Pending → Type 0
LooseRule delta all =
    (p q : Pending) → Memᴰ p all → Memᴰ q all → q.request.timestamp.0 ≤ p.request.timestamp.0 → q.arrival.0 ≤ p.arrival.0 + delta

-- ── a run that goes on ──

-- the replica is sound, and the calls to come deliver bytes
pub record Going (u : Settings) (me : ℕ) (s : State) (calls : List Call) : Type 0 where
  pub sound : Sound u me s
  pub lent : Lent calls

module _ (u : Settings) (me : ℕ) (ok : Made u me) where
  pub first_act : {s : State} {c : Call} {calls : List Call} → Going u me s (c ∷ calls) → Act u s c
  first_act {s} {c} g = call_act u me ok s c g.sound (g.lent c (Memᴰ.head refl))

  pub going_next : {s : State} {c : Call} {calls : List Call} → Going u me s (c ∷ calls) → Going u me (call s c).state calls
  going_next {s} {c} g = record {
    sound = call-sound u me ok s c g.sound (g.lent c (Memᴰ.head refl));
    lent = λ x i. g.lent x (Memᴰ.tail i);
  }

  -- what it sends passes the questions
  pub run-sendable : (calls : List Call) (s : State) → Going u me s calls → AllSendable u.k u.groups (run s calls).sent
  unfolding run
  run-sendable [] s g m i = absurd (Memᴰ.not-nil i)
  run-sendable (c ∷ calls) s g m i =
      ⊎_elim (one (first_act g) m) (run-sendable calls (call s c).state (going_next g) m) (Memᴰ.append_cases (call s c).sent i)
    where
      one : Act u s c → AllSendable u.k u.groups (call s c).sent
      one (nothing e a) = rw e (λ m i. absurd (Memᴰ.not-nil i))
      one (arrives r now proper late room e a) = rw e (λ m i. absurd (Memᴰ.not-nil i))
      one (steps now late e a) = rw e (visits_soundly u me ok u.groups now (at_time now s) (at_sound u me ok s now g.sound)).1

  -- ── its arrivals ──

  pub call-between : {s : State} {c : Call} {calls : List Call} → Going u me s (c ∷ calls) → Between u s c
  call-between g = between (first_act g)

  -- what is pending at the end was pending or has arrived
  pub run-pending : (calls : List Call) (s : State) → Going u me s calls → (p : Pending) → Memᴰ p ((run s calls).state.pending u.owner)
      → Memᴰ p (s.pending u.owner) ⊎ Memᴰ p (arrivals u (exchanges s calls))
  unfolding run exchanges flat_map
  run-pending [] s g p i = inl i
  run-pending (c ∷ calls) s g p i = ⊎_elim
      (λ j. ⊎_elim inl (λ k. inr (Memᴰ.append_left (arrivals u (exchanges (call s c).state calls)) k)) ((call-between g).pending p j))
      (λ j. inr (Memᴰ.append_right (arrival_in u (exchange s c)) j))
      (run-pending calls (call s c).state (going_next g) p i)

  -- what arrives arrives after what was accepted last, and is the owner's
  pub arrivals-later : (calls : List Call) (s : State) → Going u me s calls → (p : Pending) → Memᴰ p (arrivals u (exchanges s calls))
      → (s.last.0 ≤ p.arrival.0) × Owned u p.request
  unfolding exchanges flat_map
  arrivals-later [] s g p i = absurd (Memᴰ.not-nil i)
  arrivals-later (c ∷ calls) s g p i =
      let b = call-between g in
      ⊎_elim (λ j. (omega (arith, b.last, (b.arrival p j).0), (b.arrival p j).1))
      (λ j. let r = arrivals-later calls (call s c).state (going_next g) p j in (omega (arith, b.last, r.0), r.1))
      (Memᴰ.append_cases (arrival_in u (exchange s c)) i)

  first_earliest : (calls : List Call) (s : State) → Going u me s calls → (p : Pending) → Memᴰ p (arrivals u (exchanges s calls))
      → (first_arrival p.request.timestamp (arrivals u (exchanges s calls))).0 ≤ p.arrival.0
  unfolding exchanges flat_map
  first_earliest [] s g p i = absurd (Memᴰ.not-nil i)
  first_earliest (c ∷ calls) s g p i =
      let b = call-between g in
      let next = going_next g in
      let late = first_no_later p (arrival_in u (exchange s c)) (arrivals u (exchanges (call s c).state calls)) in
      ⊎_elim
      (λ j. late (λ q k. omega (arith, (b.arrival q k).0, (b.arrival p j).0)) (inl j))
      (λ j.
      late (λ q k. omega (arith, (b.arrival q k).0, (arrivals-later calls (call s c).state next p j).0))
      (inr (first_earliest calls (call s c).state next p j)))
      (Memᴰ.append_cases (arrival_in u (exchange s c)) i)

  pub arrivals_loose : (calls : List Call) (s : State) → Going u me s calls → ArrivalRule u.delta (arrivals u (exchanges s calls)) → LooseRule u.delta (arrivals u (exchanges s calls))
  arrivals_loose calls s g rule p q i j h = omega (arith, rule p q i j h, first_earliest calls s g p i)
