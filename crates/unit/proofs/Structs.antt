-- The struct of a state: it stands for the state, for every state that a replica which was made can come to.
use Prim.Native.Nat.{ℕ, zero, suc, ◌+◌, ◌*◌, ◌-◌, ◌≤◌}
use mathlib.Core.Path.{◌≡◌, refl, sym, ap, ◌∙◌}
use mathlib.Core.List.{List, [], ◌∷◌, ◌++◌, map, flat_map, Memᴰ}
use native.Mathlib.Omega.{arith}
use lib.ListN.{length, get_or, replicate, length-append, length-replicate}
use lib.Seq.{take_at, drop-append-add}
use Rattle.limits.specs.Limits.{max_groups, places}
use Rattle.rules.specs.Lists.{up_to}
use Rattle.rules.specs.Replica.{State}
use Rattle.rules.specs.declared.Pending.{Pending}
use Rattle.rules.specs.declared.Settings.{Settings}
use Rattle.laws.proofs.Lists.{no_member, map_in}
use Rattle.laws.proofs.Queues.{fun_ext}
use Rattle.laws.proofs.Accepted.{Made}
use Rattle.laws.proofs.Sound.{Sound}
use Rattle.state.specs.State.{queue_of, free, state_of}
use Rattle.state.specs.declared.state.Replica.{Replica}

-- a group's places: its queue, then free ones
abbrev places_of : List Pending → List Pending
places_of queue = queue ++ replicate (places - length queue) free

-- the queues that a struct has places for
abbrev queues_of : State → List (List Pending)
queues_of s = map s.pending (up_to max_groups)

abbrev pub replica_of : State → Replica
replica_of s = record {
  settings = s.settings;
  number = s.number;
  last = s.last;
  variables = s.store.variables;
  pending = flat_map places_of (queues_of s);
  counts = map length (queues_of s);
  writes = s.store.writes;
}

-- ── queues laid one after the other ──

places-long : (queue : List Pending) → length queue ≤ places → length (places_of queue) ≡ places
places-long queue few =
    let rest = replicate (places - length queue) free in
    omega (arith, length-append queue rest, length-replicate (places - length queue) free)

queue_laid : (queues : List (List Pending)) (i : ℕ) → ((queue : List Pending) → Memᴰ queue queues → length queue ≤ places)
    → queue_of (flat_map places_of queues) (map length queues) (suc i) ≡ get_or queues i []
unfolding queue_of flat_map
queue_laid [] i few = refl
queue_laid (queue ∷ queues) zero few =
    let long = places-long queue (few queue (Memᴰ.head refl)) in
    rw (take_at (places_of queue) (flat_map places_of queues) places long)
    (take_at queue (replicate (places - length queue) free) (length queue) refl)
queue_laid (queue ∷ queues) (suc i) few =
    let long = places-long queue (few queue (Memᴰ.head refl)) in
    let past : places * suc i ≡ length (places_of queue) + places * i = omega arith in
    rw (past, drop-append-add (places_of queue) (flat_map places_of queues) (places * i)) (queue_laid queues i (λ x m. few x (Memᴰ.tail m)))

-- ── a sound state ──

module _ (u : Settings) (me : ℕ) (ok : Made u me) (s : State) (h : Sound u me s) where
  -- it has no requests of a group that a struct has no places for
  none : (g : ℕ) → (1 ≤ g → g ≤ max_groups → ⊥) → s.pending g ≡ []
  none g out = no_member (s.pending g) (λ p i.
      let r = h.pending g p i in
      let of = h.housed g p i in
      out (omega (arith, r.group-low, of)) (omega (arith, r.group-high, ok.groups, of)))

  queues_at : (i : ℕ) → get_or (queues_of s) i [] ≡ s.pending (suc i)
  queues_at zero = refl
  queues_at (suc zero) = refl
  queues_at (suc (suc zero)) = refl
  queues_at (suc (suc (suc zero))) = refl
  queues_at (suc (suc (suc (suc i)))) = sym (none (suc (suc (suc (suc (suc i))))) (λ low high. omega (arith, high)))

  pub state_of_struct : state_of (replica_of s) ≡ s
  unfolding queue_of
  state_of_struct =
      ap (λ (pending : ℕ → List Pending). record { settings = s.settings; number = s.number; store = s.store; pending = pending; last = s.last })
      (fun_ext at)
    where
      few : (queue : List Pending) → Memᴰ queue (queues_of s) → length queue ≤ places
      few queue i = let from = map_in s.pending (up_to max_groups) i in rw from.2 (h.few from.0)

      at : (g : ℕ) → (state_of (replica_of s)).pending g ≡ s.pending g
      at zero = sym (none 0 (λ low high. omega (arith, low)))
      at (suc i) = queue_laid (queues_of s) i few ∙ queues_at i
