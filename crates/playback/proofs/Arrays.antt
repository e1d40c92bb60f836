-- One replica of a unit is changed in the arrays, and no other.
use Prim.Native.Nat.{ℕ, zero, suc, ◌+◌, ◌*◌, ◌-◌, ◌≤◌, ◌<◌}
use mathlib.Core.Path.{◌≡◌, refl, ◌∙◌}
use mathlib.Core.Logic.{◌≢◌}
use mathlib.Core.List.{List, [], ◌∷◌, ◌++◌}
use native.Mathlib.Nat.{mul-suc, mul-le-mul_left}
use native.Mathlib.Omega.{arith}
use lib.Dec.{eqb}
use lib.ListN.{length, get_or, set, drop, length-take, length-drop}
use lib.Seq.{get_or-take, get_or-drop, get_or-set_same, get_or-set_other}
use borrow.Author.Tests.{eqb-true, eqb-false, lt-ltb}
use borrow.Rule.Slice.PartMut.{mid_of, put_mid}
use Rattle.layout.specs.declared.clock.LocalTime.{LocalTime}
use Rattle.record.specs.declared.request.Request.{Request}
use Rattle.rules.specs.Replica.{State, replace, arrive}
use Rattle.rules.specs.declared.Pending.{Pending}
use Rattle.rules.specs.declared.Settings.{Settings}
use Rattle.question.proofs.Tests.{case}
use Rattle.laws.proofs.Queues.{fun_ext}
use Rattle.state.specs.State.{part_at}
use Rattle.state.proofs.Parts.{part-lent, part_back, part_others}
use Rattle.queue.specs.Queue.{places_in, queues_in}
use Rattle.queue.proofs.Rows.{places-length}
use Rattle.step.specs.Output.{state_in}
use Rattle.transcript.specs.Journal.{replaced}
use Rattle.playback.specs.Arrays.{Arrays, arrays, state_at, replica_at}

-- a replica by what stands of it in the arrays
state_is : (u : Settings) (number : ℕ) {l m : ℕ} {p q : ℕ → List Pending} {w x : ℕ} {v y : List ℕ} → l ≡ m → p ≡ q → w ≡ x → v ≡ y
    → state_in u number (record { 0 = l }) p w v ≡ state_in u number (record { 0 = m }) q x y
state_is u number a b c d = rw (a, b, c, d)

-- the replica at a place that one has
pub replica_is : (u : Settings) (a : Arrays) (i : ℕ) → i < 7 → replica_at u a (suc i) ≡ state_at u a i
unfolding replica_at
replica_is u a i here = rw (lt-ltb i 7 here)

-- one is what it is, the others are what they were
module _ (u : Settings) (old next : Arrays) (i : ℕ) (here : i < 7) (s : State) (own : state_at u next i ≡ s)
    (others : (j : ℕ) → j ≢ i → state_at u next j ≡ state_at u old j) where
  pub replica-changed : replica_at u next ≡ replaced (suc i) s (replica_at u old)
  unfolding replica_at
  replica-changed = fun_ext at
    where
      at : (n : ℕ) → replica_at u next n ≡ replaced (suc i) s (replica_at u old) n
      at zero = case (eqb 0 (suc i)) (λ e. absurd (let z : 0 ≡ suc i = eqb-true 0 (suc i) e in omega arith)) (λ e. rw e)
      at (suc j) = case (eqb (suc j) (suc i))
          (λ e. let same : j ≡ i = omega (arith, eqb-true (suc j) (suc i) e) in rw (e, same, lt-ltb i 7 here) own)
          (λ e. rw (e, others j (omega (arith, eqb-false (suc j) (suc i) e))))

-- nothing has changed
pub replica-kept : (u : Settings) (a : Arrays) (i : ℕ) → i < 7 → replica_at u a ≡ replaced (suc i) (state_at u a i) (replica_at u a)
replica-kept u a i here = replica-changed u a a i here (state_at u a i) refl (λ j apart. refl)

-- ── a part of each array lent ──

-- a replica has sixty-four places
pub replica-long : (i : ℕ) (pending : List (List ℕ)) → i < 7 → length pending ≡ 448 → length (places_in (part_at 64 i pending)) ≡ 64
replica-long i pending here long =
    omega (arith, places-length (part_at 64 i pending), length-take 64 (drop (64 * i) pending), length-drop (64 * i) pending)

-- an element of a part is one of the whole
pub part_at_lem : {A : Type 0} (width i : ℕ) (l : List A) (n : ℕ) (d : A) → n < width → get_or (part_at width i l) n d ≡ get_or l (width * i + n) d
part_at_lem width i l n d h = get_or-take width (drop (width * i) l) n d h ∙ get_or-drop (width * i) l n d

-- a replica's part of an array, and the array with another one there
abbrev pub lent : {A : Type 0} → ℕ → ℕ → List A → List A
lent width i l = mid_of (width * i) (width * i + width - width * i) l

abbrev pub returned : {A : Type 0} → ℕ → ℕ → List A → List A → List A
returned width i l part = put_mid (width * i) (width * i + width - width * i) l part

module _ {A : Type 0} (width i : ℕ) (l : List A) (seven : length l ≡ width * 7) (here : i < 7) where
  ends : width * i + width ≤ length l
  ends = let more : suc i ≤ 7 = omega arith in omega (arith, mul-le-mul_left width more, mul-suc width i)

  pub lent-is : lent width i l ≡ part_at width i l
  lent-is = part-lent width i l (width * i) (width * i + width) (omega (arith, ends)) (omega (arith, ends))

  pub lent-long : length (lent width i l) ≡ width
  lent-long = rw lent-is (omega (arith, ends, length-take width (drop (width * i) l), length-drop (width * i) l))

  module _ (part : List A) (same : length part ≡ length (lent width i l)) where
    pub returned-is : part_at width i (returned width i l part) ≡ part
    returned-is = part_back width i l (width * i) (width * i + width) (omega (arith, ends)) (omega (arith, ends)) part same

    pub returned-others : (j : ℕ) → j ≢ i → part_at width j (returned width i l part) ≡ part_at width j l
    returned-others = part_others width i l (width * i) (width * i + width) (omega (arith, ends)) (omega (arith, ends)) part same

-- the rows and counts of a replica come back from a delivery
module _ (u : Settings) (old : Arrays) (i : ℕ) (here : i < 7) (long : length old.pending ≡ 448) (four : length old.counts ≡ 28) (last : length old.lasts ≡ 7)
    (rows : List (List ℕ)) (counts : List ℕ) (r : length rows ≡ length (lent 64 i old.pending)) (c : length counts ≡ length (lent 4 i old.counts)) where
  pub returned-arrive : (request : Request) (at : LocalTime) → let queues = queues_in (lent 64 i old.pending) (lent 4 i old.counts) in
      queues_in rows counts ≡ replace request.group (queues request.group ++ (record { request = request; arrival = at } ∷ [])) queues
      → replica_at u (arrays (returned 64 i old.pending rows) (returned 4 i old.counts counts) old.variables old.writes (set old.lasts i at.0))
      ≡ replaced (suc i) (arrive (state_at u old i) request at) (replica_at u old)
  returned-arrive request at e =
      let one = rw (lent-is 64 i old.pending long here, lent-is 4 i old.counts four here) at e in
      (replica-changed u old _ i here (arrive (state_at u old i) request at)
      (state_is u (suc i) (get_or-set_same old.lasts i at.0 0 (omega arith)) (rw (returned-is 64 i old.pending long here rows r, returned-is 4 i old.counts four here counts c) one) refl refl)
      (λ j apart. state_is u (suc j) (get_or-set_other old.lasts i j at.0 0 apart)
      (rw (returned-others 64 i old.pending long here rows r j apart, returned-others 4 i old.counts four here counts c j apart)) refl refl))

-- and all of it from a step
module _ (u : Settings) (old : Arrays) (i : ℕ) (here : i < 7) (long : length old.pending ≡ 448) (four : length old.counts ≡ 28) (wide : length old.variables ≡ 1792) where
  pub lent-replica : state_in u (suc i) (record { 0 = get_or old.lasts i 0 }) (queues_in (lent 64 i old.pending) (lent 4 i old.counts)) (get_or old.writes i 0) (lent 256 i old.variables)
      ≡ replica_at u old (suc i)
  lent-replica = rw (replica_is u old i here, lent-is 64 i old.pending long here, lent-is 4 i old.counts four here, lent-is 256 i old.variables wide here)

  module _ (seven : length old.writes ≡ 7) (last : length old.lasts ≡ 7) (rows : List (List ℕ)) (counts variables : List ℕ) (writes at : ℕ)
      (r : length rows ≡ length (lent 64 i old.pending)) (c : length counts ≡ length (lent 4 i old.counts)) (v : length variables ≡ length (lent 256 i old.variables)) where
    pub returned-replica : (s : State) → state_in u (suc i) (record { 0 = at }) (queues_in rows counts) writes variables ≡ s →
        replica_at u (arrays (returned 64 i old.pending rows) (returned 4 i old.counts counts) (returned 256 i old.variables variables) (set old.writes i writes) (set old.lasts i at))
        ≡ replaced (suc i) s (replica_at u old)
    returned-replica s e =
        replica-changed u old _ i here s
        (state_is u (suc i) (get_or-set_same old.lasts i at 0 (omega arith)) (rw (returned-is 64 i old.pending long here rows r, returned-is 4 i old.counts four here counts c))
        (get_or-set_same old.writes i writes 0 (omega arith)) (returned-is 256 i old.variables wide here variables v) ∙ e)
        (λ j apart. state_is u (suc j) (get_or-set_other old.lasts i j at 0 apart)
        (rw (returned-others 64 i old.pending long here rows r j apart, returned-others 4 i old.counts four here counts c j apart))
        (get_or-set_other old.writes i j writes 0 apart) (returned-others 256 i old.variables wide here variables v j apart))
