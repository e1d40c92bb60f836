-- The count of a group, and what it says of its queue.
use Prim.Native.Nat.{ℕ, zero, suc, ◌*◌, ◌-◌, ◌≤◌, ◌<◌, min}
use mathlib.Core.Path.{◌≡◌, refl, sym, ◌∙◌}
use mathlib.Core.List.{List}
use native.Mathlib.Omega.{arith}
use lib.Dec.{ltb}
use lib.ListN.{length, get_or, set, take, drop, length-take, length-drop, get_or-eq_default}
use lib.Seq.{take_all, take-take}
use borrow.Author.Tests.{ltb-true, ltb-false}
use Rattle.rules.specs.declared.Pending.{Pending}
use Rattle.question.proofs.Tests.{case}
use Rattle.state.specs.State.{places_from, queue_of}
use Rattle.queue.specs.Queue.{count_of, set_count}

-- ── the count of a group ──

pub count_at : (counts : List ℕ) (g : ℕ) → 1 ≤ g → count_of counts g ≡ get_or counts (g - 1) 0
count_at counts zero h = absurd (omega arith)
count_at counts (suc i) h = let z : suc i - 1 ≡ i = omega arith in rw z

pub count_none : (counts : List ℕ) (g : ℕ) → length counts < g → count_of counts g ≡ 0
count_none counts zero h = absurd (omega arith)
count_none counts (suc i) h = let out : length counts ≤ i = omega arith in get_or-eq_default counts 0 out

pub count_set : (counts : List ℕ) (g n : ℕ) → 1 ≤ g → set_count counts g n ≡ set counts (g - 1) n
count_set counts zero n h = absurd (omega arith)
count_set counts (suc i) n h = let z : suc i - 1 ≡ i = omega arith in rw z

-- a group that has some is one of those that are counted
pub count_some : (counts : List ℕ) (g : ℕ) → 0 < count_of counts g → (1 ≤ g) × (g ≤ length counts)
count_some counts zero h = absurd (omega arith)
count_some counts (suc i) h = case (ltb i (length counts))
    (λ e. (omega arith, omega (arith, ltb-true i (length counts) e)))
    (λ e. absurd (omega (arith, count_none counts (suc i) (omega (arith, ltb-false i (length counts) e)))))

-- ── sixteen places, of which some are counted ──

-- of sixteen a count past them takes all
pub take_most : (count : ℕ) (l : List Pending) → length l ≤ 16 → take count l ≡ take (min count 16) l
take_most count l h = case (ltb count 16)
    (λ e. let z : min count 16 ≡ count = omega (arith, ltb-true count 16 e) in rw z)
    (λ e.
    let less = ltb-false count 16 e in
    let z : min count 16 ≡ 16 = omega arith in
    rw (z, take_all count l (omega arith)) (sym (take_all 16 l h)))

pub places-long : (i : ℕ) (pending : List Pending) → length pending ≡ 64 → i < 4 → length (places_from i pending) ≡ 16
places-long i pending h less = omega (arith, length-take 16 (drop (16 * i) pending), length-drop (16 * i) pending)

-- the queue of a group by its count
pub queue-counted : (pending : List Pending) (counts : List ℕ) (g : ℕ)
    → queue_of pending counts g ≡ take (min (count_of counts g) 16) (drop (16 * (g - 1)) pending)
unfolding queue_of
queue-counted pending counts zero = refl
queue-counted pending counts (suc i) =
    let z : suc i - 1 ≡ i = omega arith in
    rw z (take_most (get_or counts i 0) (places_from i pending) (omega (arith, length-take 16 (drop (16 * i) pending)))
    ∙ take-take (min (get_or counts i 0) 16) 16 (drop (16 * i) pending) (omega arith))
