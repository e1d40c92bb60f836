-- The pending requests of all groups copied from one list of places to another, group by group.
use Prim.Native.Nat.{ℕ, zero, suc, ◌+◌, ◌-◌, ◌*◌, ◌≤◌, ◌<◌, min}
use mathlib.Core.Path.{◌≡◌, refl, sym, ◌∙◌, ap}
use mathlib.Core.List.{List}
use native.Mathlib.Omega.{arith}
use lib.Dec.{ltb}
use lib.ListN.{length, get_or, take, drop, length-take, get_or-eq_default}
use lib.Seq.{take-take}
use borrow.Author.Count.{below_more}
use borrow.Author.Tests.{ltb-true, ltb-false}
use borrow.Rule.Slice.PartMut.{mid_of, put_mid}
use Rattle.std.proofs.lemmas.Slice.{between-put_mid, take-put_mid_below, between_is}
use Rattle.rules.specs.declared.Pending.{Pending}
use Rattle.question.proofs.Tests.{case}
use Rattle.laws.proofs.Queues.{fun_ext}
use Rattle.state.specs.State.{places_from, queue_of}
use Rattle.queue.proofs.Counts.{take_most}

module _ (source : List Pending) (counts : List ℕ) where
  -- how many are copied of a group
  abbrev count : ℕ → ℕ
  count g = min (get_or counts g 0) 16

  -- of the first groups what is counted is the same
  abbrev pub Copied : List Pending → ℕ → Type 0
  Copied target g = (h : ℕ) → h < g → take (count h) (places_from h target) ≡ take (count h) (places_from h source)

  module _ (target part : List Pending) (g n : ℕ) (copied : Copied target g) (counted : n ≡ count g) (room : 16 * g ≤ length target)
      (long : length part ≡ n) (own : part ≡ mid_of (16 * g) n source) where
    abbrev next : List Pending
    next = put_mid (16 * g) n target part

    -- an earlier group's places stay
    earlier_same : (h : ℕ) → h < g → places_from h next ≡ places_from h target
    earlier_same h less =
        let width : 16 * h + 16 - 16 * h ≡ 16 = omega arith in
        let at : (l : List Pending) → places_from h l ≡ drop (16 * h) (take (16 * h + 16) l) = λ l. rw width at (between_is l (16 * h) (16 * h + 16)) in
        at next ∙ (ap (drop (16 * h)) (take-put_mid_below (16 * g) n target part (16 * h + 16) (omega arith) room) ∙ sym (at target))

    -- and the group's own hold what came
    own_same : take (count g) (places_from g next) ≡ take (count g) (places_from g source)
    own_same =
        let width : 16 * g + n - 16 * g ≡ n = omega arith in
        let some : (l : List Pending) → take n (places_from g l) ≡ mid_of (16 * g) n l = λ l. take-take n 16 (drop (16 * g) l) (omega arith) in
        let back = rw width at (between-put_mid (16 * g) n target part (16 * g + n) room (omega arith)) in
        rw (← counted) (some next ∙ (back ∙ (own ∙ sym (some source))))

    -- one more group
    pub copy_group : Copied next (g + 1)
    copy_group = below_more _ _ (λ h less. rw (earlier_same h less) (copied h less)) own_same

  -- then all queues are the same
  pub copy_end : (target : List Pending) (g : ℕ) → Copied target g → length counts ≤ g → queue_of target counts ≡ queue_of source counts
  unfolding queue_of
  copy_end target g copied last = fun_ext at
    where
      short : (h : ℕ) (l : List Pending) → length (places_from h l) ≤ 16
      short h l = omega (arith, length-take 16 (drop (16 * h) l))

      at : (h : ℕ) → queue_of target counts h ≡ queue_of source counts h
      at zero = refl
      at (suc h) = case (ltb h g)
          (λ e. take_most (get_or counts h 0) (places_from h target) (short h target) ∙ (copied h (ltb-true h g e)
          ∙ sym (take_most (get_or counts h 0) (places_from h source) (short h source))))
          (λ e. let none = get_or-eq_default counts 0 {n = h} (omega (arith, ltb-false h g e)) in rw none)
