-- What one call does with a block: nothing, or its first record and then what is left. Assumes nothing.
use Prim.Native.Nat.{ℕ, zero, suc, ◌+◌, ◌-◌, ◌≤◌, ◌<◌}
use mathlib.Core.Path.{◌≡◌, refl}
use mathlib.Core.Bool.{true, false, ◌&&◌}
use mathlib.Core.List.{List, [], ◌∷◌, ◌++◌, append-nil}
use native.Mathlib.Omega.{arith}
use lib.Dec.{leb, ltb}
use lib.ListN.{length, take, drop, length-drop}
use borrow.Author.Tests.{leb-true, leb-false, ltb-false, lt-ltb, le-ltb, le-leb, lt-leb}
use Rattle.limits.specs.Limits.{entry_size}
use Rattle.question.specs.Question.{given, refused}
use Rattle.question.proofs.Tests.{case}
use Rattle.rules.specs.declared.Settings.{Settings}
use Rattle.rules.specs.Replica.{new_state}
use Rattle.entry.specs.Entry.{read_setup}
use Rattle.lines.specs.Lines.{refusal_line}
use Rattle.transcript.specs.Journal.{Unit, fresh, playing, stopped, play_record}
use Rattle.transcript.specs.Blocks.{lines_size, whole_entries, goes_on, Played, play_records, play_block}

-- ── the whole records of a block ──

whole_bound : (most more : ℕ) (block : List ℕ) → length block ≤ most → length block ≤ more → whole_entries most block ≡ whole_entries more block
whole_bound zero zero block a b = refl
whole_bound zero (suc more) block a b = rw (lt-ltb (length block) entry_size (omega arith))
whole_bound (suc most) zero block a b = rw (lt-ltb (length block) entry_size (omega arith))
whole_bound (suc most) (suc more) block a b = case (ltb (length block) entry_size)
    (λ e. rw e)
    (λ e.
    let left = length-drop entry_size block in
    rw (e, whole_bound most more (drop entry_size block) (omega arith) (omega arith)))

abbrev whole : List ℕ → List (List ℕ)
whole block = whole_entries (length block) block

whole_next : (block : List ℕ) → entry_size ≤ length block → whole block ≡ take entry_size block ∷ whole (drop entry_size block)
whole_next [] h = absurd (omega arith)
whole_next (b ∷ block) h =
    let left = length-drop entry_size (b ∷ block) in
    rw (le-ltb (length (b ∷ block)) entry_size h, whole_bound (length block) (length (drop entry_size (b ∷ block))) (drop entry_size (b ∷ block)) (omega arith) (omega arith))

whole_none : (block : List ℕ) → length block < entry_size → whole block ≡ []
whole_none [] h = refl
whole_none (b ∷ block) h = rw (lt-ltb (length (b ∷ block)) entry_size h)

-- ── a call that goes on, and one that does not ──

abbrev pub untouched : Unit → Played
untouched unit = record { unit = unit; taken = 0; text = [] }

pub block_none : (room : ℕ) (unit : Unit) (block : List ℕ) → leb entry_size (length block) && goes_on room unit ≡ false → play_block room unit block ≡ untouched unit
unfolding play_records
block_none room unit block e = case (leb entry_size (length block))
    (λ f. let off : goes_on room unit ≡ false = rw f at e in rw (whole_next block (leb-true entry_size (length block) f), off))
    (λ f. rw (whole_none block (leb-false entry_size (length block) f)))

pub block-short : (room : ℕ) (unit : Unit) (block : List ℕ) → length block < entry_size → play_block room unit block ≡ untouched unit
block-short room unit block short = block_none room unit block (rw (lt-leb entry_size (length block) short))

pub block-stopped : (room : ℕ) (block : List ℕ) → play_block room stopped block ≡ untouched stopped
block-stopped room block = block_none room stopped block (case (leb entry_size (length block)) (λ f. rw f) (λ f. rw f))

pub block_next : (room : ℕ) (unit : Unit) (block : List ℕ) → entry_size ≤ length block → goes_on room unit ≡ true →
    let one = play_record unit (take entry_size block) in
    let more = play_block (room - length one.text) one.unit (drop entry_size block) in
    play_block room unit block ≡ record { unit = more.unit; taken = entry_size + more.taken; text = one.text ++ more.text }
unfolding play_records
block_next room unit block long on = rw (whole_next block long, on)

-- ── the call that plays the first record ──

module _ (room : ℕ) (block : List ℕ) (long : entry_size ≤ length block) (free : lines_size ≤ room) where
  pub first_accepted : {u : Settings} → read_setup (take entry_size block) ≡ given u →
      let more = play_block room (playing u 2 (new_state u)) (drop entry_size block) in
      play_block room fresh block ≡ record { unit = more.unit; taken = entry_size + more.taken; text = more.text }
  unfolding play_record
  first_accepted {u} read =
      let all : room - 0 ≡ room = omega arith in
      rw (read, all) at (block_next room fresh block long (le-leb lines_size room free))

  pub first_refused : {number : ℕ} → read_setup (take entry_size block) ≡ refused number
      → play_block room fresh block ≡ record { unit = stopped; taken = entry_size; text = refusal_line 1 number }
  unfolding play_record
  first_refused {number} read =
      let next = rw read at (block_next room fresh block long (le-leb lines_size room free)) in
      rw (block-stopped (room - length (refusal_line 1 number)) (drop entry_size block), append-nil (refusal_line 1 number)) at next

-- ── how far a call comes ──

-- the whole records of a block have no more bytes than it
records-within : (most room : ℕ) (unit : Unit) (block : List ℕ) → (play_records room unit (whole_entries most block)).taken ≤ length block
unfolding play_records
records-within zero room unit block = omega arith
records-within (suc most) room unit block =
    let one = play_record unit (take entry_size block) in
    let others = records-within most (room - length one.text) one.unit (drop entry_size block) in
    case (ltb (length block) entry_size)
    (λ short. rw short (omega arith))
    (λ long. case (goes_on room unit)
    (λ on. rw (long, on) (omega (arith, others, length-drop entry_size block, ltb-false (length block) entry_size long)))
    (λ off. rw (long, off) (omega arith)))

pub taken-within : (room : ℕ) (unit : Unit) (block : List ℕ) → (play_block room unit block).taken ≤ length block
taken-within room unit block = records-within (length block) room unit block

pub taken-lent : (room : ℕ) (unit : Unit) (block : List ℕ) {taken : ℕ} → taken ≡ (play_block room unit block).taken → taken ≤ length block
taken-lent room unit block e = omega (arith, e, taken-within room unit block)

-- a call that is lent a whole record, and room for its lines, takes it
pub block_takes : (room : ℕ) (unit : Unit) (block : List ℕ) → entry_size ≤ length block → goes_on room unit ≡ true
    → entry_size ≤ (play_block room unit block).taken
block_takes room unit block whole on = rw (block_next room unit block whole on) (omega arith)
