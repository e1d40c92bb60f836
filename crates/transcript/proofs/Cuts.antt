-- In whatever way an input is cut into blocks, and whatever room each call has, the calls and the end print together what the journal
-- prints of the whole input; and enough calls come to the end. Assumes nothing.
use Prim.Native.Nat.{ℕ, zero, suc, ◌+◌, ◌*◌, ◌-◌, ◌≤◌, ◌<◌}
use mathlib.Core.Path.{◌≡◌, refl, sym, ap, subst, ◌∙◌}
use mathlib.Core.Logic.{◌⊎◌, inl, inr, ⊎_elim}
use mathlib.Core.Bool.{true, false}
use mathlib.Core.List.{List, [], ◌∷◌, ◌++◌, append_assoc}
use lib.Dec.{ltb}
use lib.ListN.{length, take, drop, replicate, length-append, length-take, length-drop, take-append-drop, drop_of_length-le}
use lib.Seq.{take_all, take-append-le, drop-append-le, drop-drop}
use native.Mathlib.Omega.{arith}
use borrow.Author.Tests.{ltb-true, ltb-false, lt-ltb, le-leb, ne_eqb}
use Rattle.limits.specs.Limits.{entry_size, max_place}
use Rattle.question.specs.Question.{Answer, given, refused, ask}
use Rattle.question.proofs.Tests.{case, true-not-false}
use Rattle.rules.specs.declared.Settings.{Settings}
use Rattle.rules.specs.Replica.{State}
use Rattle.entry.specs.Entry.{Entry, read_setup, read_entry}
use Rattle.transcript.specs.Journal.{Unit, fresh, playing, stopped, play_setup, play_read, play_record, entries_of, play_all, journal}
use Rattle.transcript.specs.Blocks.{lines_size, whole_entries, goes_on, Played, play_records, play_block, Call, play_calls, is_over, play_part, play_end}
use Rattle.transcript.proofs.Block.{untouched, block-short, block-stopped, taken-within, block_takes}

-- ── the records of an input ──

-- the bound makes no difference where it is high enough
entries_bound : (most more : ℕ) (input : List ℕ) → length input ≤ most → length input ≤ more → entries_of most input ≡ entries_of more input
entries_bound zero zero input a b = refl
entries_bound zero (suc more) [] a b = refl
entries_bound zero (suc more) (x ∷ input) a b = absurd (omega arith)
entries_bound (suc most) zero [] a b = refl
entries_bound (suc most) zero (x ∷ input) a b = absurd (omega arith)
entries_bound (suc most) (suc more) [] a b = refl
entries_bound (suc most) (suc more) (x ∷ input) a b =
    let left = length-drop entry_size (x ∷ input) in
    ap (λ records. take entry_size (x ∷ input) ∷ records) (entries_bound most more (drop entry_size (x ∷ input)) (omega arith) (omega arith))

-- with a bound that is
abbrev pub records_of : List ℕ → List (List ℕ)
records_of input = entries_of (length input) input

-- the first one, then those of what is left
records_next : (input : List ℕ) → 0 < length input → records_of input ≡ take entry_size input ∷ records_of (drop entry_size input)
records_next [] h = absurd (omega arith)
records_next (x ∷ input) h =
    let left = length-drop entry_size (x ∷ input) in
    ap (λ records. take entry_size (x ∷ input) ∷ records) (entries_bound (length input) (length (drop entry_size (x ∷ input))) (drop entry_size (x ∷ input)) (omega arith) (omega arith))

-- ── one call ──

-- a record that is played, before what the others come to
record_plays : (unit : Unit) (block rest : List ℕ) (more : Played) → entry_size ≤ length block →
    let one = play_record unit (take entry_size block) in
    let left = drop entry_size block ++ rest in
    more.text ++ play_all more.unit (records_of (drop more.taken left)) ≡ play_all one.unit (records_of left) →
    one.text ++ more.text ++ play_all more.unit (records_of (drop (entry_size + more.taken) (block ++ rest)))
    ≡ play_all unit (records_of (block ++ rest))
unfolding play_all
record_plays unit block rest more whole e =
    let one = play_record unit (take entry_size block) in
    rw (
      records_next (block ++ rest) (omega (arith, length-append block rest)),
      ← drop-drop more.taken entry_size (block ++ rest),
      drop-append-le entry_size block rest whole,
      take-append-le entry_size block rest whole,
      append_assoc one.text more.text (play_all more.unit (records_of (drop more.taken (drop entry_size block ++ rest)))),
      e,
    )

-- its text, then what the unit that it leaves prints of the bytes that it left, is what is printed of all
block-plays : (most room : ℕ) (unit : Unit) (block rest : List ℕ) →
    let done = play_records room unit (whole_entries most block) in
    done.text ++ play_all done.unit (records_of (drop done.taken (block ++ rest))) ≡ play_all unit (records_of (block ++ rest))
unfolding play_records
block-plays zero room unit block rest = refl
block-plays (suc most) room unit block rest =
    let one = play_record unit (take entry_size block) in
    let free = room - length one.text in
    case (ltb (length block) entry_size)
    (λ short. rw short)
    (λ long. case (goes_on room unit)
    (λ on. rw (long, on) (record_plays unit block rest (play_records free one.unit (whole_entries most (drop entry_size block)))
    (ltb-false (length block) entry_size long) (block-plays most free one.unit (drop entry_size block) rest)))
    (λ off. rw (long, off)))

-- ── the calls, and the end ──

-- one call on the first bytes of an input
pub call-plays : (size room : ℕ) (unit : Unit) (input : List ℕ) →
    let done = play_block room unit (take size input) in
    done.text ++ play_all done.unit (records_of (drop done.taken input)) ≡ play_all unit (records_of input)
call-plays size room unit input =
    let block = take size input in
    rw take-append-drop at (block-plays (length block) room unit block (drop size input))

calls-play : (calls : List Call) (unit : Unit) (input : List ℕ) →
    let p = play_calls calls unit input in
    p.text ++ play_all p.unit (records_of p.left) ≡ play_all unit (records_of input)
unfolding play_calls
calls-play [] unit input = refl
calls-play (c ∷ calls) unit input =
    let done = play_block c.room unit (take c.size input) in
    let more = play_calls calls done.unit (drop done.taken input) in
    rw (append_assoc done.text more.text (play_all more.unit (records_of more.left)), calls-play calls done.unit (drop done.taken input))
    (call-plays c.size c.room unit input)

-- the unit stopped, or no whole record is left
over_cases : (unit : Unit) (left : List ℕ) → is_over unit left ≡ true → (unit ≡ stopped) ⊎ (length left < entry_size)
over_cases fresh left over = inr (ltb-true (length left) entry_size over)
over_cases (playing u place replicas) left over = inr (ltb-true (length left) entry_size over)
over_cases stopped left over = inl refl

-- a unit that stopped prints nothing, whatever follows
stopped-silent : (records : List (List ℕ)) → play_all stopped records ≡ []
unfolding play_record play_all
stopped-silent [] = refl
stopped-silent (bytes ∷ records) = stopped-silent records

pub stopped_end : (left : List ℕ) → play_end stopped left ≡ []
unfolding play_end
stopped_end [] = refl
stopped_end (b ∷ rest) = refl

-- what is shorter than a record is refused as one
part_played : (unit : Unit) (bytes : List ℕ) → length bytes < entry_size → play_record unit bytes ≡ play_part unit
unfolding play_record read_setup read_entry ask
part_played fresh bytes short = let part = ne_eqb (length bytes) entry_size (omega arith) in rw part
part_played (playing u place replicas) bytes short = let part = ne_eqb (length bytes) entry_size (omega arith) in rw part
part_played stopped bytes short = refl

short_end : (unit : Unit) (left : List ℕ) → length left < entry_size → play_all unit (records_of left) ≡ play_end unit left
unfolding play_all play_end
short_end unit [] short = refl
short_end unit (b ∷ rest) short =
    ap (play_all unit) (records_next (b ∷ rest) (omega arith))
    ∙ rw (take_all entry_size (b ∷ rest) (omega arith), drop_of_length-le (b ∷ rest) {i = entry_size} (omega arith), part_played unit (b ∷ rest) short)

pub end_plays : (unit : Unit) (left : List ℕ) → is_over unit left ≡ true → play_all unit (records_of left) ≡ play_end unit left
end_plays unit left over = ⊎_elim
    (λ (e : unit ≡ stopped). rw e (stopped-silent (records_of left) ∙ sym (stopped_end left)))
    (short_end unit left)
    (over_cases unit left over)

-- from any unit on
pub cut_from : (calls : List Call) (unit : Unit) (input : List ℕ) →
    let p = play_calls calls unit input in
    is_over p.unit p.left ≡ true → p.text ++ play_end p.unit p.left ≡ play_all unit (records_of input)
cut_from calls unit input over =
    let p = play_calls calls unit input in
    ap (λ end. p.text ++ end) (sym (end_plays p.unit p.left over)) ∙ calls-play calls unit input

-- and from the start of a journal
pub cut_anywhere : (calls : List Call) (input : List ℕ) →
    let p = play_calls calls fresh input in
    is_over p.unit p.left ≡ true → p.text ++ play_end p.unit p.left ≡ journal input
unfolding journal
cut_anywhere calls input over = cut_from calls fresh input over

-- ── enough calls come to the end ──

-- the place of the next record; a unit that stopped has none
abbrev place_of : Unit → ℕ
place_of fresh = 1
place_of (playing u place replicas) = place
place_of stopped = 0

setup_place : (settings : Answer Settings) → place_of (play_setup settings).unit ≤ 2
setup_place (given u) = omega arith
setup_place (refused number) = omega arith

read_place : (u : Settings) (place : ℕ) (replicas : ℕ → State) (entry : Answer Entry) → place_of (play_read u place replicas entry).unit ≤ place + 1
read_place u place replicas (given e) = omega arith
read_place u place replicas (refused number) = omega arith

record_place : (unit : Unit) (bytes : List ℕ) → place_of (play_record unit bytes).unit ≤ place_of unit + 1
unfolding play_record
record_place fresh bytes = setup_place (read_setup bytes)
record_place (playing u place replicas) bytes = read_place u place replicas (read_entry u.k bytes)
record_place stopped bytes = omega arith

-- a call counts no more places than it takes bytes
records_place : (room : ℕ) (unit : Unit) (records : List (List ℕ)) →
    let done = play_records room unit records in
    place_of done.unit ≤ place_of unit + done.taken
unfolding play_records
records_place room unit [] = omega arith
records_place room unit (bytes ∷ records) =
    let one = play_record unit bytes in
    case (goes_on room unit)
    (λ on. rw on (omega (arith, record_place unit bytes, records_place (room - length one.text) one.unit records)))
    (λ off. rw off (omega arith))

-- before the end a whole record is left; with room and a place for it the unit goes on
goes_on_lem : (room : ℕ) (unit : Unit) (left : List ℕ) → lines_size ≤ room → place_of unit + length left ≤ max_place → is_over unit left ≡ false
    → (entry_size ≤ length left) × (goes_on room unit ≡ true)
goes_on_lem room fresh left roomy few e = (ltb-false (length left) entry_size e, le-leb lines_size room roomy)
goes_on_lem room (playing u place replicas) left roomy few e =
    let whole = ltb-false (length left) entry_size e in
    (whole, rw (le-leb lines_size room roomy, lt-ltb place max_place (omega arith)))
goes_on_lem room stopped left roomy few e = true-not-false true refl e

-- at the end a call does nothing
over-still : (room size : ℕ) (unit : Unit) (left : List ℕ) → is_over unit left ≡ true → play_block room unit (take size left) ≡ untouched unit
over-still room size unit left over = ⊎_elim
    (λ (e : unit ≡ stopped). rw e (block-stopped room (take size left)))
    (λ (short : length left < entry_size). block-short room unit (take size left) (omega (arith, length-take size left)))
    (over_cases unit left over)

over-stays : (calls : List Call) (unit : Unit) (left : List ℕ) → is_over unit left ≡ true →
    let p = play_calls calls unit left in
    is_over p.unit p.left ≡ true
unfolding play_calls
over-stays [] unit left over = over
over-stays (c ∷ calls) unit left over =
    subst (λ (done : Played). let p = play_calls calls done.unit (drop done.taken left) in is_over p.unit p.left ≡ true)
    (sym (over-still c.room c.size unit left over)) (over-stays calls unit left over)

short-over : (unit : Unit) (left : List ℕ) → length left < entry_size → is_over unit left ≡ true
short-over fresh left short = lt-ltb (length left) entry_size short
short-over (playing u place replicas) left short = lt-ltb (length left) entry_size short
short-over stopped left short = refl

module _ (size room : ℕ) (long : entry_size ≤ size) (roomy : lines_size ≤ room) where
  -- as many calls as the input has whole records are enough
  enough-calls : (count : ℕ) (unit : Unit) (input : List ℕ) → place_of unit + length input ≤ max_place → length input < entry_size * count + entry_size →
      let p = play_calls (replicate count (record { size = size; room = room })) unit input in
      is_over p.unit p.left ≡ true
  unfolding play_calls
  enough-calls zero unit input few short = short-over unit input (omega arith)
  enough-calls (suc count) unit input few short = case (is_over unit input)
      (λ over. over-stays (replicate (suc count) (record { size = size; room = room })) unit input over)
      (λ on.
      let block = take size input in
      let done = play_block room unit block in
      let goes = goes_on_lem room unit input roomy few on in
      let cut = length-take size input in
      let takes = block_takes room unit block (omega (arith, goes.0)) goes.1 in
      let left = length-drop done.taken input in
      enough-calls count done.unit (drop done.taken input)
      (omega (arith, records_place room unit (whole_entries (length block) block), taken-within room unit block)) (omega arith))

-- so the calls of an input of less than 2^64 - 1 bytes come to its end
pub calls_end : (input : List ℕ) (size room : ℕ) → entry_size ≤ size → lines_size ≤ room → length input < max_place →
    let p = play_calls (replicate (length input) (record { size = size; room = room })) fresh input in
    is_over p.unit p.left ≡ true
calls_end input size room long roomy few = enough-calls size room long roomy (length input) fresh input (omega arith) (omega arith)
