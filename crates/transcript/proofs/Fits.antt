-- Nothing is cut off: what a record prints takes at most 8,844 bytes, what a call prints fits the text that it was lent, and the end of
-- a journal at most 521. Assumes nothing.
use Prim.Native.Nat.{ℕ, ◌+◌, ◌*◌, ◌-◌, ◌≤◌}
use mathlib.Core.Path.{◌≡◌, refl, ap}
use mathlib.Core.Bool.{true, false}
use mathlib.Core.List.{List, [], ◌∷◌, map}
use lib.Dec.{leb, ltb}
use lib.ListN.{length, replicate, length-append, length-map, length-replicate}
use native.Mathlib.Omega.{arith}
use borrow.Author.Tests.{leb-true}
use Rattle.limits.specs.Limits.{max_k, output_size, max_sent, max_place}
use Rattle.question.specs.Question.{Answer, given, refused, unit_questions}
use Rattle.question.proofs.Questions.{ask_through, ask-all_yes, all_yes_parts, bind-given, same_given}
use Rattle.question.proofs.Tests.{case, both, true-not-false, unit_facts}
use Rattle.rules.specs.Lists.{up_to}
use Rattle.rules.specs.declared.Settings.{Settings}
use Rattle.rules.specs.Replica.{State, Stepped, deliver}
use Rattle.laws.proofs.Lists.{length-up_to}
use Rattle.entry.specs.Entry.{Entry, delivery, turn, settings_in, setup_questions, read_setup, read_entry}
use Rattle.transcript.specs.Journal.{Unit, fresh, playing, stopped, play_setup, replica_for, play_entry, lines_of, play_read, play_record, card_lines}
use Rattle.transcript.specs.Blocks.{lines_size, whole_entries, goes_on, play_records, play_block, play_part, end_size, play_end}
use Rattle.lines.proofs.Room.{messages-short, refusal_short, cards-short}
use Rattle.transcript.proofs.Output.{step-within}

-- ── what a record prints ──

-- an entry that is played on a replica sends at most 67 records
entry_few : (s : State) (e : Entry) (output : List ℕ) {d : Stepped} → length output ≡ output_size → play_entry s e output ≡ given d → d.count ≤ max_sent
unfolding play_entry
entry_few s (delivery replica at request) output {d} size e =
    let sent = bind-given (deliver s request at) _ e in
    omega (arith, ap (λ (x : Stepped). x.count) (same_given sent.2))
entry_few s (turn replica at) output size e = omega (arith, step-within s at output e)

-- what it prints, where its answer sends at most so many
answer-short : (u : Settings) (place : ℕ) (answer : Answer Stepped) → ((d : Stepped) → answer ≡ given d → d.count ≤ max_sent)
    → length (lines_of u place answer) ≤ lines_size
answer-short u place (given d) few = omega (arith, few d refl, messages-short u.k u.groups d.count d.output)
answer-short u place (refused number) few = omega (arith, refusal_short place number)

read_short : (u : Settings) (place : ℕ) (replicas : ℕ → State) (entry : Answer Entry) → length (play_read u place replicas entry).text ≤ lines_size
read_short u place replicas (given e) =
    answer-short u place (play_entry (replicas (replica_for e)) e (replicate output_size 0))
    (λ d. entry_few (replicas (replica_for e)) e (replicate output_size 0) (length-replicate {A = ℕ} output_size 0))
read_short u place replicas (refused number) = omega (arith, refusal_short place number)

setup-short : (settings : Answer Settings) → length (play_setup settings).text ≤ lines_size
setup-short (given u) = omega arith
setup-short (refused number) = omega (arith, refusal_short 1 number)

pub record_short : (unit : Unit) (bytes : List ℕ) → length (play_record unit bytes).text ≤ lines_size
unfolding play_record
record_short fresh bytes = setup-short (read_setup bytes)
record_short (playing u place replicas) bytes = read_short u place replicas (read_entry u.k bytes)
record_short stopped bytes = omega arith

-- ── what a call prints ──

-- a unit goes on only where there is room for one record more
goes_room : (room : ℕ) (unit : Unit) → goes_on room unit ≡ true → lines_size ≤ room
goes_room room fresh on = leb-true lines_size room on
goes_room room (playing u place replicas) on = leb-true lines_size room (both (leb lines_size room) (ltb place max_place) on).0
goes_room room stopped on = true-not-false false on refl

records_fit : (room : ℕ) (unit : Unit) (records : List (List ℕ)) → length (play_records room unit records).text ≤ room
unfolding play_records
records_fit room unit [] = omega arith
records_fit room unit (bytes ∷ records) =
    let one = play_record unit bytes in
    let free = room - length one.text in
    case (goes_on room unit)
    (λ on. rw on (omega (
      arith,
      goes_room room unit on,
      record_short unit bytes,
      records_fit free one.unit records,
      length-append one.text (play_records free one.unit records).text,
    )))
    (λ off. rw off (omega arith))

pub block-fits : (room : ℕ) (unit : Unit) (block : List ℕ) → length (play_block room unit block).text ≤ room
block-fits room unit block = records_fit room unit (whole_entries (length block) block)

-- ── what the end prints ──

-- the k of a unit, 0 where none is set up
abbrev pub k_in : Unit → ℕ
k_in fresh = 0
k_in (playing u place replicas) = u.k
k_in stopped = 0

cards-within : (unit : Unit) → k_in unit ≤ max_k → length (card_lines unit) ≤ 476
cards-within fresh small = omega arith
cards-within (playing u place replicas) small =
    omega (arith, cards-short (map replicas (up_to (2 * u.k + 1))), length-map (up_to (2 * u.k + 1)) replicas, length-up_to (2 * u.k + 1))
cards-within stopped small = omega arith

-- the k of a setup is at most 3
pub setup-small : (bytes : List ℕ) {u : Settings} → read_setup bytes ≡ given u → u.k ≤ 3
unfolding read_setup
setup-small bytes {u} e =
    let asked = ask-all_yes (setup_questions bytes) (given (settings_in bytes)) e in
    let v = settings_in bytes in
    let unit = unit_facts v.k v.groups (all_yes_parts (unit_questions v.k v.groups) _ asked.1.1.1.1).0 in
    let same : v ≡ u = same_given (ask_through (setup_questions bytes) (given v) e) in
    rw (← same) unit.k-high

setup-k : (bytes : List ℕ) (settings : Answer Settings) → read_setup bytes ≡ settings → k_in (play_setup settings).unit ≤ max_k
setup-k bytes (given u) e = setup-small bytes e
setup-k bytes (refused number) e = omega arith

read-k : (u : Settings) (place : ℕ) (replicas : ℕ → State) (entry : Answer Entry) → k_in (play_read u place replicas entry).unit ≡ u.k
read-k u place replicas (given e) = refl
read-k u place replicas (refused number) = refl

record_k : (unit : Unit) (bytes : List ℕ) → k_in unit ≤ max_k → k_in (play_record unit bytes).unit ≤ max_k
unfolding play_record
record_k fresh bytes small = setup-k bytes (read_setup bytes) refl
record_k (playing u place replicas) bytes small = omega (arith, read-k u place replicas (read_entry u.k bytes))
record_k stopped bytes small = small

-- so it is after any calls
records-k : (room : ℕ) (unit : Unit) (records : List (List ℕ)) → k_in unit ≤ max_k → k_in (play_records room unit records).unit ≤ max_k
unfolding play_records
records-k room unit [] small = small
records-k room unit (bytes ∷ records) small =
    let one = play_record unit bytes in
    case (goes_on room unit)
    (λ on. rw on (records-k (room - length one.text) one.unit records (record_k unit bytes small)))
    (λ off. rw off small)

pub block-k : (room : ℕ) (unit : Unit) (block : List ℕ) → k_in unit ≤ max_k → k_in (play_block room unit block).unit ≤ max_k
block-k room unit block small = records-k room unit (whole_entries (length block) block) small

-- what is refused at the end
part-short : (unit : Unit) → length (play_part unit).text ≤ 45
part-short fresh = refusal_short 1 18
part-short (playing u place replicas) = refusal_short place 18
part-short stopped = omega arith

part-k : (unit : Unit) → k_in (play_part unit).unit ≤ k_in unit
part-k fresh = omega arith
part-k (playing u place replicas) = omega arith
part-k stopped = omega arith

pub end_fits : (unit : Unit) (left : List ℕ) → k_in unit ≤ max_k → length (play_end unit left) ≤ end_size
unfolding play_end
end_fits unit [] small = omega (arith, cards-within unit small)
end_fits unit (b ∷ rest) small =
    let last = play_part unit in
    omega (arith, length-append last.text (card_lines last.unit), part-short unit, cards-within last.unit (omega (arith, part-k unit)))
