-- What a journal prints: record by record, and as a whole.
use Rattle.std.specs.Prelude.{ℕ, zero, suc, ◌+◌, ◌*◌, cond, List, [], ◌∷◌, ◌++◌, map, eqb, length, take, drop, replicate}
use Rattle.limits.specs.Limits.{entry_size, output_size}
use Rattle.text.specs.Text.{joined}
use Rattle.question.specs.Question.{Answer, given, refused, map_answer, after}
use Rattle.rules.specs.Lists.{up_to}
use Rattle.rules.specs.declared.Settings.{Settings}
use Rattle.rules.specs.Replica.{State, Stepped, new_state, deliver, step}
use Rattle.entry.specs.Entry.{Entry, delivery, turn, read_setup, read_entry}
use Rattle.lines.specs.Lines.{refusal_line, answer_lines, card_line}

-- a unit while its journal is played: before the first record; set up so, with the place of the next record and each replica by its number;
-- or stopped, since its first record was refused
pub data Unit : Type 0 where
  fresh : Unit
  playing : Settings → ℕ → (ℕ → State) → Unit
  stopped : Unit

-- a unit, and the text that is printed
pub record Printed : Type 0 where
  pub unit : Unit
  pub text : List ℕ

-- ── one record ──

-- the first one sets the unit up; after a refused first record the program stops there
abbrev pub play_setup : Answer Settings → Printed
play_setup (given u) = record { unit = playing u 2 (new_state u); text = [] }
play_setup (refused number) = record { unit = stopped; text = refusal_line 1 number }

-- the replica that an entry names
abbrev pub replica_for : Entry → ℕ
replica_for (delivery replica at request) = replica
replica_for (turn replica at) = replica

-- what it does to that replica: a delivery sends nothing
unfoldable pub play_entry : State → Entry → List ℕ → Answer Stepped
play_entry s (delivery replica at request) output = map_answer (λ t. record { state = t; count = 0; output = output }) (deliver s request at)
play_entry s (turn replica at) output = step s at output

-- what is printed of a call: its messages, or its refusal
abbrev pub lines_of : Settings → ℕ → Answer Stepped → List ℕ
lines_of u place (given d) = answer_lines u.k u.groups place (given d.count) d.output
lines_of u place (refused number) = refusal_line place number

-- the replicas, one of them replaced
abbrev pub replaced : ℕ → State → (ℕ → State) → ℕ → State
replaced number s replicas n = cond (eqb n number) s (replicas n)

-- what a call leaves of the replica with this number, in its place
abbrev pub put_back : Settings → ℕ → ℕ → (ℕ → State) → Answer Stepped → Printed
put_back u place number replicas answer =
    let left = after (replicas number) (map_answer (λ d. d.state) answer) in
    record { unit = playing u (place + 1) (replaced number left replicas); text = lines_of u place answer }

-- one after the setup
abbrev pub play_read : Settings → ℕ → (ℕ → State) → Answer Entry → Printed
play_read u place replicas (given e) =
    put_back u place (replica_for e) replicas (play_entry (replicas (replica_for e)) e (replicate output_size 0))
play_read u place replicas (refused number) =
    record { unit = playing u (place + 1) replicas; text = refusal_line place number }

unfoldable pub play_record : Unit → List ℕ → Printed
play_record fresh bytes = play_setup (read_setup bytes)
play_record (playing u place replicas) bytes = play_read u place replicas (read_entry u.k bytes)
play_record stopped bytes = record { unit = stopped; text = [] }

-- ── a whole journal ──

-- at the end a line for each replica, 1 to 2k + 1
abbrev pub card_lines : Unit → List ℕ
card_lines fresh = []
card_lines (playing u place replicas) = joined (map card_line (map replicas (up_to (2 * u.k + 1))))
card_lines stopped = []

-- records of 40 bytes, the last one as long as it is; no more of them than bytes
abbrev pub entries_of : ℕ → List ℕ → List (List ℕ)
entries_of zero input = []
entries_of (suc most) [] = []
entries_of (suc most) (b ∷ input) = take entry_size (b ∷ input) ∷ entries_of most (drop entry_size (b ∷ input))

unfoldable pub play_all : Unit → List (List ℕ) → List ℕ
play_all unit [] = card_lines unit
play_all unit (bytes ∷ records) =
    let done = play_record unit bytes in
    done.text ++ play_all done.unit records

-- what is printed of an input
unfoldable pub journal : List ℕ → List ℕ
journal input = play_all fresh (entries_of (length input) input)
