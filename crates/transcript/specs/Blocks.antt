-- A journal played block by block: what a call does, and what the calls do together.
use Rattle.std.specs.Prelude.{ℕ, zero, suc, ◌+◌, ◌*◌, ◌-◌, Bool, true, false, cond, ◌&&◌, List, [], ◌∷◌, ◌++◌, leb, ltb, length, take, drop}
use Rattle.limits.specs.Limits.{max_replicas, entry_size, max_sent, max_place}
use Rattle.question.specs.Question.{refused}
use Rattle.transcript.specs.Journal.{Unit, fresh, playing, stopped, Printed, play_setup, play_read, play_record, card_lines}

-- ── one call ──

-- the most that the lines of one record take: 132 bytes for each message that a step may send
abbrev pub lines_size : ℕ
lines_size = max_sent * 132

-- the whole records of a block; no more of them than bytes
abbrev pub whole_entries : ℕ → List ℕ → List (List ℕ)
whole_entries zero block = []
whole_entries (suc most) block =
    cond (ltb (length block) entry_size) [] (take entry_size block ∷ whole_entries most (drop entry_size block))

-- there is room for whatever one more record prints, and its place can be counted; a unit that stopped plays none
abbrev pub goes_on : ℕ → Unit → Bool
goes_on room fresh = leb lines_size room
goes_on room (playing u place replicas) = leb lines_size room && ltb place max_place
goes_on room stopped = false

-- what a call comes to: the unit, how many bytes of the block were taken, and the text
pub record Played : Type 0 where
  pub unit : Unit
  pub taken : ℕ
  pub text : List ℕ

unfoldable pub play_records : ℕ → Unit → List (List ℕ) → Played
play_records room unit [] = record { unit = unit; taken = 0; text = [] }
play_records room unit (bytes ∷ records) =
    let one = play_record unit bytes in
    let more = play_records (room - length one.text) one.unit records in
    cond (goes_on room unit)
    (record { unit = more.unit; taken = entry_size + more.taken; text = one.text ++ more.text })
    (record { unit = unit; taken = 0; text = [] })

-- the whole records of a block, one after another, until they or the text are used up
abbrev pub play_block : ℕ → Unit → List ℕ → Played
play_block room unit block = play_records room unit (whole_entries (length block) block)

-- ── the calls, and the end ──

-- a call: it is lent so many bytes of what is left of the input, and a text of so many
pub record Call : Type 0 where
  pub size : ℕ
  pub room : ℕ

-- after some calls: the unit, what is left of the input, and all text so far
pub record Progress : Type 0 where
  pub unit : Unit
  pub left : List ℕ
  pub text : List ℕ

unfoldable pub play_calls : List Call → Unit → List ℕ → Progress
play_calls [] unit input = record { unit = unit; left = input; text = [] }
play_calls (c ∷ calls) unit input =
    let done = play_block c.room unit (take c.size input) in
    let more = play_calls calls done.unit (drop done.taken input) in
    record { unit = more.unit; left = more.left; text = done.text ++ more.text }

-- no whole record is left to be played
abbrev pub is_over : Unit → List ℕ → Bool
is_over fresh left = ltb (length left) entry_size
is_over (playing u place replicas) left = ltb (length left) entry_size
is_over stopped left = true

-- what is left at the end, fewer bytes than a record has, is refused as one
abbrev pub play_part : Unit → Printed
play_part fresh = play_setup (refused 18)
play_part (playing u place replicas) = play_read u place replicas (refused 18)
play_part stopped = record { unit = stopped; text = [] }

-- the most that the end prints: 45 bytes for that, and 68 for each of seven replicas
abbrev pub end_size : ℕ
end_size = 45 + max_replicas * 68

-- the end of the input: that, unless nothing is left, and a line for each replica
unfoldable pub play_end : Unit → List ℕ → List ℕ
play_end unit [] = card_lines unit
play_end unit (b ∷ rest) = (play_part unit).text ++ card_lines (play_part unit).unit
