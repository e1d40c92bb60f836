-- The vote and the halt count, as rows: their numbers, their sets, lists of 64 and 65 messages, and each condition of what counts
-- failing alone.
use Rattle.std.specs.Prelude.{ℕ, Bool, true, false, List, [], ◌∷◌, ◌++◌, map, replicate}
use Rattle.question.specs.Question.{Answer, given, refused}
use Rattle.record.specs.declared.message.Message.{Message}
use Rattle.rules.specs.Lists.{up_to}
use Rattle.rules.specs.Vote.{vote, halt_count}
use Rattle.rules.specs.declared.Election.{Election}
use Rattle.rules.specs.declared.HaltCount.{HaltCount}
use Rattle.rules.specs.declared.Query.{Query}

-- what is seen: a vote or a halt count
pub data Seen : Type 0 where
  voted : Answer Election → Seen
  counted : Answer HaltCount → Seen

pub record Row : Type 0 where
  pub answer : Seen
  pub expected : Seen

-- kind, group, process, replica, variable, timestamp, value
abbrev message : ℕ → ℕ → ℕ → ℕ → ℕ → ℕ → ℕ → Message
message kind group process replica variable t value =
    record { kind = kind; group = group; process = process; replica = replica; variable = variable; timestamp = record { 0 = t }; value = value }

abbrev query : ℕ → ℕ → ℕ → ℕ → Query
query group process variable t = record { group = group; process = process; variable = variable; timestamp = record { 0 = t } }

-- ── the vote ──

abbrev row : Answer Election → Answer Election → Row
row expected answer = record { answer = voted answer; expected = voted expected }

-- a value, and the sets of those who agreed, gave another, and were silent: 5 is replicas 1 and 3
abbrev elected : ℕ → ℕ → ℕ → ℕ → Answer Election
elected value agreed other silent = given (record { value = value; agreed = agreed; other = other; silent = silent })

-- a reply of a replica with a value
abbrev says : ℕ → ℕ → Message
says value replica = message 3 1 1 replica 4 10 value

-- a vote in a unit of a k with two groups, on what those replies answer
abbrev poll : ℕ → List Message → Answer Election
poll k list = vote k 2 (query 1 1 4 10) list

-- replica 1's reply 7, and another message
abbrev with7 : Message → Answer Election
with7 m = poll 1 (says 7 1 ∷ m ∷ [])

-- two replies alike, from replicas 1 and 2, in a vote on just those
abbrev pair : ℕ → ℕ → ℕ → ℕ → Answer Election
pair n group process variable =
    vote 1 n (query group process variable 10) (message 3 group process 1 variable 10 7 ∷ message 3 group process 2 variable 10 7 ∷ [])

abbrev vote_rows : List Row
vote_rows =
    row (elected 7 3 0 4) (with7 (message 3 1 1 2 4 10 7))
    -- another kind, which a vote on variable 0 and the value 0 may meet
    ∷ row (elected 0 3 0 4) (vote 1 2 (query 1 1 0 10) (message 3 1 1 1 0 10 0 ∷ message 3 1 1 2 0 10 0 ∷ []))
    ∷ row (refused 17) (vote 1 2 (query 1 1 0 10) (message 3 1 1 1 0 10 0 ∷ message 4 1 1 2 0 10 0 ∷ []))
    -- another group, process, variable, timestamp, value
    ∷ row (refused 17) (with7 (message 3 2 1 2 4 10 7))
    ∷ row (refused 17) (with7 (message 3 1 2 2 4 10 7))
    ∷ row (refused 17) (with7 (message 3 1 1 2 5 10 7))
    ∷ row (refused 17) (with7 (message 3 1 1 2 4 11 7))
    ∷ row (refused 17) (with7 (message 3 1 1 2 4 10 8))
    -- the message questions: a replica, a group, a process, a variable that the unit has not
    ∷ row (refused 17) (with7 (message 3 1 1 0 4 10 7))
    ∷ row (refused 17) (with7 (message 3 1 1 4 4 10 7))
    ∷ row (elected 7 3 0 4) (pair 3 3 2 255)
    ∷ row (refused 17) (pair 2 3 2 255)
    ∷ row (refused 17) (pair 3 3 3 255)
    ∷ row (refused 17) (pair 3 3 2 256)
    -- the first reply of a replica counts, and a message that does not count is not its first
    ∷ row (elected 7 3 0 4) (poll 1 (says 7 1 ∷ says 7 2 ∷ says 9 2 ∷ []))
    ∷ row (refused 17) (poll 1 (says 7 1 ∷ says 9 2 ∷ says 7 2 ∷ []))
    ∷ row (elected 7 3 0 4) (poll 1 (says 7 1 ∷ message 3 1 1 2 5 10 9 ∷ says 7 2 ∷ []))
    -- k + 1 different replicas
    ∷ row (refused 17) (poll 1 (says 7 1 ∷ says 7 1 ∷ []))
    ∷ row (refused 17) (poll 0 [])
    ∷ row (elected 7 1 0 0) (poll 0 (map (says 7) (up_to 1)))
    ∷ row (refused 17) (poll 3 (map (says 7) (up_to 3)))
    ∷ row (elected 7 15 112 0) (poll 3 (says 9 5 ∷ says 9 6 ∷ says 9 7 ∷ map (says 7) (up_to 4)))
    -- who gave another value, and who was silent: a later reply moves no replica, and one that does not count is as none
    ∷ row (elected 7 3 4 0) (poll 1 (says 7 1 ∷ says 9 3 ∷ says 7 2 ∷ says 7 3 ∷ []))
    ∷ row (elected 7 6 0 1) (poll 1 (says 7 2 ∷ says 7 3 ∷ message 3 1 1 1 5 10 9 ∷ []))
    -- senders that the unit has not, 0 and 2k + 2, are in no set
    ∷ row (elected 7 3 4 0) (poll 1 (says 7 0 ∷ says 7 4 ∷ says 9 0 ∷ says 9 4 ∷ says 7 1 ∷ says 7 2 ∷ says 8 3 ∷ []))
    -- seven replicas: the upper ones silent; in a list of 64, one of them often
    ∷ row (elected 7 15 0 112) (poll 3 (map (says 7) (up_to 4)))
    ∷ row (elected 7 15 64 48) (poll 3 (map (says 7) (up_to 4) ++ replicate 60 (says 9 7)))
    -- 64 messages and 65
    ∷ row (elected 7 1 0 0) (poll 0 (replicate 64 (says 7 1)))
    ∷ row (refused 16) (poll 0 (replicate 65 (says 7 1)))
    -- 1 before 2, 2 before 16, 16 before 17
    ∷ row (refused 1) (vote 4 5 (query 1 1 4 10) [])
    ∷ row (refused 2) (vote 0 0 (query 1 1 4 10) (replicate 65 (says 7 1)))
    ∷ row (refused 16) (poll 0 (replicate 65 (message 4 1 1 1 0 10 0)))
    ∷ []

-- ── the halt count ──

abbrev halt_row : Answer HaltCount → Answer HaltCount → Row
halt_row expected answer = record { answer = counted answer; expected = counted expected }

-- the senders, how many, and whether the process must halt
abbrev senders : ℕ → ℕ → Bool → Answer HaltCount
senders set size halt = given (record { senders = set; size = size; halt = halt })

-- a halt of a replica, at a timestamp of its own
abbrev halts : ℕ → Message
halts replica = message 4 1 1 replica 0 replica 0

-- for group 1 and process 1, in a unit of a k with two groups
abbrev count : ℕ → List Message → Answer HaltCount
count k list = halt_count k 2 1 1 list

-- replica 1's halt, and another message
abbrev with1 : Message → Answer HaltCount
with1 m = count 1 (halts 1 ∷ m ∷ [])

abbrev halt_rows : List Row
halt_rows =
    -- whatever the timestamps
    halt_row (senders 7 3 true) (count 1 (map halts (up_to 3)))
    ∷ halt_row (senders 0 0 false) (count 1 [])
    ∷ halt_row (senders 127 7 true) (count 3 (map halts (up_to 7)))
    -- another kind, group, process
    ∷ halt_row (senders 3 2 true) (with1 (message 4 1 1 2 0 10 0))
    ∷ halt_row (senders 1 1 false) (with1 (message 3 1 1 2 0 10 0))
    ∷ halt_row (senders 1 1 false) (with1 (message 4 2 1 2 0 10 0))
    ∷ halt_row (senders 1 1 false) (with1 (message 4 1 2 2 0 10 0))
    -- the message questions: a replica that the unit has not, a variable, a value; then a group and a process that it has not
    ∷ halt_row (senders 1 1 false) (with1 (message 4 1 1 0 0 10 0))
    ∷ halt_row (senders 1 1 false) (with1 (message 4 1 1 4 0 10 0))
    ∷ halt_row (senders 1 1 false) (with1 (message 4 1 1 2 1 10 0))
    ∷ halt_row (senders 1 1 false) (with1 (message 4 1 1 2 0 10 1))
    ∷ halt_row (senders 1 1 false) (halt_count 1 3 3 2 (message 4 3 2 1 0 10 0 ∷ []))
    ∷ halt_row (senders 0 0 false) (halt_count 1 2 3 2 (message 4 3 2 1 0 10 0 ∷ []))
    ∷ halt_row (senders 0 0 false) (halt_count 1 3 3 3 (message 4 3 3 1 0 10 0 ∷ []))
    -- different replicas
    ∷ halt_row (senders 1 1 false) (with1 (message 4 1 1 1 0 10 0))
    -- a process halts at k + 1, not at k
    ∷ halt_row (senders 1 1 true) (count 0 (halts 1 ∷ []))
    ∷ halt_row (senders 112 3 false) (count 3 (halts 5 ∷ halts 6 ∷ halts 7 ∷ []))
    ∷ halt_row (senders 120 4 true) (count 3 (halts 4 ∷ halts 5 ∷ halts 6 ∷ halts 7 ∷ []))
    -- 64 messages and 65; 1 before 2, 2 before 16
    ∷ halt_row (senders 1 1 false) (count 1 (replicate 64 (halts 1)))
    ∷ halt_row (refused 16) (count 1 (replicate 65 (halts 1)))
    ∷ halt_row (refused 1) (halt_count 4 0 1 1 [])
    ∷ halt_row (refused 2) (halt_count 1 5 1 1 (replicate 65 (halts 1)))
    ∷ []

abbrev pub rows : List Row
rows = vote_rows ++ halt_rows
