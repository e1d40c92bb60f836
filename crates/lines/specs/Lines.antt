-- The journal program's lines, as ASCII.
use Rattle.std.specs.Prelude.{ℕ, cond, List, [], ◌∷◌, ◌++◌, map, eqb, codes}
use Rattle.text.specs.Text.{joined, line}
use Rattle.question.specs.Question.{Answer, given, refused}
use Rattle.record.specs.Kind.{reply}
use Rattle.record.specs.declared.message.Message.{Message}
use Rattle.rules.specs.Batch.{value_of}
use Rattle.rules.specs.Replica.{State}
use Rattle.rules.specs.Run.{messages_in}

-- the words that lines begin with
abbrev pub reply_word : List ℕ
reply_word = codes "reply"

abbrev pub halt_word : List ℕ
halt_word = codes "halt"

abbrev pub no_word : List ℕ
no_word = codes "no"

abbrev pub card_word : List ℕ
card_word = codes "card"

-- the numbers that every message's line begins with
abbrev pub first_four : Message → List ℕ
first_four m = m.replica ∷ m.group ∷ m.process ∷ m.timestamp.0 ∷ []

-- a reply: the first four, its variable and its value; a halt: the first four
abbrev pub message_line : Message → List ℕ
message_line m =
    cond (eqb m.kind reply)
    (line reply_word (first_four m ++ (m.variable ∷ m.value ∷ [])))
    (line halt_word (first_four m))

-- a refused record: its place, from 1, and the number
abbrev pub refusal_line : ℕ → ℕ → List ℕ
refusal_line place number = line no_word (place ∷ number ∷ [])

-- what a call answered: a line for each message among the records that it sent, or that of its refusal
abbrev pub answer_lines : ℕ → ℕ → ℕ → Answer ℕ → List ℕ → List ℕ
answer_lines k n place (given count) sent = joined (map message_line (messages_in k n count sent))
answer_lines k n place (refused number) sent = refusal_line place number

-- at the end each replica: its number, its failed mark, the writes performed
abbrev pub card_line : State → List ℕ
card_line s = line card_word (s.number ∷ value_of 0 s.store ∷ s.store.writes ∷ [])
