-- The ballot: what is noted of each replica, message after message, and what it says. That this is what crates/rules
-- says of the list is proved in proofs/Answers.antt.
use Rattle.std.specs.Prelude.{ℕ, zero, suc, ◌+◌, ◌*◌, Bool, cond, ◌&&◌, List, [], ◌∷◌, ◌++◌, eqb, leb, length, get_or, set, replicate}
use Rattle.std.specs.Int.Count.{ones}
use Rattle.limits.specs.Limits.{max_list}
use Rattle.question.specs.Question.{Question, ◌else◌, Answer, given, refused, ask, unit_questions}
use Rattle.layout.specs.declared.clock.Timestamp.{Timestamp}
use Rattle.record.specs.declared.message.Message.{Message}
use Rattle.rules.specs.Sets.{has, with}
use Rattle.rules.specs.Vote.{counts_for, counts_as_halt, election_by, halts_by}
use Rattle.rules.specs.declared.Election.{Election}
use Rattle.rules.specs.declared.HaltCount.{HaltCount}
use Rattle.rules.specs.declared.Query.{Query}
use Rattle.ballot.specs.Sets.{last_replica, lacks}
use Rattle.ballot.specs.declared.ballot.Ballot.{Ballot}

-- ── by their fields ──

abbrev pub message_of : ℕ → ℕ → ℕ → ℕ → ℕ → Timestamp → ℕ → Message
message_of kind group process replica variable timestamp value = record {
  kind = kind;
  group = group;
  process = process;
  replica = replica;
  variable = variable;
  timestamp = timestamp;
  value = value;
}

-- what a halt count is on: no halt is compared with a variable or a timestamp
abbrev pub halt_query : ℕ → ℕ → Query
halt_query group process = record { group = group; process = process; variable = 0; timestamp = record { 0 = 0 } }

-- ── message after message ──

-- the ballot of a list of the given length, with nothing heard
unfoldable pub new_ballot : ℕ → Ballot
new_ballot length = record { values = replicate (last_replica + 1) 0; heard = record { 0 = 0 }; halted = record { 0 = 0 }; short = leb length max_list }

-- a reply of a replica with a value, noted
abbrev pub note_reply : Ballot → ℕ → ℕ → Ballot
note_reply b replica value = record b { values = set b.values replica value; heard = record { 0 = with b.heard.0 replica } }

-- a halt of a replica, noted
abbrev pub note_halt : Ballot → ℕ → Ballot
note_halt b replica = record b { halted = record { 0 = with b.halted.0 replica } }

-- a reply that counts, the first of its replica. A number that no replica has is none's
abbrev pub is_first_reply : ℕ → ℕ → Query → Ballot → Message → Bool
is_first_reply k n q b m = counts_for k n q m && lacks b.heard.0 m.replica

-- a halt that counts, the first of its replica
abbrev pub is_first_halt : ℕ → ℕ → Query → Ballot → Message → Bool
is_first_halt k n q b m = counts_as_halt k n q.group q.process m && lacks b.halted.0 m.replica

-- a message: these are noted, and all else changes nothing
unfoldable pub hear : ℕ → ℕ → Query → Ballot → Message → Ballot
hear k n q b m =
    cond (is_first_reply k n q b m) (note_reply b m.replica m.value) (cond (is_first_halt k n q b m) (note_halt b m.replica) b)

-- the messages of a list, in their order
unfoldable pub hear_all : ℕ → ℕ → Query → Ballot → List Message → Ballot
hear_all k n q b [] = b
hear_all k n q b (m ∷ list) = hear_all k n q (hear k n q b m) list

-- the ballot of a list
abbrev pub ballot_of : ℕ → ℕ → Query → List Message → Ballot
ballot_of k n q list = hear_all k n q (new_ballot (length list)) list

-- ── what a ballot says ──

-- the value of a replica that was heard
abbrev pub value_of : Ballot → ℕ → ℕ
value_of b replica = get_or b.values replica 0

-- whether a replica was heard to give the value
abbrev pub gave : Ballot → ℕ → ℕ → Bool
gave b value replica = has b.heard.0 replica && eqb (value_of b replica) value

-- the unit's replicas by what they gave
abbrev pub election_in : ℕ → Ballot → ℕ → Election
election_in k b value = election_by k value (has b.heard.0) (gave b value)

-- the value of a replica up to the given one that at least k + 1 of the unit's replicas gave
unfoldable pub elect_in : ℕ → Ballot → ℕ → Answer Election
elect_in k b zero = refused 17
elect_in k b (suc i) =
    let e = election_in k b (value_of b (suc i)) in
    cond (has b.heard.0 (suc i) && leb (k + 1) (ones e.agreed)) (given e) (elect_in k b i)

-- ── what is answered ──

-- questions 1, 2 and 16
abbrev pub ballot_questions : ℕ → ℕ → Ballot → List Question
ballot_questions k n b = unit_questions k n ++ ((b.short else 16) ∷ [])

-- the vote
unfoldable pub vote_on : ℕ → ℕ → Ballot → Answer Election
vote_on k n b = ask (ballot_questions k n b) (elect_in k b (2 * k + 1))

-- the halt count
unfoldable pub halt_count_on : ℕ → ℕ → Ballot → Answer HaltCount
halt_count_on k n b = ask (ballot_questions k n b) (given (halts_by k (has b.halted.0)))
