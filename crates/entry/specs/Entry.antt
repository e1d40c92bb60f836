-- Document 01, "The journal program": what a 40-byte record asks for.
use Rattle.std.specs.Prelude.{ℕ, ◌+◌, ◌*◌, Bool, cond, ◌&&◌, ◌||◌, List, [], ◌∷◌, eqb, length, take, drop, get_or, Result}
use Rattle.limits.specs.Limits.{entry_size}
use Rattle.question.specs.Question.{Question, ◌else◌, Answer, given, ask, map_answer, within}
use Rattle.question.specs.Refusals.{answer_of}
use Rattle.question.specs.declared.refusal.Refusal.{Refusal}
use Rattle.layout.specs.Layout.{field}
use Rattle.layout.specs.declared.clock.LocalTime.{LocalTime}
use Rattle.rules.specs.Lists.{every}
use Rattle.rules.specs.declared.Settings.{Settings}
use Rattle.rules.specs.Replica.{settings_questions}
use Rattle.entry.specs.declared.entry.EntryRead.{EntryRead}

-- byte 0: what the record is: 1 setup, 2 delivery, 3 turn
abbrev pub kind_of : List ℕ → ℕ
kind_of bytes = get_or bytes 0 0

-- byte 1: the replica, document 01's storage card
abbrev pub replica_of : List ℕ → ℕ
replica_of bytes = get_or bytes 1 0

-- so many bytes from a place on are zero
abbrev pub zero_from : ℕ → ℕ → List ℕ → Bool
zero_from at count bytes = every (λ b. eqb b 0) (take count (drop at bytes))

-- ── the setup, the first record ──

-- δ in bytes 8–15; k, N, owner in bytes 16, 17, 18
abbrev pub settings_in : List ℕ → Settings
settings_in bytes = record { k = get_or bytes 16 0; groups = get_or bytes 17 0; owner = get_or bytes 18 0; delta = field bytes 8 8 }

-- those of the record, then those of the settings: making the unit's replicas asks nothing more
abbrev pub setup_questions : List ℕ → List Question
setup_questions bytes =
    (eqb (length bytes) entry_size else 18)
    ∷ (eqb (kind_of bytes) 1 else 19)
    ∷ (eqb (replica_of bytes) 0 else 5)
    ∷ (zero_from 2 6 bytes && zero_from 19 21 bytes else 20)
    ∷ settings_questions (settings_in bytes)

unfoldable pub read_setup : List ℕ → Answer Settings
read_setup bytes = ask (setup_questions bytes) (given (settings_in bytes))

-- ── every later record ──

-- a delivery of a request's bytes to a replica, or a step of one, at a local time
pub data Entry : Type 0 where
  delivery : ℕ → LocalTime → List ℕ → Entry
  turn : ℕ → LocalTime → Entry

-- a step has zeros where a delivery has its request
abbrev pub entry_questions : ℕ → List ℕ → List Question
entry_questions k bytes =
    (eqb (length bytes) entry_size else 18)
    ∷ (within 2 3 (kind_of bytes) else 19)
    ∷ (within 1 (2 * k + 1) (replica_of bytes) else 5)
    ∷ (zero_from 2 6 bytes && (eqb (kind_of bytes) 2 || zero_from 16 24 bytes) else 20)
    ∷ []

abbrev pub entry_in : List ℕ → Entry
entry_in bytes =
    let at : LocalTime = record { 0 = field bytes 8 8 } in
    cond (eqb (kind_of bytes) 2) (delivery (replica_of bytes) at (take 24 (drop 16 bytes))) (turn (replica_of bytes) at)

unfoldable pub read_entry : ℕ → List ℕ → Answer Entry
read_entry k bytes = ask (entry_questions k bytes) (given (entry_in bytes))

-- ── the answers of the code ──

-- the request of a delivery is in the record
abbrev pub event_of : List ℕ → EntryRead → Entry
event_of bytes (EntryRead.Delivery replica at) = delivery replica at (take 24 (drop 16 bytes))
event_of bytes (EntryRead.Turn replica at) = turn replica at

abbrev pub entry_answer : List ℕ → Result EntryRead Refusal → Answer Entry
entry_answer bytes read = map_answer (event_of bytes) (answer_of read)
