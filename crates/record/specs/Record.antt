-- Document 01, "Records" and the questions of "Reading or writing a record, requests and messages separately". What differs between
-- requests and messages is who sends and what the kind may carry (Kind.antt); the path is one.
use Rattle.std.specs.Prelude.{ℕ, ◌+◌, ◌*◌, Bool, true, false, ◌&&◌, ◌||◌, List, [], ◌∷◌, ◌++◌, eqb, leb, length, drop}
use Rattle.limits.specs.Limits.{record_size}
use Rattle.question.specs.Question.{Question, ◌else◌, Answer, given, ask, map_answer, all_yes, within, unit_questions}
use Rattle.layout.specs.Layout.{fields_of, bytes_of}
use Rattle.record.specs.Kind.{is_of, row_of}
use Rattle.layout.specs.declared.fields.Fields.{Fields}
use Rattle.record.specs.declared.kind.Family.{Family}
use Rattle.record.specs.declared.kind.Family.TheVariants.{Requests, Messages, Neither}
use Rattle.record.specs.declared.request.Request.{Request}
use Rattle.record.specs.declared.message.Message.{Message}

-- ── what is asked of the fields ──

-- byte 3: a message says which replica sends it
abbrev pub has_sender : Family → Bool
has_sender Messages = true
has_sender Requests = false
has_sender Neither = false

abbrev pub sender_questions : Family → ℕ → Fields → List Question
sender_questions Messages k f = (within 1 (2 * k + 1) f.replica else 5) ∷ []
sender_questions Requests k f = []
sender_questions Neither k f = []

abbrev pub allows_variable : Fields → Bool
allows_variable f = within (row_of f.kind).least (row_of f.kind).greatest f.variable

-- the bytes outside the value that must be zero are: byte 3, bytes 6–7 and bytes 20–23, where nothing stands in them
abbrev pub spares_zero : Family → Fields → Bool
spares_zero family f =
    (has_sender family || eqb f.replica 0)
    && ((row_of f.kind).bytes6 || eqb f.spare6 0)
    && ((row_of f.kind).bytes20 || eqb f.spare20 0)

-- a read or a halt carries no value: bytes 16–19
abbrev pub allows_value : Fields → Bool
allows_value f = (row_of f.kind).value || eqb f.value 0

-- whose it is: 8, 9, and 5 of a message's sender
abbrev pub party_questions : Family → ℕ → ℕ → Fields → List Question
party_questions family k n f =
    (within 1 n f.group else 8)
    ∷ (within 1 (k + 1) f.process else 9)
    ∷ sender_questions family k f

-- what it carries: 10, then document 02's 21 and 22 in the place of document 01's 11
abbrev pub content_questions : Family → Fields → List Question
content_questions family f =
    (allows_variable f else 10)
    ∷ (spares_zero family f else 21)
    ∷ (allows_value f else 22)
    ∷ []

-- 7, 8, 9, 5 of a message's sender, 10, 21 and 22
unfoldable pub field_questions : Family → ℕ → ℕ → Fields → List Question
field_questions family k n f = (is_of family f.kind else 7) ∷ (party_questions family k n f ++ content_questions family f)

-- ── reading and writing, of fields ──

-- reading: 1 and 2, the length, then those of the fields
abbrev pub read_questions : Family → ℕ → ℕ → List ℕ → List Question
read_questions family k n bytes =
    unit_questions k n ++ ((eqb (length bytes) record_size else 6) ∷ field_questions family k n (fields_of bytes))

unfoldable pub read_fields : Family → ℕ → ℕ → List ℕ → Answer Fields
read_fields family k n bytes = ask (read_questions family k n bytes) (given (fields_of bytes))

-- writing: 1 and 2, those of the fields, then the room; it gives the destination, changed in its first 24 bytes
abbrev pub write_questions : Family → ℕ → ℕ → Fields → ℕ → List Question
write_questions family k n f room = unit_questions k n ++ (field_questions family k n f ++ ((leb record_size room else 15) ∷ []))

unfoldable pub write_fields : Family → ℕ → ℕ → Fields → List ℕ → Answer (List ℕ)
write_fields family k n f destination =
    ask (write_questions family k n f (length destination)) (given (bytes_of f ++ drop record_size destination))

-- ── requests ──

abbrev pub request_in : Fields → Request
request_in f = record { kind = f.kind; group = f.group; process = f.process; variable = f.variable; timestamp = f.timestamp; value = f.value }

abbrev pub request_fields : Request → Fields
request_fields r = record {
  kind = r.kind;
  group = r.group;
  process = r.process;
  replica = 0;
  variable = r.variable;
  spare6 = 0;
  timestamp = r.timestamp;
  value = r.value;
  spare20 = 0;
}

abbrev pub read_request : ℕ → ℕ → List ℕ → Answer Request
read_request k n bytes = map_answer request_in (read_fields Requests k n bytes)

abbrev pub write_request : ℕ → ℕ → Request → List ℕ → Answer (List ℕ)
write_request k n r destination = write_fields Requests k n (request_fields r) destination

-- no request: what stands where there is none
abbrev pub blank_request : Request
blank_request = record { kind = 0; group = 0; process = 0; variable = 0; timestamp = record { 0 = 0 }; value = 0 }

-- ── messages ──

abbrev pub message_in : Fields → Message
message_in f = record {
  kind = f.kind;
  group = f.group;
  process = f.process;
  replica = f.replica;
  variable = f.variable;
  timestamp = f.timestamp;
  value = f.value;
}

abbrev pub message_fields : Message → Fields
message_fields m = record {
  kind = m.kind;
  group = m.group;
  process = m.process;
  replica = m.replica;
  variable = m.variable;
  spare6 = 0;
  timestamp = m.timestamp;
  value = m.value;
  spare20 = 0;
}

abbrev pub read_message : ℕ → ℕ → List ℕ → Answer Message
read_message k n bytes = map_answer message_in (read_fields Messages k n bytes)

abbrev pub write_message : ℕ → ℕ → Message → List ℕ → Answer (List ℕ)
write_message k n m destination = write_fields Messages k n (message_fields m) destination

-- the message passes the message questions
abbrev pub passes : ℕ → ℕ → Message → Bool
passes k n m = all_yes (field_questions Messages k n (message_fields m))

-- no message: what stands where there is none
abbrev pub blank_message : Message
blank_message = record { kind = 0; group = 0; process = 0; replica = 0; variable = 0; timestamp = record { 0 = 0 }; value = 0 }
