-- The round trips: what is written is read back, and accepted bytes are the only form of what they say.
-- Assumes nothing.
use Prim.Native.Nat.{ℕ, ◌+◌, ◌^◌, ◌≤◌, ◌<◌}
use mathlib.Core.Path.{◌≡◌, refl, sym, ap, ◌∙◌}
use mathlib.Core.List.{List, ◌++◌}
use lib.ListN.{length, take, drop}
use lib.Seq.{take_at}
use borrow.Author.Tests.{eqb-true}
use native.Mathlib.Omega.{arith}
use Rattle.limits.specs.Limits.{record_size}
use Rattle.question.specs.Question.{Answer, given, map_answer, unit_questions}
use Rattle.question.proofs.Questions.{AllYes, same_given, bind-given}
use Rattle.question.proofs.Tests.{within-true, unit_facts}
use Rattle.layout.specs.Number.{Bytes}
use Rattle.layout.specs.Layout.{fields_of, bytes_of}
use Rattle.record.specs.Kind.{family_number, family_of}
use Rattle.record.specs.Record.{read_fields, write_fields}
use Rattle.record.specs.Record.{request_in, request_fields, read_request, write_request}
use Rattle.record.specs.Record.{message_in, message_fields, read_message, write_message}
use Rattle.layout.specs.declared.fields.Fields.{Fields}
use Rattle.record.specs.declared.kind.Family.{Family}
use Rattle.record.specs.declared.kind.Family.TheVariants.{Requests, Messages, Neither}
use Rattle.record.specs.declared.request.Request.{Request}
use Rattle.record.specs.declared.message.Message.{Message}
use Rattle.record.proofs.Rows.{kind-small}
use Rattle.record.proofs.Facts.{FieldFacts, variable-small, spare6-zero, spare20-zero, no_sender, message-sender}
use Rattle.layout.proofs.Layouts.{InRange, length-bytes_of, fields_of-bytes, bytes_of-fields}
use Rattle.record.proofs.Reading.{Readable, Writable, read-given, read_readable, read_is, write-given, write_writable}

-- ── of fields, for either family ──

-- a sender is of the unit, or there is none
sender-small : (family : Family) (k n : ℕ) (f : Fields) → k ≤ 3 → FieldFacts family k n f → f.replica ≤ 7
sender-small Messages k n f k-high h = omega (arith, message-sender h)
sender-small Requests k n f k-high h = omega (arith, no_sender h refl)
sender-small Neither k n f k-high h = omega (arith, no_sender h refl)

-- what the questions let through is in range; the timestamp and the value may be any of their type
in_range : (family : Family) (k n : ℕ) (f : Fields) → 1 ≤ family_number family → f.timestamp.0 < 256 ^ 8 → f.value < 256 ^ 4 →
    AllYes (unit_questions k n) → FieldFacts family k n f → InRange f
in_range family k n f of timestamp value unit h =
    let u = unit_facts k n unit in
    let same = eqb-true (family_number (family_of f.kind)) (family_number family) h.kind in
    let kind = kind-small f.kind (omega arith) in
    let group = within-true 1 n f.group h.group in
    let process = within-true 1 (k + 1) f.process h.process in
    let replica = sender-small family k n f u.k-high h in
    let variable = variable-small h in
    let spare6 = spare6-zero h in
    let spare20 = spare20-zero h in
    record {
      kind = omega arith;
      group = omega (arith, u.n-high);
      process = omega (arith, u.k-high);
      replica = omega arith;
      variable = omega arith;
      spare6 = omega arith;
      timestamp = timestamp;
      value = value;
      spare20 = omega arith;
    }

module _ (family : Family) (k n : ℕ) where
  read-written : (f : Fields) (destination bytes : List ℕ) → 1 ≤ family_number family → f.timestamp.0 < 256 ^ 8 → f.value < 256 ^ 4 →
      write_fields family k n f destination ≡ given bytes → read_fields family k n (take record_size bytes) ≡ given f
  read-written f destination bytes of timestamp value e =
      let asked = write_writable family k n f destination e in
      let written : bytes_of f ++ drop record_size destination ≡ bytes = same_given (sym (write-given family k n asked) ∙ e) in
      let start : take record_size bytes ≡ bytes_of f =
      rw (← written) (take_at (bytes_of f) (drop record_size destination) record_size (length-bytes_of f)) in
      let back : fields_of (bytes_of f) ≡ f = fields_of-bytes f (in_range family k n f of timestamp value asked.unit asked.fields) in
      let readable : Readable family k n (bytes_of f) =
      record { unit = asked.unit; long = length-bytes_of f; fields = rw back asked.fields } in
      rw start (read-given family k n readable ∙ ap given back)

  bytes_read : (bytes : List ℕ) (f : Fields) → Bytes bytes → read_fields family k n bytes ≡ given f → bytes_of f ≡ bytes
  bytes_read bytes f h e =
      ap bytes_of (sym (read_is family k n bytes e)) ∙ bytes_of-fields bytes h (read_readable family k n bytes e).long

  written_read : (bytes destination : List ℕ) (f : Fields) → Bytes bytes → read_fields family k n bytes ≡ given f → record_size ≤ length destination →
      write_fields family k n f destination ≡ given (bytes ++ drop record_size destination)
  written_read bytes destination f h e room =
      let asked = read_readable family k n bytes e in
      let writable : Writable family k n f destination =
      record { unit = asked.unit; fields = rw (read_is family k n bytes e) at asked.fields; room = room } in
      rw (← bytes_read bytes f h e) (write-given family k n writable)

-- ── of a type that stands for the fields of one family ──

module _ {A : Type 0} (family : Family) (k n : ℕ) (of : Fields → A) (into : A → Fields)
    (whole : (f : Fields) → FieldFacts family k n f → into (of f) ≡ f) where
  abbrev read_as : List ℕ → Answer A
  read_as bytes = map_answer of (read_fields family k n bytes)

  -- the fields that were read are those of what was read
  fields_read : (bytes : List ℕ) (a : A) → read_as bytes ≡ given a → read_fields family k n bytes ≡ given (into a)
  fields_read bytes a e =
      let read = bind-given (read_fields family k n bytes) (λ f. given (of f)) e in
      let facts = rw (read_is family k n bytes read.1) at (read_readable family k n bytes read.1).fields in
      read.1 ∙ ap given (sym (whole read.0 facts) ∙ ap into (same_given read.2))

  -- bytes that are read are what is written of it
  written_read_as : (bytes destination : List ℕ) (a : A) → Bytes bytes → read_as bytes ≡ given a → record_size ≤ length destination →
      write_fields family k n (into a) destination ≡ given (bytes ++ drop record_size destination)
  written_read_as bytes destination a h e room = written_read family k n bytes destination (into a) h (fields_read bytes a e) room

  -- nothing has two forms in bytes
  form_unique : (bytes others : List ℕ) (a : A) → Bytes bytes → Bytes others → read_as bytes ≡ given a → read_as others ≡ given a → bytes ≡ others
  form_unique bytes others a h g e f =
      sym (bytes_read family k n bytes (into a) h (fields_read bytes a e)) ∙ bytes_read family k n others (into a) g (fields_read others a f)

-- ── requests ──

-- the questions leave nothing in the fields that a request has not
request-whole : (k n : ℕ) (f : Fields) → FieldFacts Requests k n f → request_fields (request_in f) ≡ f
request-whole k n f h = rw (no_sender h refl, spare6-zero h, spare20-zero h)

-- a written request is read back: the two ranges are those of u64 and u32, and the questions give all others
pub read-written-request : (k n : ℕ) (r : Request) (destination bytes : List ℕ) → r.timestamp.0 < 256 ^ 8 → r.value < 256 ^ 4 →
    write_request k n r destination ≡ given bytes → read_request k n (take record_size bytes) ≡ given r
read-written-request k n r destination bytes timestamp value e =
    ap (map_answer request_in) (read-written Requests k n (request_fields r) destination bytes (omega arith) timestamp value e)

-- bytes that are read as a request are what is written of it
pub written_read-request : (k n : ℕ) (bytes destination : List ℕ) (r : Request) → Bytes bytes → read_request k n bytes ≡ given r →
    record_size ≤ length destination → write_request k n r destination ≡ given (bytes ++ drop record_size destination)
written_read-request k n = written_read_as Requests k n request_in request_fields (request-whole k n)

-- no request has two forms in bytes
pub request_form_unique : (k n : ℕ) (bytes others : List ℕ) (r : Request) → Bytes bytes → Bytes others →
    read_request k n bytes ≡ given r → read_request k n others ≡ given r → bytes ≡ others
request_form_unique k n = form_unique Requests k n request_in request_fields (request-whole k n)

-- ── messages ──

message-whole : (k n : ℕ) (f : Fields) → FieldFacts Messages k n f → message_fields (message_in f) ≡ f
message-whole k n f h = rw (spare6-zero h, spare20-zero h)

pub read-written-message : (k n : ℕ) (m : Message) (destination bytes : List ℕ) → m.timestamp.0 < 256 ^ 8 → m.value < 256 ^ 4 →
    write_message k n m destination ≡ given bytes → read_message k n (take record_size bytes) ≡ given m
read-written-message k n m destination bytes timestamp value e =
    ap (map_answer message_in) (read-written Messages k n (message_fields m) destination bytes (omega arith) timestamp value e)

pub written_read-message : (k n : ℕ) (bytes destination : List ℕ) (m : Message) → Bytes bytes → read_message k n bytes ≡ given m →
    record_size ≤ length destination → write_message k n m destination ≡ given (bytes ++ drop record_size destination)
written_read-message k n = written_read_as Messages k n message_in message_fields (message-whole k n)

pub message_form_unique : (k n : ℕ) (bytes others : List ℕ) (m : Message) → Bytes bytes → Bytes others →
    read_message k n bytes ≡ given m → read_message k n others ≡ given m → bytes ≡ others
message_form_unique k n = form_unique Messages k n message_in message_fields (message-whole k n)
