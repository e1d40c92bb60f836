-- Laws of reading and writing fields: a record is read or written where every question is answered yes. Assumes nothing.
use Prim.Native.Nat.{ℕ, ◌≤◌}
use mathlib.Core.Path.{◌≡◌, sym, ap, ◌∙◌}
use mathlib.Core.List.{List, [], ◌∷◌, ◌++◌, append_assoc}
use lib.Dec.{eqb, leb}
use lib.ListN.{length, drop}
use borrow.Author.Tests.{eqb-true, eq-eqb, leb-true, le-leb}
use Rattle.limits.specs.Limits.{record_size}
use Rattle.question.specs.Question.{Question, ◌else◌, Answer, given, refused, Worked, worked, ask, map_answer, next, after, verdict, unit_questions}
use Rattle.question.specs.Refusals.{number_of, answer_of}
use Rattle.question.specs.declared.refusal.Refusal.{Refusal}
use Rattle.std.specs.Prelude.{⊤, Result, Ok, Err}
use Rattle.question.proofs.Questions.{AllYes, all_yes_parts, all_yes_both, ask_chain, ask_yes, ask-all_yes, ask-map, ask-verdict, next_asked, same_given}
use Rattle.layout.specs.Layout.{fields_of, fields_in, bytes_of}
use Rattle.layout.proofs.Layouts.{fields_in_lem}
use Rattle.record.specs.Record.{field_questions, read_questions, read_fields, write_questions, write_fields}
use Rattle.layout.specs.declared.fields.Fields.{Fields}
use Rattle.record.specs.declared.kind.Family.{Family}
use Rattle.record.proofs.Facts.{FieldFacts, field_facts, facts_asked}

-- question 6
abbrev length_question : List ℕ → List Question
length_question bytes = (eqb (length bytes) record_size else 6) ∷ []

-- question 15
abbrev pub room_question : ℕ → List Question
room_question room = (leb record_size room else 15) ∷ []

module _ (family : Family) (k n : ℕ) where
  -- ── as the code goes: the first questions by themselves, then the rest ──

  module _ (bytes : List ℕ) (o : Result ⊤ Refusal) (asked : answer_of o ≡ ask (unit_questions k n ++ length_question bytes) (given worked)) where
    -- bytes that pass questions 1, 2 and 6 are 24
    read_length : o ≡ Ok tt → length bytes ≡ record_size
    read_length e =
        let first = unit_questions k n ++ length_question bytes in
        let parts = all_yes_parts (unit_questions k n) (length_question bytes) (ask-all_yes first (given worked) (sym asked ∙ ap answer_of e)) in
        eqb-true (length bytes) record_size parts.1.0

    -- then come those of the fields, and something is made of them
    module _ {A : Type 0} (of : Fields → A) where
      read_next : next (answer_of o) (ask (field_questions family k n (fields_of bytes)) (given (of (fields_of bytes)))) ≡ map_answer of (read_fields family k n bytes)
      unfolding read_fields
      read_next = rw (asked, ← ask-map (read_questions family k n bytes) of (fields_of bytes)) (simp (ask_chain, append_assoc))

      pub read-refused : {refusal : Refusal} → o ≡ Err refusal → refused (number_of refusal) ≡ map_answer of (read_fields family k n bytes)
      read-refused e = rw e at read_next

      pub read_decided : o ≡ Ok tt → {f : Fields} → f ≡ fields_in bytes → {later : Answer Worked} →
          later ≡ ask (field_questions family k n f) (given worked) →
          next later (given (of f)) ≡ map_answer of (read_fields family k n bytes)
      read_decided e {f} read {later} fields =
          let is = read ∙ fields_in_lem bytes (read_length e) in
          rw is (next_asked (field_questions family k n (fields_of bytes)) (given (of (fields_of bytes))) later (rw is at fields) ∙ (rw e at read_next))

  module _ (f : Fields) (destination : List ℕ) (alone : Answer Worked)
      (asked : alone ≡ ask (write_questions family k n f (length destination)) (given worked)) where
    -- a destination that passes question 15 has room
    pub write-room : alone ≡ given worked → record_size ≤ length destination
    write-room e =
        let fields = field_questions family k n f in
        let all = ask-all_yes (write_questions family k n f (length destination)) (given worked) (sym asked ∙ e) in
        let later = (all_yes_parts (unit_questions k n) (fields ++ room_question (length destination)) all).1 in
        leb-true record_size (length destination) (all_yes_parts fields (room_question (length destination)) later).1.0

    -- the questions decide both the answer and what is written, of fields by any name
    pub write_decided : {named : Fields} → f ≡ named → {content : List ℕ} →
        content ≡ after destination (next alone (given (bytes_of f ++ drop record_size destination))) →
        (alone ≡ verdict (write_fields family k n named destination)) × (content ≡ after destination (write_fields family k n named destination))
    unfolding write_fields
    write_decided is c =
        let questions = write_questions family k n f (length destination) in
        let written = bytes_of f ++ drop record_size destination in
        rw (sym is) (
          asked ∙ sym (ask-verdict questions written),
          rw (next_asked questions (given written) alone asked) at c,
        )

  -- ── what reading asks is answered yes ──

  pub record Readable (bytes : List ℕ) : Type 0 where
    pub unit : AllYes (unit_questions k n)
    pub long : length bytes ≡ record_size
    pub fields : FieldFacts family k n (fields_of bytes)

  pub read-given : {bytes : List ℕ} → Readable bytes → read_fields family k n bytes ≡ given (fields_of bytes)
  unfolding read_fields
  read-given {bytes} h =
      ask_yes (read_questions family k n bytes) (given (fields_of bytes))
      (all_yes_both (unit_questions k n) _ h.unit (eq-eqb (length bytes) record_size h.long, facts_asked family k n (fields_of bytes) h.fields))

  pub read_readable : (bytes : List ℕ) {f : Fields} → read_fields family k n bytes ≡ given f → Readable bytes
  unfolding read_fields
  read_readable bytes e =
      let all = ask-all_yes (read_questions family k n bytes) (given (fields_of bytes)) e in
      let fields = field_questions family k n (fields_of bytes) in
      let parts = all_yes_parts (unit_questions k n) ((eqb (length bytes) record_size else 6) ∷ fields) all in
      record {
        unit = parts.0;
        long = eqb-true (length bytes) record_size parts.1.0;
        fields = field_facts family k n (fields_of bytes) parts.1.1;
      }

  -- what is given are the fields
  pub read_is : (bytes : List ℕ) {f : Fields} → read_fields family k n bytes ≡ given f → fields_of bytes ≡ f
  read_is bytes e = same_given (sym (read-given (read_readable bytes e)) ∙ e)

  -- ── what writing asks is answered yes ──

  pub record Writable (f : Fields) (destination : List ℕ) : Type 0 where
    pub unit : AllYes (unit_questions k n)
    pub fields : FieldFacts family k n f
    pub room : record_size ≤ length destination

  pub write-given : {f : Fields} {destination : List ℕ} →
      Writable f destination → write_fields family k n f destination ≡ given (bytes_of f ++ drop record_size destination)
  unfolding write_fields
  write-given {f} {destination} h =
      ask_yes (write_questions family k n f (length destination)) _
      (all_yes_both (unit_questions k n) _ h.unit
      (all_yes_both (field_questions family k n f) _ (facts_asked family k n f h.fields) (le-leb record_size (length destination) h.room, tt)))

  pub write_writable : (f : Fields) (destination : List ℕ) {bytes : List ℕ} →
      write_fields family k n f destination ≡ given bytes → Writable f destination
  unfolding write_fields
  write_writable f destination e =
      let fields = field_questions family k n f in
      let all = ask-all_yes (write_questions family k n f (length destination)) (given (bytes_of f ++ drop record_size destination)) e in
      let parts = all_yes_parts (unit_questions k n) (fields ++ room_question (length destination)) all in
      let later = all_yes_parts fields (room_question (length destination)) parts.1 in
      record {
        unit = parts.0;
        fields = field_facts family k n f later.0;
        room = leb-true record_size (length destination) later.1.0;
      }
