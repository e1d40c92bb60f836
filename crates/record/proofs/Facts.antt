-- What the questions of a record's fields say where each is answered yes, by name. Assumes nothing.
use Prim.Native.Nat.{ℕ, ◌+◌, ◌*◌, ◌≤◌}
use mathlib.Core.Path.{◌≡◌}
use mathlib.Core.Bool.{Bool, true, false, ◌&&◌, ◌||◌}
use lib.Dec.{eqb}
use borrow.Author.Tests.{eqb-true}
use native.Mathlib.Omega.{arith}
use Rattle.question.specs.Question.{within}
use Rattle.question.proofs.Questions.{AllYes, all_yes_parts, all_yes_both}
use Rattle.question.proofs.Tests.{both, other, within-true}
use Rattle.record.specs.Kind.{write, is_of, row_of}
use Rattle.record.specs.Record.{has_sender, sender_questions, allows_variable, spares_zero, allows_value, content_questions, field_questions, request_fields, message_fields}
use Rattle.layout.specs.declared.fields.Fields.{Fields}
use Rattle.record.specs.declared.kind.Family.{Family}
use Rattle.record.specs.declared.kind.Family.TheVariants.{Requests, Messages}
use Rattle.record.specs.declared.request.Request.{Request}
use Rattle.record.specs.declared.message.Message.{Message}
use Rattle.record.proofs.Rows.{greatest_small, bytes6_spare, bytes20_spare}

pub record FieldFacts (family : Family) (k n : ℕ) (f : Fields) : Type 0 where
  pub kind : is_of family f.kind ≡ true
  pub group : within 1 n f.group ≡ true
  pub process : within 1 (k + 1) f.process ≡ true
  pub sender : AllYes (sender_questions family k f)
  pub variable : allows_variable f ≡ true
  pub spares : spares_zero family f ≡ true
  pub value : allows_value f ≡ true

module _ (family : Family) (k n : ℕ) (f : Fields) where
  pub field_facts : AllYes (field_questions family k n f) → FieldFacts family k n f
  unfolding field_questions
  field_facts all =
      let parts = all_yes_parts (sender_questions family k f) (content_questions family f) all.1.1.1 in
      record {
        kind = all.0;
        group = all.1.0;
        process = all.1.1.0;
        sender = parts.0;
        variable = parts.1.0;
        spares = parts.1.1.0;
        value = parts.1.1.1.0;
      }

  pub facts_asked : FieldFacts family k n f → AllYes (field_questions family k n f)
  unfolding field_questions
  facts_asked h =
      let last : AllYes (content_questions family f) = (h.variable, (h.spares, (h.value, tt))) in
      (h.kind, (h.group, (h.process, all_yes_both (sender_questions family k f) (content_questions family f) h.sender last)))

-- ── what follows from them ──

module _ {family : Family} {k n : ℕ} {f : Fields} (h : FieldFacts family k n f) where
  pub variable-small : f.variable ≤ 255
  variable-small = omega (arith, within-true (row_of f.kind).least (row_of f.kind).greatest f.variable h.variable, greatest_small f.kind)

  -- a write is not to variable 0
  pub write-variable : f.kind ≡ write → 1 ≤ f.variable
  write-variable e = rw e at (within-true (row_of f.kind).least (row_of f.kind).greatest f.variable h.variable).0

  -- a test of the spare bytes, of which the first part says whether something stands there
  zero_where : (stands : Bool) (x : ℕ) → (stands || eqb x 0) ≡ true → stands ≡ false → x ≡ 0
  zero_where stands x e none = eqb-true x 0 (other stands (eqb x 0) e none)

  abbrev sender6 : Bool
  sender6 = (has_sender family || eqb f.replica 0) && ((row_of f.kind).bytes6 || eqb f.spare6 0)

  pub spare20-zero : f.spare20 ≡ 0
  spare20-zero =
      zero_where (row_of f.kind).bytes20 f.spare20 (both sender6 ((row_of f.kind).bytes20 || eqb f.spare20 0) h.spares).1 (bytes20_spare f.kind)

  first_two : (has_sender family || eqb f.replica 0 ≡ true) × ((row_of f.kind).bytes6 || eqb f.spare6 0 ≡ true)
  first_two =
      both (has_sender family || eqb f.replica 0) ((row_of f.kind).bytes6 || eqb f.spare6 0)
      (both sender6 ((row_of f.kind).bytes20 || eqb f.spare20 0) h.spares).0

  pub spare6-zero : f.spare6 ≡ 0
  spare6-zero = zero_where (row_of f.kind).bytes6 f.spare6 first_two.1 (bytes6_spare f.kind)

  pub no_sender : has_sender family ≡ false → f.replica ≡ 0
  no_sender e = zero_where (has_sender family) f.replica first_two.0 e

-- ── what is written: its spare bytes are zero, whatever it is ──

pub request-spares : (r : Request) → spares_zero Requests (request_fields r) ≡ true
request-spares r = rw (bytes6_spare r.kind, bytes20_spare r.kind)

pub message-spares : (m : Message) → spares_zero Messages (message_fields m) ≡ true
message-spares m = rw (bytes6_spare m.kind, bytes20_spare m.kind)

-- a message's sender is a replica of the unit
pub message-sender : {k n : ℕ} {f : Fields} → FieldFacts Messages k n f → (1 ≤ f.replica) × (f.replica ≤ 2 * k + 1)
message-sender {k} {n} {f} h = within-true 1 (2 * k + 1) f.replica h.sender.0
