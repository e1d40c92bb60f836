-- What the tests of a message say, by name: that it answers a query, that it is a halt for a process, that it passes the questions.
use Prim.Native.Nat.{ℕ}
use mathlib.Core.Path.{◌≡◌, refl, ◌∙◌, ap}
use mathlib.Core.Bool.{true, ◌&&◌}
use lib.Dec.{eqb}
use borrow.Author.Tests.{eqb-true, eq-eqb}
use Rattle.question.specs.Question.{given, is_given, worked}
use Rattle.record.specs.Kind.{reply, halt}
use Rattle.record.specs.Record.{message_fields, field_questions, passes}
use Rattle.layout.specs.declared.clock.Timestamp.{Timestamp}
use Rattle.record.specs.declared.kind.Family.TheVariants.{Messages}
use Rattle.record.specs.declared.message.Message.{Message}
use Rattle.rules.specs.Batch.{halt_to}
use Rattle.rules.specs.Vote.{answers, halts_for}
use Rattle.rules.specs.declared.Query.{Query}
use Rattle.question.proofs.Questions.{ask_yes, all_yes-given}
use Rattle.question.proofs.Tests.{both}
use Rattle.record.proofs.Facts.{FieldFacts, facts_asked}

pub record AnswerFacts (q : Query) (m : Message) : Type 0 where
  pub kind : m.kind ≡ reply
  pub group : m.group ≡ q.group
  pub process : m.process ≡ q.process
  pub variable : m.variable ≡ q.variable
  pub timestamp : m.timestamp.0 ≡ q.timestamp.0

pub answer_facts : (q : Query) (m : Message) → answers q m ≡ true → AnswerFacts q m
answer_facts q m e =
    let a = eqb m.kind reply in
    let b = eqb m.group q.group in
    let c = eqb m.process q.process in
    let d = eqb m.variable q.variable in
    let e₄ = both (a && b && c && d) (eqb m.timestamp.0 q.timestamp.0) e in
    let e₃ = both (a && b && c) d e₄.0 in
    let e₂ = both (a && b) c e₃.0 in
    let e₁ = both a b e₂.0 in
    record {
      kind = eqb-true m.kind reply e₁.0;
      group = eqb-true m.group q.group e₁.1;
      process = eqb-true m.process q.process e₂.1;
      variable = eqb-true m.variable q.variable e₃.1;
      timestamp = eqb-true m.timestamp.0 q.timestamp.0 e₄.1;
    }

pub record HaltFacts (g p : ℕ) (m : Message) : Type 0 where
  pub kind : m.kind ≡ halt
  pub group : m.group ≡ g
  pub process : m.process ≡ p

pub halt_facts : (group process : ℕ) (m : Message) → halts_for group process m ≡ true → HaltFacts group process m
halt_facts group process m e =
    let a = both (eqb m.kind halt && eqb m.group group) (eqb m.process process) e in
    let b = both (eqb m.kind halt) (eqb m.group group) a.0 in
    record { kind = eqb-true m.kind halt b.0; group = eqb-true m.group group b.1; process = eqb-true m.process process a.1 }

-- a halt is one for its group and its process
pub halt_matches : (group replica : ℕ) (t : Timestamp) (process : ℕ) → halts_for group process (halt_to group replica t process) ≡ true
halt_matches group replica t process = rw (eq-eqb group group refl, eq-eqb process process refl)

-- a message of which each question's fact holds passes
pub facts_pass : {k n : ℕ} {m : Message} → FieldFacts Messages k n (message_fields m) → passes k n m ≡ true
facts_pass {k} {n} {m} h =
    let questions = field_questions Messages k n (message_fields m) in
    all_yes-given questions worked ∙ ap is_given (ask_yes questions (given worked) (facts_asked Messages k n (message_fields m) h))
