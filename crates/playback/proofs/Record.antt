-- One record after the setup: its replica is the unit's, and what it prints. Assumes nothing.
use Prim.Native.Nat.{ℕ, ◌+◌, ◌*◌, ◌≤◌}
use mathlib.Core.Path.{◌≡◌, refl}
use mathlib.Core.List.{List, []}
use lib.Dec.{eqb}
use Rattle.question.specs.Question.{Answer, given, refused, worked, after, verdict, map_answer}
use Rattle.question.proofs.Questions.{ask-all_yes, ask_through, same_given}
use Rattle.question.proofs.Tests.{case, within-true}
use Rattle.rules.specs.declared.Settings.{Settings}
use Rattle.rules.specs.Replica.{State, Stepped}
use Rattle.rules.specs.Run.{messages_in}
use Rattle.entry.specs.Entry.{Entry, kind_of, replica_of, entry_in, entry_questions, read_entry}
use Rattle.lines.specs.Lines.{refusal_line, answer_lines}
use Rattle.transcript.specs.Journal.{replica_for, lines_of}

-- ── the replica ──

pub entry_there : (k : ℕ) (bytes : List ℕ) {e : Entry} → read_entry k bytes ≡ given e → (1 ≤ replica_for e) × (replica_for e ≤ 2 * k + 1)
unfolding read_entry
entry_there k bytes {e} read =
    let asked = ask-all_yes (entry_questions k bytes) (given (entry_in bytes)) read in
    let there = within-true 1 (2 * k + 1) (replica_of bytes) asked.1.1.0 in
    let same : entry_in bytes ≡ e = same_given (ask_through (entry_questions k bytes) (given (entry_in bytes)) read) in
    let named : replica_for (entry_in bytes) ≡ replica_of bytes = case (eqb (kind_of bytes) 2) (λ d. rw d) (λ d. rw d) in
    rw (← same, named) there

-- ── what is left, and what is printed ──

-- a delivery sends nothing
abbrev sent_nothing : List ℕ → Answer State → Answer Stepped
sent_nothing output answer = map_answer (λ t. record { state = t; count = 0; output = output }) answer

pub state-delivered : (s : State) (output : List ℕ) (answer : Answer State) →
    after s answer ≡ after s (map_answer (λ d. d.state) (sent_nothing output answer))
state-delivered s output (given t) = refl
state-delivered s output (refused number) = refl

-- so it prints nothing, or its refusal
pub done-text : (u : Settings) (place : ℕ) (output : List ℕ) (answer : Answer State) → given worked ≡ verdict answer
    → lines_of u place (sent_nothing output answer) ≡ []
unfolding messages_in
done-text u place output (given t) e = refl
done-text u place output (refused number) e = cc

pub refused-text : (u : Settings) (place : ℕ) (output : List ℕ) (answer : Answer State) {number : ℕ} → refused number ≡ verdict answer
    → refusal_line place number ≡ lines_of u place (sent_nothing output answer)
refused-text u place output (given t) e = cc
refused-text u place output (refused other) {number} e = cc

-- what the answer and the records of a step print is what the journal's definition prints of it
pub stepped-text : (u : Settings) (place : ℕ) (output : List ℕ) (answer : Answer Stepped) →
    answer_lines u.k u.groups place (map_answer (λ d. d.count) answer) (after output (map_answer (λ d. d.output) answer))
    ≡ lines_of u place answer
stepped-text u place output (given d) = refl
stepped-text u place output (refused number) = refl
