-- The numbers that the code refuses make, deliver, step, vote and count_halts with are document 01's, whatever it is given:
-- crates/rules/specs/Numbers.antt has a list for each call. Reading and writing a record give the rules' own answers. Number 11, which
-- document 02's A5 replaces by 21 and 22, is in no call's list.
use Prim.Native.Nat.{ℕ}
use mathlib.Core.Path.{◌≡◌, refl, sym, ap, ◌∙◌}
use mathlib.Core.Bool.{true}
use mathlib.Core.List.{List, Memᴰ}
use native.Mathlib.Omega.{arith}
use Rattle.question.specs.Question.{Answer, given, refused, map_answer, verdict, Never}
use Rattle.std.specs.Prelude.{Result, Err}
use Rattle.question.specs.Refusals.{number_of, answer_of}
use Rattle.question.specs.declared.refusal.Refusal.{Refusal}
use Rattle.layout.specs.declared.clock.LocalTime.{LocalTime}
use Rattle.record.specs.Record.{read_request, read_message, write_request, write_message}
use Rattle.record.specs.declared.message.Message.{Message}
use Rattle.record.specs.declared.request.Request.{Request}
use Rattle.rules.specs.Replica.{State, make, deliver, step}
use Rattle.rules.specs.Vote.{vote, halt_count}
use Rattle.rules.specs.Numbers.{make_numbers, read_request_numbers, read_message_numbers, write_request_numbers, write_message_numbers, deliver_numbers, step_numbers, vote_numbers, halt_count_numbers, lacks}
use Rattle.rules.specs.declared.Query.{Query}
use Rattle.rules.specs.declared.Settings.{Settings}
use Rattle.rules.proofs.Numbers.{make_numbers_lem, read_request_numbers_lem, read_message_numbers_lem, write_request_numbers_lem, write_message_numbers_lem, deliver_numbers_lem, step_numbers_lem, vote_numbers_lem, halt_count_numbers_lem}
use Rattle.laws.proofs.Numbers.{listed_never}
use Rattle.state.specs.State.{state_of}
use Rattle.state.specs.declared.state.Replica.{Replica}
use Rattle.rules.specs.declared.Election.{Election}
use Rattle.rules.specs.declared.HaltCount.{HaltCount}
use Rattle.delivery.specs.declared.delivery.Delivered.{Delivered}
use Rattle.state.proofs.Called.{Makes, makes_mean}
use Rattle.delivery.proofs.Called.{Delivers, delivers_mean}
use Rattle.step.specs.declared.stepping.Stepped.{Stepped}
use Rattle.step.proofs.Called.{Steps, steps_mean}
use Rattle.vote.proofs.Called.{Votes, Counts}
use Rattle.entry.specs.Entry.{Entry, delivery, turn, read_setup, read_entry}
use Rattle.entry.specs.Numbers.{setup_numbers, entry_numbers, call_numbers}
use Rattle.entry.proofs.Numbers.{setup_numbers_lem, entry_numbers_lem}
use Rattle.transcript.specs.Journal.{play_entry}
use Rattle.transcript.proofs.Numbers.{play_numbers}

-- an answer that is a refusal, whatever else is made of what it gives
refused_so : {A B : Type 0} (f : A → B) (a : Answer A) {n : ℕ} → refused n ≡ map_answer f a → a ≡ refused n
refused_so f (given x) e = absurd (let z : ◌≡◌ {A = ℕ} 0 1 = cc in omega arith)
refused_so f (refused m) {n} e = let i : m ≡ n = cc in rw i

verdict_so : {A : Type 0} (a : Answer A) {n : ℕ} → refused n ≡ verdict a → a ≡ refused n
verdict_so (given x) e = absurd (let z : ◌≡◌ {A = ℕ} 0 1 = cc in omega arith)
verdict_so (refused m) {n} e = let i : m ≡ n = cc in rw i

module _ (refusal : Refusal) where
  pub code_make_numbers : {u : Settings} {number : ℕ} {made : Result Replica Refusal} → Makes u number made
      → made ≡ Err refusal → Memᴰ (number_of refusal) make_numbers
  code_make_numbers {u} {number} c e =
      make_numbers_lem u number (number_of refusal)
      (sym (ap (λ (r : Result Replica Refusal). map_answer state_of (answer_of r)) (sym e) ∙ makes_mean c))

  pub code_deliver_numbers : {r : Replica} {bytes : List ℕ} {at : LocalTime} {d : Delivered} → Delivers r bytes at d
      → d.outcome ≡ Err refusal → Memᴰ (number_of refusal) deliver_numbers
  code_deliver_numbers {r} {bytes} {at} c e =
      deliver_numbers_lem (state_of r) bytes at (number_of refusal) (verdict_so (deliver (state_of r) bytes at) (ap answer_of (sym e) ∙ (delivers_mean c).answer))

  pub code_step_numbers : {r : Replica} {at : LocalTime} {output output' : List ℕ} {s : Stepped} → Steps r at output s output'
      → s.answer ≡ Err refusal → Memᴰ (number_of refusal) step_numbers
  code_step_numbers {r} {at} {output} c e =
      step_numbers_lem (state_of r) at output (number_of refusal) (refused_so (λ d. d.count) (step (state_of r) at output) (ap answer_of (sym e) ∙ (steps_mean c).answer))

  pub code_vote_numbers : (k groups : ℕ) (q : Query) (list : List Message) {answer : Result Election Refusal} → Votes k groups q list answer
      → answer ≡ Err refusal → Memᴰ (number_of refusal) vote_numbers
  code_vote_numbers k groups q list c e = vote_numbers_lem k groups q list (number_of refusal) (sym (ap answer_of (sym e) ∙ c))

  pub code_halt_count_numbers : (k groups group process : ℕ) (list : List Message) {answer : Result HaltCount Refusal} → Counts k groups group process list answer
      → answer ≡ Err refusal → Memᴰ (number_of refusal) halt_count_numbers
  code_halt_count_numbers k groups group process list c e = halt_count_numbers_lem k groups group process list (number_of refusal) (sym (ap answer_of (sym e) ∙ c))

-- ── 11 does not occur ──

calls_lack_11 : (e : Entry) → lacks 11 (call_numbers e) ≡ true
calls_lack_11 (delivery replica at request) = refl
calls_lack_11 (turn replica at) = refl

-- whatever each public call is given, and each record of a journal; crates/sheet says it of the drill sheet
pub never_11 : (u : Settings) (s : State) (k n number group process : ℕ) (bytes : List ℕ) (r : Request) (m : Message) (q : Query)
    (list : List Message) (at : LocalTime) (e : Entry) →
    Never 11 (make u number)
    × Never 11 (read_request k n bytes)
    × Never 11 (read_message k n bytes)
    × Never 11 (write_request k n r bytes)
    × Never 11 (write_message k n m bytes)
    × Never 11 (deliver s bytes at)
    × Never 11 (step s at bytes)
    × Never 11 (vote k n q list)
    × Never 11 (halt_count k n group process list)
    × Never 11 (read_setup bytes)
    × Never 11 (read_entry k bytes)
    × Never 11 (play_entry s e bytes)
never_11 u s k n number group process bytes r m q list at e = (
  listed_never 11 make_numbers refl (make_numbers_lem u number),
  listed_never 11 read_request_numbers refl (read_request_numbers_lem k n bytes),
  listed_never 11 read_message_numbers refl (read_message_numbers_lem k n bytes),
  listed_never 11 write_request_numbers refl (write_request_numbers_lem k n bytes r),
  listed_never 11 write_message_numbers refl (write_message_numbers_lem k n bytes m),
  listed_never 11 deliver_numbers refl (deliver_numbers_lem s bytes at),
  listed_never 11 step_numbers refl (step_numbers_lem s at bytes),
  listed_never 11 vote_numbers refl (vote_numbers_lem k n q list),
  listed_never 11 halt_count_numbers refl (halt_count_numbers_lem k n group process list),
  listed_never 11 setup_numbers refl (setup_numbers_lem bytes),
  listed_never 11 entry_numbers refl (entry_numbers_lem k bytes),
  listed_never 11 (call_numbers e) (calls_lack_11 e) (play_numbers s e bytes),
)
