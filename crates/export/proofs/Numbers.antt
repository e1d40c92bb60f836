-- No call is refused with the number 0: where a C function answers 0, it gave what it was asked for.
use Prim.Native.Nat.{ℕ}
use mathlib.Core.Path.{◌≡◌, refl, ap}
use mathlib.Core.Bool.{true}
use mathlib.Core.List.{List}
use Rattle.question.specs.Question.{Answer, given, refused, is_given, Listed}
use Rattle.record.specs.Record.{read_request, read_message, write_request, write_message}
use Rattle.layout.specs.declared.clock.LocalTime.{LocalTime}
use Rattle.record.specs.declared.message.Message.{Message}
use Rattle.record.specs.declared.request.Request.{Request}
use Rattle.rules.specs.Numbers.{make_numbers, read_request_numbers, read_message_numbers, write_request_numbers, write_message_numbers, deliver_numbers, step_numbers, vote_numbers, halt_count_numbers, lacks}
use Rattle.rules.specs.declared.Settings.{Settings}
use Rattle.rules.specs.declared.Query.{Query}
use Rattle.rules.specs.Replica.{State, make, deliver, step}
use Rattle.rules.specs.Vote.{vote, halt_count}
use Rattle.rules.proofs.Numbers.{read_request_numbers_lem, read_message_numbers_lem, write_request_numbers_lem, write_message_numbers_lem, make_numbers_lem, deliver_numbers_lem, step_numbers_lem, vote_numbers_lem, halt_count_numbers_lem}
use Rattle.laws.proofs.Numbers.{listed_never}
use Rattle.export.specs.Result.{refusal_of}

-- an answer of 0 is no refusal
abbrev Told : {A : Type 0} → Answer A → Type 0
Told answer = refusal_of answer ≡ 0 → is_given answer ≡ true

-- a refusal has a number of its call's list, and 0 is in none
listed_told : {A : Type 0} (numbers : List ℕ) (answer : Answer A) → lacks 0 numbers ≡ true → Listed numbers answer → Told answer
listed_told numbers (given a) p h = λ e. refl
listed_told numbers (refused number) p h = λ e. absurd (listed_never 0 numbers p h (ap refused e))

-- ── records ──

module _ (k n : ℕ) (bytes : List ℕ) where
  pub read_request-told : Told (read_request k n bytes)
  read_request-told = listed_told read_request_numbers _ refl (read_request_numbers_lem k n bytes)

  pub read_message-told : Told (read_message k n bytes)
  read_message-told = listed_told read_message_numbers _ refl (read_message_numbers_lem k n bytes)

  pub write_request-told : (r : Request) → Told (write_request k n r bytes)
  write_request-told r = listed_told write_request_numbers _ refl (write_request_numbers_lem k n bytes r)

  pub write_message-told : (m : Message) → Told (write_message k n m bytes)
  write_message-told m = listed_told write_message_numbers _ refl (write_message_numbers_lem k n bytes m)

-- ── the replica ──

pub make-told : (u : Settings) (number : ℕ) → Told (make u number)
make-told u number = listed_told make_numbers _ refl (make_numbers_lem u number)

pub deliver-told : (s : State) (bytes : List ℕ) (at : LocalTime) → Told (deliver s bytes at)
deliver-told s bytes at = listed_told deliver_numbers _ refl (deliver_numbers_lem s bytes at)

pub step-told : (s : State) (at : LocalTime) (output : List ℕ) → Told (step s at output)
step-told s at output = listed_told step_numbers _ refl (step_numbers_lem s at output)

-- ── the vote and the halt count ──

pub vote-told : (k n : ℕ) (q : Query) (list : List Message) → Told (vote k n q list)
vote-told k n q list = listed_told vote_numbers _ refl (vote_numbers_lem k n q list)

pub halt_count-told : (k n group process : ℕ) (list : List Message) → Told (halt_count k n group process list)
halt_count-told k n group process list = listed_told halt_count_numbers _ refl (halt_count_numbers_lem k n group process list)
