-- The questions of a call have the numbers that document 01 lists for it, and whatever it is given, it is refused with one of those.
use Prim.Native.Nat.{ℕ, ◌+◌}
use mathlib.Core.Path.{◌≡◌, refl}
use mathlib.Core.Bool.{Bool, ◌&&◌}
use mathlib.Core.List.Memᴰ
use mathlib.Core.List.{List, [], ◌∷◌, ◌++◌}
use lib.Dec.{leb}
use lib.ListN.{length, take, drop}
use Rattle.question.specs.Question.{numbers_of, Listed, unit_questions}
use Rattle.question.proofs.Questions.{given_listed, ask_listed, yes_listed, bind_listed, cond_listed}
use Rattle.record.specs.Record.{field_questions, read_questions, write_questions, read_fields, write_fields, request_fields, message_fields, read_request, read_message, write_request, write_message}
use Rattle.record.proofs.Facts.{request-spares, message-spares}
use Rattle.layout.specs.declared.clock.LocalTime.{LocalTime}
use Rattle.layout.specs.declared.fields.Fields.{Fields}
use Rattle.record.specs.declared.kind.Family.TheVariants.{Requests, Messages}
use Rattle.record.specs.declared.message.Message.{Message}
use Rattle.record.specs.declared.request.Request.{Request}
use Rattle.rules.specs.declared.Settings.{Settings}
use Rattle.rules.specs.declared.Query.{Query}
use Rattle.rules.specs.Replica.{State, make_questions, place_questions, step_questions, make, admit, deliver, step}
use Rattle.rules.specs.Vote.{counts_for, support, elect, list_questions, vote, halt_count}
use Rattle.rules.specs.Numbers.{make_numbers, read_request_numbers, read_message_numbers, write_request_numbers, write_message_numbers, deliver_numbers, step_numbers, vote_numbers, halt_count_numbers}

-- ── the questions of each call have its numbers, in document 01's order ──

pub numbers_in_order : (u : Settings) (k n number room count : ℕ) (bytes : List ℕ) (f : Fields) (last now : LocalTime) (list : List Message) →
    (numbers_of (make_questions u number) ≡ make_numbers)
    × (numbers_of (read_questions Requests k n bytes) ≡ read_request_numbers)
    × (numbers_of (read_questions Messages k n bytes) ≡ read_message_numbers)
    × (numbers_of (write_questions Requests k n f room) ≡ 1 ∷ 2 ∷ 7 ∷ 8 ∷ 9 ∷ 10 ∷ 21 ∷ 22 ∷ 15 ∷ [])
    × (numbers_of (write_questions Messages k n f room) ≡ 1 ∷ 2 ∷ 7 ∷ 8 ∷ 9 ∷ 5 ∷ 10 ∷ 21 ∷ 22 ∷ 15 ∷ [])
    × (numbers_of (read_questions Requests k n bytes ++ place_questions last count now) ≡ deliver_numbers)
    × (numbers_of (step_questions last now room) ≡ step_numbers)
    × (numbers_of (list_questions k n list) ++ (17 ∷ []) ≡ vote_numbers)
    × (numbers_of (list_questions k n list) ≡ halt_count_numbers)
unfolding unit_questions field_questions
numbers_in_order u k n number room count bytes f last now list = (refl, refl, refl, refl, refl, refl, refl, refl, refl)

-- ── records: whatever they are given, they are refused with no other number ──

module _ (k n : ℕ) (bytes : List ℕ) where
  pub read_request_numbers_lem : Listed read_request_numbers (read_request k n bytes)
  unfolding read_fields unit_questions field_questions
  read_request_numbers_lem = bind_listed (read_fields Requests k n bytes) _ _ [] (ask_listed _ _ [] (given_listed [] _)) (λ f. given_listed [] _)

  pub read_message_numbers_lem : Listed read_message_numbers (read_message k n bytes)
  unfolding read_fields unit_questions field_questions
  read_message_numbers_lem = bind_listed (read_fields Messages k n bytes) _ _ [] (ask_listed _ _ [] (given_listed [] _)) (λ f. given_listed [] _)

  -- not with 21 either: that question is answered yes
  pub write_request_numbers_lem : (r : Request) → Listed write_request_numbers (write_request k n r bytes)
  unfolding write_fields unit_questions field_questions
  write_request_numbers_lem r =
      let asked = write_questions Requests k n (request_fields r) (length bytes) in
      yes_listed (take 6 asked) (drop 7 asked) 21 _ [] (request-spares r) (given_listed [] _)

  pub write_message_numbers_lem : (m : Message) → Listed write_message_numbers (write_message k n m bytes)
  unfolding write_fields unit_questions field_questions
  write_message_numbers_lem m =
      let asked = write_questions Messages k n (message_fields m) (length bytes) in
      yes_listed (take 7 asked) (drop 8 asked) 21 _ [] (message-spares m) (given_listed [] _)

-- ── the replica ──

pub make_numbers_lem : (u : Settings) (number : ℕ) → Listed make_numbers (make u number)
unfolding make unit_questions
make_numbers_lem u number = ask_listed _ _ [] (given_listed [] _)

pub deliver_numbers_lem : (s : State) (bytes : List ℕ) (now : LocalTime) → Listed deliver_numbers (deliver s bytes now)
unfolding deliver admit
deliver_numbers_lem s bytes now =
    bind_listed (admit s bytes now) _ _ []
    (bind_listed (read_request s.settings.k s.settings.groups bytes) _ _ _ (read_request_numbers_lem _ _ bytes) (λ r. ask_listed _ _ [] (given_listed [] _)))
    (λ r. given_listed [] _)

pub step_numbers_lem : (s : State) (now : LocalTime) (output : List ℕ) → Listed step_numbers (step s now output)
unfolding step
step_numbers_lem s now output = ask_listed _ _ [] (given_listed [] _)

-- ── the vote and the halt count ──

-- where no candidate wins, 17
elect_numbers : (k : ℕ) (test : Message → Bool) (list candidates : List Message) → Listed (17 ∷ []) (elect k test list candidates)
unfolding elect
elect_numbers k test list [] = λ n e. Memᴰ.head {x = 17} (cc)
elect_numbers k test list (m ∷ candidates) =
    cond_listed (17 ∷ []) (test m && leb (k + 1) (support k test list m.value)) _ _ (given_listed (17 ∷ []) _) (elect_numbers k test list candidates)

pub vote_numbers_lem : (k n : ℕ) (q : Query) (list : List Message) → Listed vote_numbers (vote k n q list)
unfolding vote unit_questions
vote_numbers_lem k n q list = ask_listed _ _ _ (elect_numbers k (counts_for k n q) list list)

pub halt_count_numbers_lem : (k n group process : ℕ) (list : List Message) → Listed halt_count_numbers (halt_count k n group process list)
unfolding halt_count unit_questions
halt_count_numbers_lem k n group process list = ask_listed _ _ [] (given_listed [] _)
