-- Document 01, "Proved examples": twelve, as rows. Rows 1 to 11 go through the delivery of records and steps at replica 1, and
-- show beside it what the machine makes of the requests that arrived; row 12 is two votes.
use Rattle.std.specs.Prelude.{ℕ, List, [], ◌∷◌}
use Rattle.question.specs.Question.{Answer, given, refused, map_answer}
use Rattle.record.specs.declared.message.Message.{Message}
use Rattle.rules.specs.Batch.{reply_with, halt_to}
use Rattle.rules.specs.Replica.{State, new_state, pending_in, requests_of, step}
use Rattle.rules.specs.Run.{Call, delivery, turn, call, run, exchanges, arrivals}
use Rattle.rules.specs.Machine.{machine}
use Rattle.rules.specs.Vote.{vote}
use Rattle.rules.specs.declared.Election.{Election}
use Rattle.rules.specs.Sample.{settings, wrote, asked, deliver_at, step_at, Figures, figures}

-- ── what is done ──

pub data Example : Type 0 where
  play : List Call → Example
  poll : List Message → Example

-- ── what is seen ──

pub data Seen : Type 0 where
  -- the replica's figures, how many requests are pending, the answers of its steps, what it sent, the machine's figures
  saw : Figures → ℕ → List (Answer ℕ) → List Message → Figures → Seen
  voted : Answer Election → Seen

-- the answers of the steps of a list of calls: how many messages each sent
abbrev step_answers : State → List Call → List (Answer ℕ)
step_answers s [] = []
step_answers s (delivery bytes now ∷ calls) = step_answers (call s (delivery bytes now)).state calls
step_answers s (turn now output ∷ calls) = map_answer (λ d. d.count) (step s now output) ∷ step_answers (call s (turn now output)).state calls

abbrev pub see : Example → Seen
see (play calls) =
    let s = new_state settings 1 in
    let done = run s calls in
    saw (figures done.state.store) (pending_in 2 done.state.pending) (step_answers s calls) done.sent (figures (machine 1 1 (requests_of (arrivals settings (exchanges s calls)))).state)
see (poll list) = voted (vote 1 2 (record { group = 1; process = 1; variable = 4; timestamp = record { 0 = 10 } }) list)

-- ── the rows ──

abbrev fresh : Figures
fresh = record { four = 0; mark = 0; writes = 0 }

abbrev seven : Figures
seven = record { four = 7; mark = 0; writes = 1 }

abbrev frozen : Figures
frozen = record { four = 0; mark = 1; writes = 0 }

abbrev two_halts : List Message
two_halts = halt_to 1 1 (record { 0 = 10 }) 1 ∷ halt_to 1 1 (record { 0 = 10 }) 2 ∷ []

pub record Row : Type 0 where
  pub number : ℕ
  pub example : Example
  pub expected : Seen

abbrev row : ℕ → Example → Seen → Row
row number example expected = record { number = number; example = example; expected = expected }

abbrev pub rows : List Row
rows =
    -- the first arrival of the batch at 100, another at 103: a step at 105 does nothing, at 106 it handles
    row 1 (play (deliver_at 100 (wrote 1 1 10 7) ∷ deliver_at 103 (wrote 1 2 10 7) ∷ step_at 105 ∷ [])) (saw fresh 2 (given 0 ∷ []) [] seven)
    ∷ row 1 (play (deliver_at 100 (wrote 1 1 10 7) ∷ deliver_at 103 (wrote 1 2 10 7) ∷ step_at 106 ∷ [])) (saw seven 0 (given 0 ∷ []) [] seven)
    -- processes 1 and 2 write 7 at timestamp 10
    ∷ row 2 (play (deliver_at 100 (wrote 1 1 10 7) ∷ deliver_at 100 (wrote 1 2 10 7) ∷ step_at 106 ∷ [])) (saw seven 0 (given 0 ∷ []) [] seven)
    -- they write 7 and 8
    ∷ row 3 (play (deliver_at 100 (wrote 1 1 10 7) ∷ deliver_at 100 (wrote 1 2 10 8) ∷ step_at 106 ∷ [])) (saw frozen 0 (given 2 ∷ []) two_halts frozen)
    -- only process 1 writes
    ∷ row 4 (play (deliver_at 100 (wrote 1 1 10 7) ∷ step_at 106 ∷ [])) (saw frozen 0 (given 2 ∷ []) two_halts frozen)
    -- process 1 writes twice, process 2 never
    ∷ row 5 (play (deliver_at 100 (wrote 1 1 10 7) ∷ deliver_at 100 (wrote 1 1 10 7) ∷ step_at 106 ∷ [])) (saw frozen 0 (given 2 ∷ []) two_halts frozen)
    -- process 1 twice and process 2 once, all equal
    ∷ row 6 (play (deliver_at 100 (wrote 1 1 10 7) ∷ deliver_at 100 (wrote 1 1 10 7) ∷ deliver_at 100 (wrote 1 2 10 7) ∷ step_at 106 ∷ [])) (saw frozen 0 (given 2 ∷ []) two_halts frozen)
    -- a read among the writes of one timestamp
    ∷ row 7 (play (deliver_at 100 (wrote 1 1 10 7) ∷ deliver_at 100 (asked 1 2 10 4) ∷ deliver_at 100 (wrote 1 2 10 7) ∷ step_at 106 ∷ [])) (saw frozen 0 (given 2 ∷ []) two_halts frozen)
    -- process 1 alone reads
    ∷ row 8 (play (deliver_at 100 (asked 1 1 10 4) ∷ step_at 106 ∷ [])) (saw fresh 0 (given 1 ∷ []) (reply_with 0 1 (asked 1 1 10 4) ∷ []) fresh)
    -- group 2 writes
    ∷ row 9 (play (deliver_at 100 (wrote 2 1 10 7) ∷ deliver_at 100 (wrote 2 2 10 7) ∷ step_at 106 ∷ [])) (saw fresh 0 (given 0 ∷ []) [] fresh)
    -- a unanimous write after a freeze, and a read of variable 0
    ∷ row 10 (play (deliver_at 100 (wrote 1 1 10 7) ∷ deliver_at 100 (wrote 1 1 20 7) ∷ deliver_at 100 (wrote 1 2 20 7) ∷ deliver_at 100 (asked 1 2 30 0) ∷ step_at 106 ∷ []))
    (saw frozen 0 (given 3 ∷ []) (halt_to 1 1 (record { 0 = 10 }) 1 ∷ halt_to 1 1 (record { 0 = 10 }) 2 ∷ reply_with 1 1 (asked 1 2 30 0) ∷ []) frozen)
    -- timestamp 20 arrives at 100, timestamp 10 at 104: a step at 106 does nothing, at 110 it handles 10, then 20
    ∷ row 11 (play (deliver_at 100 (asked 1 1 20 4) ∷ deliver_at 104 (asked 1 2 10 4) ∷ step_at 106 ∷ [])) (saw fresh 2 (given 0 ∷ []) [] fresh)
    ∷ row 11 (play (deliver_at 100 (asked 1 1 20 4) ∷ deliver_at 104 (asked 1 2 10 4) ∷ step_at 106 ∷ step_at 110 ∷ [])) (saw fresh 0 (given 0 ∷ given 2 ∷ []) (reply_with 0 1 (asked 1 2 10 4) ∷ reply_with 0 1 (asked 1 1 20 4) ∷ []) fresh)
    -- replies 7, 9, 7 from replicas 1, 2, 3: 1 and 3 agreed, 2 gave another value; then 9, 9 from replica 3 and 7 from replica 1
    ∷ row 12 (poll (reply_with 7 1 (asked 1 1 10 4) ∷ reply_with 9 2 (asked 1 1 10 4) ∷ reply_with 7 3 (asked 1 1 10 4) ∷ [])) (voted (given (record { value = 7; agreed = 5; other = 2; silent = 0 })))
    ∷ row 12 (poll (reply_with 9 3 (asked 1 1 10 4) ∷ reply_with 9 3 (asked 1 1 10 4) ∷ reply_with 7 1 (asked 1 1 10 4) ∷ [])) (voted (refused 17))
    ∷ []
