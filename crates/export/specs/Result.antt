-- The results of the C functions: a refusal number, 0 where nothing is refused, and beside it what is given.
use Rattle.std.specs.Prelude.{ℕ, false}
use Rattle.question.specs.Question.{Answer, given, refused, after}
use Rattle.record.specs.declared.message.Message.{Message}
use Rattle.record.specs.declared.request.Request.{Request}
use Rattle.record.specs.Record.{blank_request, blank_message}
use Rattle.rules.specs.declared.Election.{Election}
use Rattle.rules.specs.declared.HaltCount.{HaltCount}
use Rattle.export.specs.declared.records.MessageResult.{MessageResult}
use Rattle.export.specs.declared.records.RequestResult.{RequestResult}
use Rattle.export.specs.declared.votes.HaltResult.{HaltResult}
use Rattle.export.specs.declared.votes.VoteResult.{VoteResult}

-- no refusal has the number 0: proofs/Numbers.antt
abbrev pub refusal_of : {A : Type 0} → Answer A → ℕ
refusal_of (given a) = 0
refusal_of (refused number) = number

-- ── beside a refusal stands zero ──

abbrev pub request_result : Answer Request → RequestResult
request_result answer = record { refusal = refusal_of answer; request = after blank_request answer }

abbrev pub message_result : Answer Message → MessageResult
message_result answer = record { refusal = refusal_of answer; message = after blank_message answer }

abbrev pub vote_result : Answer Election → VoteResult
vote_result answer = record { refusal = refusal_of answer; election = after (record { value = 0; agreed = 0; other = 0; silent = 0 }) answer }

abbrev pub halt_result : Answer HaltCount → HaltResult
halt_result answer = record { refusal = refusal_of answer; count = after (record { senders = 0; size = 0; halt = false }) answer }
