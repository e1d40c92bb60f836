-- The third demand at its edges: two whole units of five replicas (k = 2), of which 1 and 2 lie. Requests arrive at the last local time
-- that the arrival rule allows, each closing step comes at the first that it may, process k + 1 reads and halts, and one list of messages
-- is as long as a vote takes it.
use Rattle.std.specs.Prelude.{ℕ, Bool, true, false, cond, List, [], ◌∷◌, eqb, ltb, replicate}
use Rattle.question.specs.Question.{given, refused}
use Rattle.record.specs.declared.request.Request.{Request}
use Rattle.record.specs.declared.message.Message.{Message}
use Rattle.rules.specs.Batch.{reply_with, halt_to}
use Rattle.rules.specs.Run.{Call}
use Rattle.rules.specs.Machine.{nobody}
use Rattle.rules.specs.declared.Settings.{Settings}
use Rattle.rules.specs.Sample.{wrote, asked, deliver_at, step_at, Figures}
use Rattle.rules.specs.Units.{Row}

-- k = 2, N = 2, owner 1, δ = 5
abbrev pub five : Settings
five = record { k = 2; groups = 2; owner = 1; delta = 5 }

-- replicas 1 and 2 are faulty
abbrev pub lying : ℕ → Bool
lying i = ltb i 3

-- ── the last write arrives at first + δ, and is read back against two that lie alike ──

abbrev pub late_read : Request
late_read = asked 1 3 20 4

abbrev pub late_bag : List Request
late_bag = wrote 1 1 10 7 ∷ wrote 1 2 10 7 ∷ wrote 1 3 10 7 ∷ late_read ∷ []

-- replica 3 gets the read first, and the writes before it at the read's arrival + δ, after a step at that very time; replica 4 gets the
-- last write at the first one's arrival + δ, in the same way; replica 5 gets all at local time 0
abbrev pub late_calls : ℕ → List Call
late_calls i = cond (eqb i 3)
    (deliver_at 100 late_read ∷ step_at 105 ∷ deliver_at 105 (wrote 1 1 10 7) ∷ deliver_at 105 (wrote 1 2 10 7) ∷ deliver_at 105 (wrote 1 3 10 7)
    ∷ step_at 111 ∷ [])
    (cond (eqb i 4)
    (deliver_at 200 (wrote 1 1 10 7) ∷ deliver_at 200 (wrote 1 2 10 7) ∷ step_at 205 ∷ deliver_at 205 (wrote 1 3 10 7) ∷ deliver_at 205 late_read
    ∷ step_at 211 ∷ [])
    (deliver_at 0 (wrote 1 1 10 7) ∷ deliver_at 0 (wrote 1 2 10 7) ∷ deliver_at 0 (wrote 1 3 10 7) ∷ deliver_at 0 late_read ∷ step_at 6 ∷ []))

-- a reply and a halt of a liar
abbrev pub lie : ℕ → Message
lie replica = reply_with 8 replica late_read

abbrev pub alarm : ℕ → Message
alarm replica = halt_to 1 replica (record { 0 = 20 }) 3

-- what process 3 received, 64 messages: the liars speak first, agree, raise a false alarm each, and one of them repeats itself
abbrev pub late_heard : List Message
late_heard =
    lie 1 ∷ lie 2 ∷ alarm 1 ∷ alarm 2 ∷ reply_with 7 3 late_read ∷ reply_with 7 4 late_read ∷ reply_with 7 5 late_read ∷ replicate 57 (lie 1)

-- ── a dissent of the last process, and what it hears ──

abbrev pub split_bag : List Request
split_bag = wrote 1 1 10 7 ∷ wrote 1 2 10 7 ∷ wrote 1 3 10 8 ∷ []

-- replica 3 gets the other write at the first one's arrival + δ; replicas 4 and 5 get it first
abbrev pub split_calls : ℕ → List Call
split_calls i = cond (eqb i 3)
    (deliver_at 100 (wrote 1 1 10 7) ∷ deliver_at 100 (wrote 1 2 10 7) ∷ step_at 105 ∷ deliver_at 105 (wrote 1 3 10 8) ∷ step_at 111 ∷ [])
    (deliver_at 0 (wrote 1 3 10 8) ∷ deliver_at 0 (wrote 1 1 10 7) ∷ deliver_at 0 (wrote 1 2 10 7) ∷ step_at 6 ∷ [])

abbrev pub stopped : ℕ → ℕ → Message
stopped replica process = halt_to 1 replica (record { 0 = 10 }) process

-- what process 3 received: the liars say nothing
abbrev pub split_heard : List Message
split_heard = stopped 3 3 ∷ stopped 4 3 ∷ stopped 5 3 ∷ []

-- ── the rows ──

abbrev seven : Figures
seven = record { four = 7; mark = 0; writes = 1 }

abbrev frozen : Figures
frozen = record { four = 0; mark = 1; writes = 0 }

abbrev pub edge_rows : List Row
edge_rows =
    record {
      whole = record { unit = five; correct = 3 ∷ 4 ∷ 5 ∷ []; calls = late_calls; bag = late_bag; request = late_read; received = late_heard };
      expected = record {
        copies = seven ∷ seven ∷ seven ∷ [];
        sent = (reply_with 7 3 late_read ∷ []) ∷ (reply_with 7 4 late_read ∷ []) ∷ (reply_with 7 5 late_read ∷ []) ∷ [];
        held = seven;
        said = reply_with 7 nobody late_read ∷ [];
        voted = given (record { value = 7; agreed = 28; other = 3; silent = 0 });
        counted = given (record { senders = 3; size = 2; halt = false });
      };
    }
    ∷ record {
      whole = record { unit = five; correct = 3 ∷ 4 ∷ 5 ∷ []; calls = split_calls; bag = split_bag; request = late_read; received = split_heard };
      expected = record {
        copies = frozen ∷ frozen ∷ frozen ∷ [];
        sent =
            (stopped 3 1 ∷ stopped 3 2 ∷ stopped 3 3 ∷ [])
            ∷ (stopped 4 1 ∷ stopped 4 2 ∷ stopped 4 3 ∷ [])
            ∷ (stopped 5 1 ∷ stopped 5 2 ∷ stopped 5 3 ∷ [])
            ∷ [];
        held = frozen;
        said = stopped nobody 1 ∷ stopped nobody 2 ∷ stopped nobody 3 ∷ [];
        voted = refused 17;
        counted = given (record { senders = 28; size = 3; halt = true });
      };
    }
    ∷ []
