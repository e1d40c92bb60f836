-- Document 02, A3, as figures. Two runs that are one to the owner: k = 1, N = 3, owner 2, δ = 5, replica 1, so that a guest is visited before
-- the owner and one after it. In the quiet run a guest reads once; in the loud one they write, dissent, send four times what their places hold,
-- and deliver what is no request. Then a run and seven that differ from it in one thing each, which the owner can tell from it.
use Rattle.std.specs.Prelude.{ℕ, List, [], ◌∷◌, ◌++◌, replicate}
use Rattle.question.specs.Question.{Answer, given, refused, Worked, worked}
use Rattle.record.specs.declared.request.Request.{Request}
use Rattle.record.specs.declared.message.Message.{Message}
use Rattle.rules.specs.Batch.{reply_with, halt_to}
use Rattle.rules.specs.Run.{Call, delivery, turn}
use Rattle.rules.specs.Owner.{View}
use Rattle.rules.specs.Sample.{wrote, wrote_to, asked, deliver_at, step_at, Figures, figures}
use Rattle.rules.specs.declared.Pending.{Pending}
use Rattle.rules.specs.declared.Settings.{Settings}

abbrev pub three : Settings
three = record { k = 1; groups = 3; owner = 2; delta = 5 }

-- ── the calls ──

-- bytes that are no request
abbrev raw_at : ℕ → List ℕ → Call
raw_at at bytes = delivery bytes (record { 0 = at })

-- so many; byte 1, where there is one, names no group that there is
abbrev garbage_at : ℕ → ℕ → Call
garbage_at at length = raw_at at (replicate length 9)

-- a step with a longer output that is not clear
abbrev noisy_step_at : ℕ → Call
noisy_step_at at = turn (record { 0 = at }) (replicate 1610 255)

abbrev pub quiet : List Call
quiet =
    deliver_at 100 (wrote 2 1 10 7) ∷ deliver_at 101 (wrote 2 2 10 7) ∷ deliver_at 102 (asked 2 1 20 4)
    -- a write to variable 0, and two bytes of which the second is the owner's group
    ∷ deliver_at 103 (wrote_to 0 2 1 25 0) ∷ raw_at 103 (1 ∷ 2 ∷ [])
    ∷ step_at 110
    ∷ deliver_at 111 (asked 3 1 30 4)
    ∷ (replicate 17 (deliver_at 112 (asked 2 1 30 4))
    ++ (step_at 120
    ∷ deliver_at 121 (wrote 2 1 40 9)
    ∷ step_at 130
    ∷ deliver_at 131 (asked 2 2 50 0)
    ∷ step_at 140
    ∷ deliver_at 141 (asked 2 1 60 4)
    ∷ []))

abbrev pub loud : List Call
loud =
    -- a unanimous write and a dissent, with earlier timestamps
    deliver_at 100 (wrote 1 1 5 5) ∷ deliver_at 100 (wrote 1 2 5 5) ∷ deliver_at 100 (wrote 1 1 6 5)
    ∷ deliver_at 100 (wrote 2 1 10 7)
    -- a unanimous write with the owner's timestamp and variable
    ∷ deliver_at 101 (wrote 3 1 10 8) ∷ deliver_at 101 (wrote 3 2 10 8)
    ∷ deliver_at 101 (wrote 2 2 10 7) ∷ deliver_at 102 (asked 2 1 20 4)
    ∷ garbage_at 103 24 ∷ garbage_at 103 23 ∷ garbage_at 103 25 ∷ raw_at 103 (2 ∷ [])
    ∷ deliver_at 103 (wrote_to 0 2 1 25 0) ∷ raw_at 103 (1 ∷ 2 ∷ [])
    -- an earlier timestamp that is not stable at 110, so that this write's turn comes at 120, after the owner's
    ∷ deliver_at 109 (asked 3 1 1 4)
    ∷ noisy_step_at 110
    -- sixteen find a place, and 48 are refused
    ∷ (replicate 64 (deliver_at 112 (asked 1 1 30 4))
    ++ (replicate 17 (deliver_at 112 (asked 2 1 30 4))
    ++ (noisy_step_at 120
    ∷ deliver_at 121 (wrote 2 1 40 9)
    -- the other process's part of the owner's write, from a guest
    ∷ deliver_at 121 (wrote 3 2 40 9)
    ∷ noisy_step_at 130
    ∷ deliver_at 131 (asked 2 2 50 0)
    ∷ noisy_step_at 140
    ∷ deliver_at 141 (asked 2 1 60 4)
    -- it arrives after what the owner has pending, with an earlier timestamp
    ∷ deliver_at 150 (asked 1 2 55 4)
    ∷ garbage_at 150 0
    ∷ [])))

-- ── a run, and others that differ from it in one thing: why A3 supposes what it does ──

-- the owner reads at one timestamp, and after a step at an earlier one
abbrev first : Call
first = deliver_at 100 (asked 2 1 20 4)

abbrev second : Call
second = deliver_at 110 (asked 2 1 10 4)

abbrev pub served : List Call
served = first ∷ step_at 110 ∷ second ∷ []

-- a guest is accepted at 111, and then local time goes back
abbrev pub overtaken : List Call
overtaken = first ∷ step_at 110 ∷ deliver_at 111 (asked 1 1 30 4) ∷ second ∷ []

-- the step has no room
abbrev pub unserved : List Call
unserved = first ∷ turn (record { 0 = 110 }) [] ∷ second ∷ []

-- the owner reads another variable
abbrev pub changed : List Call
changed = deliver_at 100 (asked 2 1 20 5) ∷ step_at 110 ∷ second ∷ []

-- its second read comes later
abbrev pub delayed : List Call
delayed = first ∷ step_at 110 ∷ deliver_at 111 (asked 2 1 10 4) ∷ []

-- the step comes earlier
abbrev pub hurried : List Call
hurried = first ∷ step_at 105 ∷ second ∷ []

-- there is none
abbrev pub unstepped : List Call
unstepped = first ∷ second ∷ []

-- it comes after the second read, which as the earlier timestamp goes first and is not stable yet
abbrev pub swapped : List Call
swapped = first ∷ second ∷ step_at 110 ∷ []

-- ── what the owner has of each ──

pub record Seen : Type 0 where
  pub held : Figures
  pub pending : List Pending
  pub answers : List (Answer Worked)
  pub sent : List (List Message)

abbrev pub seen : View → Seen
seen v = record { held = figures v.store; pending = v.pending; answers = v.answers; sent = v.sent }

pub record Row : Type 0 where
  pub calls : List Call
  pub expected : Seen

abbrev pending_at : ℕ → Request → Pending
pending_at at r = record { request = r; arrival = record { 0 = at } }

abbrev pub untouched : Seen
untouched = record {
  held = record { four = 7; mark = 1; writes = 1 };
  pending = pending_at 141 (asked 2 1 60 4) ∷ [];
  answers = replicate 3 (given worked) ++ (refused 10 ∷ refused 6 ∷ (replicate 16 (given worked) ++ (refused 14 ∷ replicate 3 (given worked))));
  sent =
      (reply_with 7 1 (asked 2 1 20 4) ∷ [])
      ∷ replicate 16 (reply_with 7 1 (asked 2 1 30 4))
      ∷ (halt_to 2 1 (record { 0 = 40 }) 1 ∷ halt_to 2 1 (record { 0 = 40 }) 2 ∷ [])
      ∷ (reply_with 1 1 (asked 2 2 50 0) ∷ [])
      ∷ [];
}

-- of a replica that performed nothing
abbrev without : List Pending → List (Answer Worked) → List (List Message) → Seen
without pending answers sent = record { held = record { four = 0; mark = 0; writes = 0 }; pending = pending; answers = answers; sent = sent }

-- where both reads are accepted
abbrev both_accepted : List Pending → List (List Message) → Seen
both_accepted pending sent = without pending (given worked ∷ given worked ∷ []) sent

-- where neither is answered
abbrev unanswered : List (List Message) → Seen
unanswered sent = both_accepted (pending_at 100 (asked 2 1 20 4) ∷ pending_at 110 (asked 2 1 10 4) ∷ []) sent

-- the step's messages to the owner, where it answers a read of a variable
abbrev answered : ℕ → List (List Message)
answered variable = (reply_with 0 1 (asked 2 1 20 variable) ∷ []) ∷ []

abbrev pub rows : List Row
rows =
    record { calls = quiet; expected = untouched }
    ∷ record { calls = loud; expected = untouched }
    ∷ record { calls = served; expected = both_accepted (pending_at 110 (asked 2 1 10 4) ∷ []) (answered 4) }
    -- the guest's local time shuts the owner out
    ∷ record { calls = overtaken; expected = without [] (given worked ∷ refused 13 ∷ []) (answered 4) }
    ∷ record { calls = unserved; expected = unanswered ([] ∷ []) }
    ∷ record { calls = changed; expected = both_accepted (pending_at 110 (asked 2 1 10 4) ∷ []) (answered 5) }
    ∷ record { calls = delayed; expected = both_accepted (pending_at 111 (asked 2 1 10 4) ∷ []) (answered 4) }
    ∷ record { calls = hurried; expected = unanswered ([] ∷ []) }
    ∷ record { calls = unstepped; expected = unanswered [] }
    ∷ record { calls = swapped; expected = unanswered ([] ∷ []) }
    ∷ []
