-- Document 01, "The run": a replica newly made gets a list of deliveries and steps, refused ones included.
use Rattle.std.specs.Prelude.{ℕ, zero, suc, ◌≡◌, cond, eqb, take, drop}
use mathlib.Core.List.{List, [], ◌∷◌, ◌++◌, flat_map, Memᴰ}
use Rattle.limits.specs.Limits.{record_size}
use Rattle.question.specs.Question.{Answer, given, refused, is_given, after, next, map_answer, Worked, verdict}
use Rattle.layout.specs.Number.{Bytes}
use Rattle.record.specs.Record.{read_request, read_message}
use Rattle.layout.specs.declared.clock.LocalTime.{LocalTime}
use Rattle.record.specs.declared.request.Request.{Request}
use Rattle.record.specs.declared.message.Message.{Message}
use Rattle.rules.specs.Lists.{keep}
use Rattle.rules.specs.Batch.{Effect, still, follow}
use Rattle.rules.specs.Replica.{State, Stepped, new_state, make, deliver, step}
use Rattle.rules.specs.declared.Pending.{Pending}
use Rattle.rules.specs.declared.Settings.{Settings}

-- a delivery of lent bytes, or a step into a lent output, each at a local time
pub data Call : Type 0 where
  delivery : List ℕ → LocalTime → Call
  turn : LocalTime → List ℕ → Call

-- what is delivered are bytes, as a lent slice holds them
abbrev pub LentTo : Call → Type 0
LentTo (delivery bytes now) = Bytes bytes
LentTo (turn now output) = Unit {0}

abbrev pub Lent : List Call → Type 0
Lent calls = (c : Call) → Memᴰ c calls → LentTo c

-- the message of an accepted record
abbrev pub accepted : Answer Message → List Message
accepted (given m) = m ∷ []
accepted (refused number) = []

-- the messages of the first records of an output
unfoldable pub messages_in : ℕ → ℕ → ℕ → List ℕ → List Message
messages_in k n zero output = []
messages_in k n (suc count) output = accepted (read_message k n (take record_size output)) ++ messages_in k n count (drop record_size output)

-- those whose records an accepted step wrote
abbrev pub messages_of : State → Stepped → List Message
messages_of s d = messages_in s.settings.k s.settings.groups d.count d.output

-- those of a list to a group, in their order
abbrev pub to_group : ℕ → List Message → List Message
to_group group messages = keep (λ m. eqb m.group group) messages

-- a step as a call
abbrev pub sent_by : State → Answer Stepped → Effect State
sent_by s (given d) = record { state = d.state; sent = messages_of s d }
sent_by s (refused number) = still s

-- one call; after a refusal the state is what it was
unfoldable pub call : State → Call → Effect State
call s (delivery bytes now) = still (after s (deliver s bytes now))
call s (turn now output) = sent_by s (step s now output)

unfoldable pub run : State → List Call → Effect State
run s [] = still s
run s (c ∷ calls) = follow (call s c) (λ t. run t calls)

-- ── what passes in a call: the call, and its answer ──

pub data Exchange : Type 0 where
  -- a delivery: the bytes, the local time, and that it worked, or the number of its refusal
  delivered : List ℕ → LocalTime → Answer Worked → Exchange
  -- a step: the local time, and the messages whose records it wrote; not the output that was lent to it
  turned : LocalTime → Answer (List Message) → Exchange

abbrev pub exchange : State → Call → Exchange
exchange s (delivery bytes now) = delivered bytes now (verdict (deliver s bytes now))
exchange s (turn now output) = turned now (map_answer (messages_of s) (step s now output))

unfoldable pub exchanges : State → List Call → List Exchange
exchanges s [] = []
exchanges s (c ∷ calls) = exchange s c ∷ exchanges (call s c).state calls

-- ── what is told by it ──

-- a request that was accepted, if it is the owner's
abbrev pub arrived : ℕ → LocalTime → Answer Request → List Pending
arrived owner now (given r) = cond (eqb r.group owner) (record { request = r; arrival = now } ∷ []) []
arrived owner now (refused number) = []

-- a request arrives when its delivery is accepted
abbrev pub arrival_in : Settings → Exchange → List Pending
arrival_in u (delivered bytes now answer) = arrived u.owner now (next answer (read_request u.k u.groups bytes))
arrival_in u (turned now answer) = []

-- the owner's requests that a run accepts, in order of arrival
abbrev pub arrivals : Settings → List Exchange → List Pending
arrivals u past = flat_map (arrival_in u) past

-- the local time of a step, if it was accepted
abbrev pub step_in : Exchange → List LocalTime
step_in (delivered bytes now answer) = []
step_in (turned now answer) = cond (is_given answer) (now ∷ []) []

-- the messages of a step; a refused one sent none
abbrev pub sent_in : Exchange → List Message
sent_in (delivered bytes now answer) = []
sent_in (turned now answer) = after [] answer

-- ── a run that is what it says ──

-- the replica was made with these settings and this number, and what is delivered are bytes
pub record Ran (u : Settings) (number : ℕ) (calls : List Call) : Type 0 where
  pub made : make u number ≡ given (new_state u number)
  pub lent : Lent calls
