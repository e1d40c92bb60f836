-- The replica (document 01's storage card, Schneider's s-process): its state, and the three calls with their questions.
use Rattle.std.specs.Prelude.{ℕ, zero, suc, ◌+◌, ◌*◌, min, Bool, false, cond, not, List, [], ◌∷◌, ◌++◌, map, eqb, leb, ltb, length, take, drop}
use Rattle.limits.specs.Limits.{max_delta, max_time, places, record_size, output_size}
use Rattle.question.specs.Question.{Question, ◌else◌, Answer, given, refused, ask, bind, map_answer, within, unit_questions}
use Rattle.record.specs.Record.{read_request, write_message}
use Rattle.layout.specs.declared.clock.Timestamp.{Timestamp}
use Rattle.layout.specs.declared.clock.LocalTime.{LocalTime}
use Rattle.record.specs.declared.request.Request.{Request}
use Rattle.record.specs.declared.message.Message.{Message}
use Rattle.rules.specs.Lists.{keep}
use Rattle.rules.specs.Batch.{Store, Effect, still, follow, new_store, handle}
use Rattle.rules.specs.declared.Pending.{Pending}
use Rattle.rules.specs.declared.Settings.{Settings}

pub record State : Type 0 where
  pub settings : Settings
  -- its own number among the replicas
  pub number : ℕ
  pub store : Store
  -- document 02's shelf for each group: its queue of accepted, unhandled requests, in order of arrival. A request counts as of the
  -- group in whose queue it stands, and a reply to it goes to the group that it names; in a replica that was made the two are one: the
  -- law `run_sound`
  pub pending : ℕ → List Pending
  -- the last accepted local time, of a delivery or a step
  pub last : LocalTime

-- the state with another part
abbrev pub with_store : Store → State → State
with_store store s = record { settings = s.settings; number = s.number; store = store; pending = s.pending; last = s.last }

-- the queues, that of one group replaced
abbrev pub replace : ℕ → List Pending → (ℕ → List Pending) → ℕ → List Pending
replace group queue pending g = cond (eqb g group) queue (pending g)

abbrev pub with_queue : ℕ → List Pending → State → State
with_queue group queue s =
    record { settings = s.settings; number = s.number; store = s.store; pending = replace group queue s.pending; last = s.last }

abbrev pub at_time : LocalTime → State → State
at_time now s = record { settings = s.settings; number = s.number; store = s.store; pending = s.pending; last = now }

-- how many requests of groups 1 to n are pending
abbrev pub pending_in : ℕ → (ℕ → List Pending) → ℕ
pending_in zero pending = 0
pending_in (suc n) pending = pending_in n pending + length (pending (suc n))

-- ── making ──

-- 1 to 4: of the settings
abbrev pub settings_questions : Settings → List Question
settings_questions u =
    unit_questions u.k u.groups
    ++ ((within 1 u.groups u.owner else 3)
    ∷ (leb u.delta max_delta else 4)
    ∷ [])

-- and 5: of the replica's number
abbrev pub make_questions : Settings → ℕ → List Question
make_questions u number = settings_questions u ++ ((within 1 (2 * u.k + 1) number else 5) ∷ [])

abbrev pub new_state : Settings → ℕ → State
new_state u number = record { settings = u; number = number; store = new_store; pending = λ group. []; last = record { 0 = 0 } }

unfoldable pub make : Settings → ℕ → Answer State
make u number = ask (make_questions u number) (given (new_state u number))

-- ── delivery ──

-- at most 2^62, and not below the last accepted one
abbrev pub time_questions : LocalTime → LocalTime → List Question
time_questions last now = (leb now.0 max_time else 12) ∷ (leb last.0 now.0 else 13) ∷ []

-- then whether there is a place, where the sender's group has so many pending
abbrev pub place_questions : LocalTime → ℕ → LocalTime → List Question
place_questions last count now = time_questions last now ++ ((ltb count places else 14) ∷ [])

-- the request questions, with the replica's own k and N, then those
unfoldable pub admit : State → List ℕ → LocalTime → Answer Request
admit s bytes now =
    bind (read_request s.settings.k s.settings.groups bytes)
    (λ r. ask (place_questions s.last (length (s.pending r.group)) now) (given r))

-- the state with one more pending request, the last of its group
abbrev pub arrive : State → Request → LocalTime → State
arrive s r now = at_time now (with_queue r.group (s.pending r.group ++ (record { request = r; arrival = now } ∷ [])) s)

unfoldable pub deliver : State → List ℕ → LocalTime → Answer State
deliver s bytes now = map_answer (λ r. arrive s r now) (admit s bytes now)

-- ── the batch of a group ──

abbrev pub stamped : Timestamp → Request → Bool
stamped t r = eqb r.timestamp.0 t.0

abbrev pub lesser : Timestamp → Timestamp → Timestamp
lesser t u = record { 0 = min t.0 u.0 }

-- the least of a timestamp and those of a list of requests
abbrev pub lowest : Timestamp → List Request → Timestamp
lowest t [] = t
lowest t (r ∷ requests) = lesser r.timestamp (lowest t requests)

-- the least timestamp of a list of requests; 0 where there is none
abbrev pub least : List Request → Timestamp
least [] = record { 0 = 0 }
least (r ∷ requests) = lowest r.timestamp requests

abbrev pub requests_of : List Pending → List Request
requests_of pending = map (λ p. p.request) pending

-- the least timestamp of a queue
abbrev pub head_timestamp : List Pending → Timestamp
head_timestamp queue = least (requests_of queue)

-- the requests of a queue with a timestamp
abbrev pub batch_at : Timestamp → List Pending → List Pending
batch_at t queue = keep (λ p. stamped t p.request) queue

-- document 01's head: those with the least timestamp
abbrev pub batch_of : List Pending → List Pending
batch_of queue = batch_at (head_timestamp queue) queue

-- what stays when they are taken off
abbrev pub others : List Pending → List Pending
others queue = keep (λ p. not (stamped (head_timestamp queue) p.request)) queue

abbrev pub earlier : LocalTime → LocalTime → LocalTime
earlier a b = record { 0 = min a.0 b.0 }

-- the earliest of a local time and the arrivals of a list
abbrev pub earliest : LocalTime → List Pending → LocalTime
earliest at [] = at
earliest at (p ∷ pending) = earlier p.arrival (earliest at pending)

-- document 01's ripe: the batch's first arrival lies more than δ back. An empty batch is not stable
abbrev pub is_stable : ℕ → LocalTime → List Pending → Bool
is_stable delta now [] = false
is_stable delta now (p ∷ batch) = ltb ((earliest p.arrival batch).0 + delta) now.0

-- ── a step (document 01's turn): one pass of Figure 1's major loop ──

-- what the visit of a group works on: the store, and the group's queue
pub record Part : Type 0 where
  pub store : Store
  pub queue : List Pending

abbrev pub part_of : ℕ → State → Part
part_of group s = record { store = s.store; queue = s.pending group }

abbrev pub with_part : ℕ → Part → State → State
with_part group part s = with_queue group part.queue (with_store part.store s)

-- the group's batch is taken off and handled
unfoldable pub handle_batch : Settings → ℕ → ℕ → Part → Effect Part
handle_batch u replica group part =
    let done = handle u replica group (head_timestamp part.queue) (requests_of (batch_of part.queue)) part.store in
    record { state = record { store = done.state; queue = others part.queue }; sent = done.sent }

-- while the group's batch is stable, it is handled. Each handled batch takes a request off or more, so as many looks as the queue has
-- requests are enough: the law `visit_settles` says that no stable batch is left
unfoldable pub visit : Settings → ℕ → ℕ → LocalTime → ℕ → Part → Effect Part
visit u replica group now zero part = still part
visit u replica group now (suc looks) part =
    cond (is_stable u.delta now (batch_of part.queue))
    (follow (handle_batch u replica group part) (λ next. visit u replica group now looks next))
    (still part)

-- the visit of a group, in a state
unfoldable pub visit_group : ℕ → LocalTime → State → Effect State
visit_group group now s =
    let done = visit s.settings s.number group now (length (s.pending group)) (part_of group s) in
    record { state = with_part group done.state s; sent = done.sent }

-- the visits of groups 1 to n
unfoldable pub visits : ℕ → LocalTime → State → Effect State
visits zero now s = still s
visits (suc n) now s = follow (visits n now s) (λ t. visit_group (suc n) now t)

-- an output at whose start records stand: how many, and its bytes
pub record Written : Type 0 where
  pub count : ℕ
  pub output : List ℕ

abbrev pub written : ℕ → List ℕ → Written
written count output = record { count = count; output = output }

-- what is written through the part of the output that begins where the last record ended; a refusal leaves all as it was
abbrev pub behind : Written → Answer (List ℕ) → Written
behind w (given rest) = record { count = w.count + 1; output = take (record_size * w.count) w.output ++ rest }
behind w (refused number) = w

-- one more message
unfoldable pub put : ℕ → ℕ → Written → Message → Written
put k n w m = behind w (write_message k n m (drop (record_size * w.count) w.output))

-- the messages one after the other. Those of a replica that was made are all written: the law `written-records`
unfoldable pub put_all : ℕ → ℕ → Written → List Message → Written
put_all k n w [] = w
put_all k n w (m ∷ messages) = put_all k n (put k n w m) messages

-- what an accepted step leaves: the state, the output, and how many records stand at its start
pub record Stepped : Type 0 where
  pub state : State
  pub count : ℕ
  pub output : List ℕ

unfoldable pub stepped : State → LocalTime → List ℕ → Stepped
stepped s now output =
    let done = visits s.settings.groups now (at_time now s) in
    let w = put_all s.settings.k s.settings.groups (written 0 output) done.sent in
    record { state = done.state; count = w.count; output = w.output }

abbrev pub step_questions : LocalTime → LocalTime → ℕ → List Question
step_questions last now room = time_questions last now ++ ((leb output_size room else 15) ∷ [])

unfoldable pub step : State → LocalTime → List ℕ → Answer Stepped
step s now output = ask (step_questions s.last now (length output)) (given (stepped s now output))
