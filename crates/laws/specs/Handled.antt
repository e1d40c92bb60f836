-- What a step handles, said without its loop. A request counts as of the group in whose queue it stands.
use Rattle.std.specs.Prelude.{ℕ, ◌≤◌, ◌≡◌, Bool, true, ◌&&◌, ◌||◌, leb, ltb}
use mathlib.Core.List.{List, flat_map, Memᴰ}
use Rattle.question.specs.Question.{within}
use Rattle.layout.specs.declared.clock.Timestamp.{Timestamp}
use Rattle.layout.specs.declared.clock.LocalTime.{LocalTime}
use Rattle.record.specs.declared.request.Request.{Request}
use Rattle.record.specs.declared.message.Message.{Message}
use Rattle.rules.specs.Lists.{keep, every, up_to}
use Rattle.rules.specs.Batch.{Store, handle}
use Rattle.rules.specs.Replica.{State, requests_of, batch_at, is_stable}
use Rattle.rules.specs.Machine.{occurring, react_all}
use Rattle.rules.specs.declared.Pending.{Pending}

-- ── which requests ──

-- with a timestamp or a lesser one
abbrev pub not_after : Timestamp → Pending → Bool
not_after t p = leb p.request.timestamp.0 t.0

-- the batch of the queue with its timestamp is stable
abbrev pub batch_stable : ℕ → LocalTime → List Pending → Pending → Bool
batch_stable delta now queue p = is_stable delta now (batch_at p.request.timestamp queue)

-- every batch of the queue, up to a timestamp, is stable
unfoldable pub cleared : ℕ → LocalTime → List Pending → Timestamp → Bool
cleared delta now queue t = every (batch_stable delta now queue) (keep (not_after t) queue)

-- the same, said of each request
abbrev pub StableUpTo : ℕ → LocalTime → List Pending → Timestamp → Type 0
StableUpTo delta now queue t =
    (p : Pending) → Memᴰ p queue → p.request.timestamp.0 ≤ t.0 → is_stable delta now (batch_at p.request.timestamp queue) ≡ true

-- the visit of the queue's group handles it
abbrev pub cleared_of : ℕ → LocalTime → List Pending → Pending → Bool
cleared_of delta now queue p = cleared delta now queue p.request.timestamp

-- the visits of groups 1 to n handle it, where it stands in the queue of a group
abbrev pub handled_in : ℕ → State → LocalTime → ℕ → Pending → Bool
handled_in n s now group p = within 1 n group && cleared_of s.settings.delta now (s.pending group) p

-- a step at this time handles it
abbrev pub handled : State → LocalTime → ℕ → Pending → Bool
handled s now group p = handled_in s.settings.groups s now group p

-- ── in which store, with which messages ──

-- the owner's requests that the visits of groups 1 to n handle
abbrev pub own_handled : ℕ → State → LocalTime → List Request
own_handled n s now = requests_of (keep (handled_in n s now s.settings.owner) (s.pending s.settings.owner))

-- of the owner's requests: the owner is visited before the group, or the timestamp is lesser
abbrev pub precedes : State → ℕ → Timestamp → Request → Bool
precedes s group t r = ltb s.settings.owner group || ltb r.timestamp.0 t.0

-- the owner's requests that a step handles before it comes to a group's batch with a timestamp
abbrev pub own_before : State → LocalTime → ℕ → Timestamp → List Request
own_before s now group t = keep (precedes s group t) (own_handled group s now)

-- what the owner's requests leave of the store, each timestamp's as one batch
abbrev pub left_by : State → List Request → Store
left_by s requests = (react_all s.settings.k s.settings.owner requests (occurring requests) s.store).state

-- the store when that batch is handled
abbrev pub store_when : State → LocalTime → ℕ → Timestamp → Store
store_when s now group t = left_by s (own_before s now group t)

-- the messages that are sent for it
abbrev pub batch_sent : State → LocalTime → ℕ → Timestamp → List Message
batch_sent s now group t = (handle s.settings s.number group t (requests_of (batch_at t (s.pending group))) (store_when s now group t)).sent

-- those of the visit of a group, by rising timestamp
abbrev pub visit_sent : State → LocalTime → ℕ → List Message
visit_sent s now group =
    flat_map (batch_sent s now group) (occurring (requests_of (keep (cleared_of s.settings.delta now (s.pending group)) (s.pending group))))

-- those of a step, by ascending group
abbrev pub step_sent : State → LocalTime → List Message
step_sent s now = flat_map (visit_sent s now) (up_to s.settings.groups)

-- a message for the batch of a handled request
abbrev pub ForHandled : State → LocalTime → Message → Type 0
ForHandled s now m =
    (group : ℕ) × (p : Pending) × Memᴰ p (s.pending group) × (handled s now group p ≡ true) × Memᴰ m (batch_sent s now group p.request.timestamp)
