-- The head of a queue as the code finds it, request by request: its least timestamp and first arrival.
use Rattle.std.specs.Prelude.{ℕ, ◌+◌, Bool, cond, List, fold, ltb, Option, Some, None}
use Rattle.layout.specs.declared.clock.Timestamp.{Timestamp}
use Rattle.layout.specs.declared.clock.LocalTime.{LocalTime}
use Rattle.record.specs.declared.request.Request.{Request}
use Rattle.rules.specs.Replica.{requests_of, batch_at, earlier}
use Rattle.rules.specs.declared.Pending.{Pending}
use Rattle.queue.specs.Queue.{places_in}
use Rattle.batch.specs.declared.pending.Head.{Head}
use Rattle.batch.specs.declared.pending.Batch.{Batch}

abbrev pub at : Timestamp → LocalTime → Head
at t first = record { timestamp = t; first = first }

abbrev pub join : Option Head → Timestamp → LocalTime → Option Head
join None t arrival = Some (at t arrival)
join (Some h) t arrival =
    cond (ltb t.0 h.timestamp.0) (Some (at t arrival))
    (cond (ltb h.timestamp.0 t.0) (Some h) (Some (at h.timestamp (earlier h.first arrival))))

abbrev pub meet : Option Head → Pending → Option Head
meet h p = join h p.request.timestamp p.arrival

-- a head carried through a list, from its front
abbrev pub head_in : List Pending → Option Head
head_in queue = fold meet None queue

-- first + δ < at
abbrev pub is_late : LocalTime → ℕ → LocalTime → Bool
is_late first delta now = ltb (first.0 + delta) now.0

-- the head, where its first arrival is late
abbrev pub where_late : ℕ → LocalTime → Option Head → Option Head
where_late delta now None = None
where_late delta now (Some h) = cond (is_late h.first delta now) (Some h) None

-- ── the requests of a queue with a timestamp ──

abbrev pub requests_at : Timestamp → List Pending → List Request
requests_at t queue = requests_of (batch_at t queue)

-- those that an iterator has left
abbrev pub left_in : Batch → List Request
left_in batch = requests_at batch.t (places_in batch.rows.now)
