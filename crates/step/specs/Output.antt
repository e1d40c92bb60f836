-- What a step has reached while it writes its output.
use Rattle.std.specs.Prelude.{ℕ, List}
use Rattle.layout.specs.declared.clock.LocalTime.{LocalTime}
use Rattle.rules.specs.Batch.{Store, Effect}
use Rattle.rules.specs.Replica.{State, Part, Written, written, put_all}
use Rattle.rules.specs.declared.Pending.{Pending}
use Rattle.rules.specs.declared.Settings.{Settings}
use Rattle.queue.specs.Queue.{places_in, waiting, queues_in}
use Rattle.step.specs.declared.handle.Progress.{Progress}
use Rattle.step.specs.declared.handle.Tally.{Tally}

-- a state, or a part of one, and the output
pub record Reached (S : Type 0) : Type 0 where
  pub state : S
  pub output : Written

-- what an effect leaves where records stood before
abbrev pub sends : {S : Type 0} → Settings → Written → Effect S → Reached S
sends u w e = record { state = e.state; output = put_all u.k u.groups w e.sent }

abbrev pub store_in : List ℕ → ℕ → Store
store_in variables writes = record { variables = variables; writes = writes }

abbrev pub reached_store : Tally → List ℕ → List ℕ → Reached Store
reached_store t variables output = record { state = store_in variables t.writes; output = written t.count output }

-- ── the visit of one group ──

-- all rows of a slice are pending
abbrev pub part_of_rows : Tally → List (List ℕ) → List ℕ → Part
part_of_rows t queue variables = record { store = store_in variables t.writes; queue = places_in queue }

-- as many of its rows as are left
abbrev pub part_in : Progress → List (List ℕ) → List ℕ → Part
part_in p queue variables = record { store = store_in variables p.tally.writes; queue = waiting queue p.left }

abbrev pub reached : Progress → List (List ℕ) → List ℕ → List ℕ → Reached Part
reached p queue variables output = record { state = part_in p queue variables; output = written p.tally.count output }

-- ── the visits of all ──

-- a replica whose queues, writes and variables are these
abbrev pub state_in : Settings → ℕ → LocalTime → (ℕ → List Pending) → ℕ → List ℕ → State
state_in u number last queues writes variables =
    record { settings = u; number = number; store = store_in variables writes; pending = queues; last = last }

abbrev pub reached_all : Settings → ℕ → LocalTime → Tally → List (List ℕ) → List ℕ → List ℕ → List ℕ → Reached State
reached_all u number last t pending counts variables output =
    record { state = state_in u number last (queues_in pending counts) t.writes variables; output = written t.count output }
