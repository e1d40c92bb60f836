-- The state of the rules that a replica's struct stands for.
use Rattle.std.specs.Prelude.{ℕ, zero, suc, ◌*◌, List, [], get_or, take, drop}
use Rattle.limits.specs.Limits.{places}
use Rattle.record.specs.Record.{blank_request}
use Rattle.rules.specs.Replica.{State}
use Rattle.rules.specs.declared.Pending.{Pending}
use Rattle.state.specs.declared.state.Replica.{Replica}

-- of a list in parts of one width the i-th, from 0
abbrev pub part_at : {A : Type 0} → ℕ → ℕ → List A → List A
part_at width i l = take width (drop (width * i) l)

-- a group's sixteen places, by its place among the groups
abbrev pub places_from : ℕ → List Pending → List Pending
places_from i pending = part_at places i pending

-- a group's queue: of its places the first, as many as are counted. What stands behind them is free. All that stands there counts as of
-- this group, whichever group it names. There is no group 0, and a group past the last count has no queue
unfoldable pub queue_of : List Pending → List ℕ → ℕ → List Pending
queue_of pending counts zero = []
queue_of pending counts (suc i) = take (get_or counts i 0) (places_from i pending)

abbrev pub state_of : Replica → State
state_of r = record {
  settings = r.settings;
  number = r.number;
  store = record { variables = r.variables; writes = r.writes };
  pending = queue_of r.pending r.counts;
  last = r.last;
}

-- what a free place holds
abbrev pub free : Pending
free = record { request = blank_request; arrival = record { 0 = 0 } }
