-- What rows hold: the places that they stand for, one queue, and the queue of each group.
use Rattle.std.specs.Prelude.{ℕ, zero, suc, List, map, get_or, set, take}
use Rattle.rules.specs.declared.Pending.{Pending}
use Rattle.state.specs.State.{queue_of}
use Rattle.queue.specs.Row.{pending_of}

-- a place for each row
abbrev pub places_in : List (List ℕ) → List Pending
places_in rows = map pending_of rows

-- the pending requests: the first, as many as are counted. What stands behind them is free
abbrev pub waiting : List (List ℕ) → ℕ → List Pending
waiting rows count = take count (places_in rows)

-- there is no group 0, and a group past the last count has none
abbrev pub count_of : List ℕ → ℕ → ℕ
count_of counts zero = 0
count_of counts (suc i) = get_or counts i 0

abbrev pub set_count : List ℕ → ℕ → ℕ → List ℕ
set_count counts zero count = counts
set_count counts (suc i) count = set counts i count

-- the queue of each group
abbrev pub queues_in : List (List ℕ) → List ℕ → ℕ → List Pending
queues_in rows counts = queue_of (places_in rows) counts
