-- Document 01's sizes and limits, each said once. src/lib.rt has the same numbers for the code.
use Rattle.std.specs.Prelude.{ℕ, ◌-◌, ◌*◌, ◌^◌}

-- k is at most this
abbrev pub max_k : ℕ
max_k = 3

-- document 01's N, the number of groups, is at most this
abbrev pub max_groups : ℕ
max_groups = 4

-- δ is at most this, in units of a replica's clock
abbrev pub max_delta : ℕ
max_delta = 1000000

-- the latest local time, document 01's reading
abbrev pub max_time : ℕ
max_time = 2 ^ 62

-- the variables of a copy
abbrev pub variable_count : ℕ
variable_count = 256

-- the count of writes performed holds at this, the greatest 64-bit number
abbrev pub max_writes : ℕ
max_writes = 2 ^ 64 - 1

-- the pending requests that a replica has places for, of each group
abbrev pub places : ℕ
places = 16

-- and of all of them together
abbrev pub all_places : ℕ
all_places = max_groups * places

-- the replicas of the largest unit, 2k + 1, and the places, queues and variables of all of them
abbrev pub max_replicas : ℕ
max_replicas = 7

abbrev pub unit_places : ℕ
unit_places = max_replicas * all_places

abbrev pub unit_queues : ℕ
unit_queues = max_replicas * max_groups

abbrev pub unit_variables : ℕ
unit_variables = max_replicas * variable_count

-- the bytes of a record, and those of an entry of a journal
abbrev pub record_size : ℕ
record_size = 24

abbrev pub entry_size : ℕ
entry_size = 40

-- the greatest place of a record that a journal counts to, the greatest 64-bit number
abbrev pub max_place : ℕ
max_place = 2 ^ 64 - 1

-- the records that a step may send, and the bytes that it must be lent for them
abbrev pub max_sent : ℕ
max_sent = 67

abbrev pub output_size : ℕ
output_size = max_sent * record_size

-- the messages of a list that is voted on
abbrev pub max_list : ℕ
max_list = 64
