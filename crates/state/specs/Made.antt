-- What is made: a new replica; and what stands where none was made.
use Rattle.std.specs.Prelude.{ℕ, replicate}
use Rattle.limits.specs.Limits.{max_groups, variable_count, all_places}
use Rattle.rules.specs.Replica.{State}
use Rattle.rules.specs.declared.Settings.{Settings}
use Rattle.state.specs.State.{free, state_of}
use Rattle.state.specs.declared.state.Replica.{Replica}

abbrev pub new_replica : Settings → ℕ → Replica
new_replica u number = record {
  settings = u;
  number = number;
  last = record { 0 = 0 };
  variables = replicate variable_count 0;
  pending = replicate all_places free;
  counts = replicate max_groups 0;
  writes = 0;
}

-- what stands where a making was refused: zeros. It is no unit's replica, so it refuses every delivery, and a step of it
-- only notes the time: `blank_refuses` and `blank_stands` (proofs/Blank.antt)
abbrev pub blank_replica : Replica
blank_replica = new_replica (record { k = 0; groups = 0; owner = 0; delta = 0 }) 0

abbrev pub blank_state : State
blank_state = state_of blank_replica
