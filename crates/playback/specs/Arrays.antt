-- The unit that the arrays lent to a call stand for: seven replicas side by side, of which the first 2k + 1 are the unit's.
use Rattle.std.specs.Prelude.{ℕ, zero, suc, ◌≡◌, Bool, false, cond, List, leb, ltb, get_or}
use Rattle.limits.specs.Limits.{max_k, max_groups, all_places, variable_count, max_replicas}
use Rattle.rules.specs.declared.Settings.{Settings}
use Rattle.rules.specs.Replica.{State, new_state}
use Rattle.state.specs.State.{part_at}
use Rattle.queue.specs.Queue.{queues_in}
use Rattle.step.specs.Output.{state_in}
use Rattle.transcript.specs.Journal.{Unit, fresh, playing, stopped}
use Rattle.playback.specs.declared.stage.Stage.{Stage}
use Rattle.playback.specs.declared.stage.Stage.TheVariants.{First, Playing, Stopped}
use Rattle.playback.specs.declared.unit.Replicas.{Replicas}

-- of each replica 64 rows, four counts, 256 variables, the writes performed and the last accepted local time; rows at and past a count are free
pub record Arrays : Type 0 where
  pub pending : List (List ℕ)
  pub counts : List ℕ
  pub variables : List ℕ
  pub writes : List ℕ
  pub lasts : List ℕ

abbrev pub arrays : List (List ℕ) → List ℕ → List ℕ → List ℕ → List ℕ → Arrays
arrays pending counts variables writes lasts =
    record { pending = pending; counts = counts; variables = variables; writes = writes; lasts = lasts }

-- what stands in arrays that are lent
abbrev pub arrays_of : Replicas → Arrays
arrays_of r = arrays r.pending.now r.counts.now r.variables.now r.writes.now r.lasts.now

-- the arrays that are lent are the same ones, whatever stands in them
abbrev pub SameArrays : Replicas → Replicas → Type 0
SameArrays old new =
    (new.pending.ghost_name ≡ old.pending.ghost_name)
    × (new.counts.ghost_name ≡ old.counts.ghost_name)
    × (new.variables.ghost_name ≡ old.variables.ghost_name)
    × (new.writes.ghost_name ≡ old.writes.ghost_name)
    × (new.lasts.ghost_name ≡ old.lasts.ghost_name)

-- the replica at a place, from 0
abbrev pub state_at : Settings → Arrays → ℕ → State
state_at u a i =
    state_in u (suc i) (record { 0 = get_or a.lasts i 0 })
    (queues_in (part_at all_places i a.pending) (part_at max_groups i a.counts))
    (get_or a.writes i 0)
    (part_at variable_count i a.variables)

-- each replica by its number; a number that stands for none has a new one
unfoldable pub replica_at : Settings → Arrays → ℕ → State
replica_at u a zero = new_state u 0
replica_at u a (suc i) = cond (ltb i max_replicas) (state_at u a i) (new_state u (suc i))

-- no unit has a k past 3: what says so counts as stopped
abbrev pub is_set_up : Stage → Bool
is_set_up First = false
is_set_up (Playing u place) = leb u.k max_k
is_set_up Stopped = false

abbrev pub unit_in : Stage → Arrays → Unit
unit_in First a = fresh
unit_in (Playing u place) a = cond (leb u.k max_k) (playing u place (replica_at u a)) stopped
unit_in Stopped a = stopped
