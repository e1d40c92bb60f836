-- The numbers that a replica can have, in any unit, and those that a set (crates/rules, specs/Sets.antt) could still take.
use Rattle.std.specs.Prelude.{ℕ, ◌+◌, ◌*◌, Bool, not, ◌&&◌}
use Rattle.limits.specs.Limits.{max_k}
use Rattle.question.specs.Question.{within}
use Rattle.rules.specs.Sets.{has}

-- the highest number that a replica has, in any unit
abbrev pub last_replica : ℕ
last_replica = 2 * max_k + 1

-- the numbers that a replica can have, in any unit
abbrev pub is_replica : ℕ → Bool
is_replica number = within 1 last_replica number

-- whether a set could have a replica and does not
abbrev pub lacks : ℕ → ℕ → Bool
lacks set replica = is_replica replica && not (has set replica)
