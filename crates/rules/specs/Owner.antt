-- Document 02, A3: what the owner has of a run. It is told by what passes in the calls, and by the state at the end.
use Rattle.std.specs.Prelude.{ℕ, Bool, cond, eqb}
use mathlib.Core.List.{List, [], ◌∷◌, flat_map}
use Rattle.question.specs.Question.{Answer, Worked}
use Rattle.layout.specs.Layout.{field}
use Rattle.record.specs.declared.message.Message.{Message}
use Rattle.rules.specs.Batch.{Store}
use Rattle.rules.specs.Replica.{State, new_state}
use Rattle.rules.specs.Run.{Call, to_group, run, Exchange, delivered, turned, exchanges, sent_in}
use Rattle.rules.specs.declared.Pending.{Pending}
use Rattle.rules.specs.declared.Settings.{Settings}

-- a delivery is the owner's if byte 1 names its group, whatever else the bytes say; every other is a guest's. Where there is no byte 1
-- it counts as 0, which no owner is
abbrev pub is_owners : Settings → List ℕ → Bool
is_owners u bytes = eqb (field bytes 1 1) u.owner

-- the answer to one of its deliveries
abbrev pub owner_answer : Settings → Exchange → List (Answer Worked)
owner_answer u (delivered bytes now answer) = cond (is_owners u bytes) (answer ∷ []) []
owner_answer u (turned now answer) = []

-- what a step sent its processes, in order; a refused step sent nothing
abbrev pub owner_sent : Settings → Exchange → List (List Message)
owner_sent u (delivered bytes now answer) = []
owner_sent u (turned now answer) = to_group u.owner (sent_in (turned now answer)) ∷ []

-- ── what the owner has of a run ──

pub record View : Type 0 where
  -- the 256 variables, of which variable 0 is the failed mark, and the writes performed
  pub store : Store
  -- its pending requests with their arrivals
  pub pending : List Pending
  -- the answer to each of its deliveries, in order: that it worked, or the number of its refusal
  pub answers : List (Answer Worked)
  -- of each step the replies and halts to its processes, in order
  pub sent : List (List Message)

-- by the state at the end, and what passed before
abbrev pub view : Settings → State → List Exchange → View
view u s past = record {
  store = s.store;
  pending = s.pending u.owner;
  answers = flat_map (owner_answer u) past;
  sent = flat_map (owner_sent u) past;
}

-- of a run from a state
abbrev pub view_of : Settings → State → List Call → View
view_of u s calls = view u (run s calls).state (exchanges s calls)

-- of a run from new
abbrev pub owner_view : Settings → ℕ → List Call → View
owner_view u number calls = view_of u (new_state u number) calls
