-- Document 02, A3: guests leave the owner untouched (the field's noninterference). Two runs of replicas set up alike have the same
-- deliveries of the owner and the same steps, in the same order; what the guests deliver differs as it will. The owner has the same of both.
use Rattle.std.specs.Prelude.{ℕ, ◌≡◌, Bool, true, cond, ◌&&◌, leb}
use mathlib.Core.List.{List, [], ◌∷◌, flat_map}
use Rattle.question.specs.Question.{is_given}
use Rattle.layout.specs.declared.clock.LocalTime.{LocalTime}
use Rattle.rules.specs.Lists.{every}
use Rattle.rules.specs.Replica.{new_state}
use Rattle.rules.specs.Run.{Call, Exchange, delivered, turned, exchanges, Ran}
use Rattle.rules.specs.Owner.{is_owners, owner_view}
use Rattle.rules.specs.declared.Settings.{Settings}

-- ── what is supposed of what passed in two runs ──

abbrev pub time_of : Exchange → LocalTime
time_of (delivered bytes now answer) = now
time_of (turned now answer) = now

-- no call, accepted or refused, has a local time below that of the call before it
abbrev pub never_back : LocalTime → List Exchange → Bool
never_back before [] = true
never_back before (x ∷ past) = leb before.0 (time_of x).0 && never_back (time_of x) past

abbrev pub step_accepted : Exchange → Bool
step_accepted (delivered bytes now answer) = true
step_accepted (turned now answer) = is_given answer

-- one of the owner's deliveries, or a step, without what came of it
pub data OwnerCall : Type 0 where
  delivers : List ℕ → LocalTime → OwnerCall
  steps : LocalTime → OwnerCall

abbrev pub owner_call : Settings → Exchange → List OwnerCall
owner_call u (delivered bytes now answer) = cond (is_owners u bytes) (delivers bytes now ∷ []) []
owner_call u (turned now answer) = steps now ∷ []

-- in order
abbrev pub owner_calls : Settings → List Exchange → List OwnerCall
owner_calls u past = flat_map (owner_call u) past

-- of each run: its local times never go back, and all its steps are accepted
pub record Steady (past : List Exchange) : Type 0 where
  pub forward : never_back (record { 0 = 0 }) past ≡ true
  pub accepted : every step_accepted past ≡ true

-- of both: the same calls of the owner
pub record Supposed (u : Settings) (a b : List Exchange) : Type 0 where
  pub left : Steady a
  pub right : Steady b
  pub same : owner_calls u a ≡ owner_calls u b

-- ── what is claimed, of the rules' own runs ──

abbrev pub Isolation : Type 0
Isolation = (u : Settings) (number : ℕ) (a b : List Call) → Ran u number a → Ran u number b
    → Supposed u (exchanges (new_state u number) a) (exchanges (new_state u number) b) → owner_view u number a ≡ owner_view u number b
