-- Document 02, A3, of the code: guests leave the owner untouched. Two lives of replicas that the code made and ran, with the same settings and
-- the same number.
use Rattle.std.specs.Prelude.{ℕ, ◌≡◌}
use Rattle.rules.specs.Owner.{View, view}
use Rattle.rules.specs.declared.Settings.{Settings}
use Rattle.isolation.specs.Isolation.{Supposed}
use Rattle.state.specs.State.{state_of}
use Rattle.unit.specs.Life.{Life, Lived, past_in}

-- what the owner has of a life
abbrev pub view_in : Settings → Life → View
view_in u l = view u (state_of l.last) (past_in u l)

-- what is claimed
abbrev pub IsolationOfCode : Type 0
IsolationOfCode = (u : Settings) (number : ℕ) (a b : Life) → Lived u number a → Lived u number b
    → Supposed u (past_in u a) (past_in u b) → view_in u a ≡ view_in u b
