-- The rules' own runs, and their accounts.
use Rattle.std.specs.Prelude.{ℕ, Bool, List}
use Rattle.rules.specs.Replica.{new_state}
use Rattle.rules.specs.Run.{Call, run, exchanges, Ran}
use Rattle.rules.specs.declared.Settings.{Settings}
use Rattle.failstop.specs.Suppose.{Account, account_in, Correct}

-- of the run of a replica, newly made, on a list of calls
abbrev pub account : Settings → ℕ → List Call → Account
account u number calls =
    let s = new_state u number in
    account_in u (exchanges s calls) (run s calls).state.store

-- each replica on its own list
abbrev pub account_of : Settings → (ℕ → List Call) → ℕ → Account
account_of u calls i = account u i (calls i)

-- each correct replica was made with the unit's settings and its own number, and its calls deliver bytes
abbrev pub AllRan : Settings → (ℕ → Bool) → (ℕ → List Call) → Type 0
AllRan u faulty calls = (i : ℕ) → Correct u faulty i → Ran u i (calls i)
