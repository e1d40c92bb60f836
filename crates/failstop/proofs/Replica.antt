-- One replica from new: after its run it holds the machine's store, and has sent the owner the machine's messages in the machine's
-- order, on its own arrivals exactly.
use Prim.Native.Nat.{ℕ}
use mathlib.Core.Path.{◌≡◌, sym, ◌∙◌, ap}
use mathlib.Core.Logic.{inl, inr, ⊎_elim}
use mathlib.Core.List.Memᴰ
use mathlib.Core.List.{List, [], append-nil}
use Rattle.rules.specs.Batch.{Effect}
use Rattle.rules.specs.declared.Settings.{Settings}
use Rattle.rules.specs.Replica.{State, new_state, requests_of}
use Rattle.rules.specs.Run.{Call, to_group, run, arrivals, exchanges}
use Rattle.rules.specs.Machine.{machine}
use Rattle.failstop.specs.Suppose.{ArrivalRule, Closed}
use Rattle.failstop.specs.Runs.{account}
use Rattle.rules.specs.declared.Pending.{Pending}
use Rattle.laws.proofs.Lists.{no_member}
use Rattle.laws.proofs.Machine.{machine_from_new, machine_none}
use Rattle.laws.proofs.Accepted.{Made}
use Rattle.laws.proofs.Verdict.{signed}
use Rattle.failstop.proofs.Arrivals.{Going, run-pending, arrivals_loose}
use Rattle.failstop.proofs.Runs.{Underway, run-matched}
use Rattle.failstop.proofs.Closing.{run-empty}

module _ (u : Settings) (me : ℕ) (ok : Made u me) (calls : List Call) (going : Going u me (new_state u me) calls) where
  abbrev new : State
  new = new_state u me

  abbrev all : List Pending
  all = arrivals u (exchanges (new_state u me) calls)

  abbrev done : Effect State
  done = run (new_state u me) calls

  start : Underway u me all new calls
  start = record { going = going; pending = λ p i. absurd (Memᴰ.not-nil i); coming = λ p i. i }

  nothing_left : Closed u.delta (account u me calls) → done.state.pending u.owner ≡ []
  nothing_left (inl e) = run-empty u me ok all calls new start e
  nothing_left (inr e) = no_member _ (λ p i. ⊎_elim
      Memᴰ.not-nil
      (λ j. Memᴰ.not-nil (rw e at j))
      (run-pending u me ok calls new going p i))

  pub run_is_machine : ArrivalRule u.delta all → Closed u.delta (account u me calls)
      → record { state = done.state.store; sent = to_group u.owner done.sent } ≡ signed me (machine u.k u.owner (requests_of all))
  run_is_machine rule closed =
      let loose = arrivals_loose u me ok calls new going rule in
      let still = machine_none u.k u.owner done.state.store in
      sym (ap (signed me) (machine_from_new u.k u.owner (requests_of all)) ∙ run-matched u me ok all loose calls new start
      ∙ rw (nothing_left closed, still, append-nil (to_group u.owner done.sent)))
