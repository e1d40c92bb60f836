-- The third demand of the code: a unit of replicas that the code made and ran, and votes and halt counts of the code on their messages.
use Rattle.std.specs.Prelude.{ℕ, ◌+◌, ◌≤◌, ◌≡◌, Bool, length, Result, Ok}
use mathlib.Core.List.{List, Memᴰ}
use Rattle.limits.specs.Limits.{max_list}
use Rattle.question.specs.declared.refusal.Refusal.{Refusal}
use Rattle.record.specs.declared.message.Message.{Message}
use Rattle.record.specs.declared.request.Request.{Request}
use Rattle.rules.specs.Batch.{failed}
use Rattle.rules.specs.Vote.{query_of}
use Rattle.rules.specs.declared.Election.{Election}
use Rattle.rules.specs.declared.HaltCount.{HaltCount}
use Rattle.rules.specs.declared.Settings.{Settings}
use Rattle.failstop.specs.Suppose.{Account, account_in, Correct, Authentic, CompleteForRead, CompleteForHalts, Supposed}
use Rattle.failstop.specs.Demand3.{machine_of, value_at, Unmixed, Returns, Reaches, Demand3}
use Rattle.state.specs.State.{state_of}
use Rattle.vote.proofs.Called.{Votes, Counts}
use Rattle.unit.specs.Life.{Life, Lived, past_in}

-- the account that a life gives of itself
abbrev pub life_account : Settings → Life → Account
life_account u l = account_in u (past_in u l) (state_of l.last).store

-- the replicas' own accounts
abbrev pub accounts : Settings → (ℕ → Life) → ℕ → Account
accounts u lives i = life_account u (lives i)

-- what is supposed: the code made and ran each correct replica, and the accounts meet all that the third demand supposes
pub record UnitRan (u : Settings) (faulty : ℕ → Bool) (lives : ℕ → Life) (bag : List Request) : Type 0 where
  pub lived : (i : ℕ) → Correct u faulty i → Lived u i (lives i)
  pub supposed : Supposed u faulty (accounts u lives) bag

-- what is claimed
pub record Demand3OfCode (u : Settings) (faulty : ℕ → Bool) (lives : ℕ → Life) (bag : List Request) : Type 0 where
  -- the third demand, of the accounts
  pub claims : Demand3 u faulty (accounts u lives) bag
  -- whatever the code answers to a vote on one of the owner's reads that is not mixed with a write, it is the machine's value, with
  -- every correct replica among those that agreed
  pub elected : (r : Request) → Memᴰ r bag → Unmixed bag r
      → (list : List Message) → length list ≤ max_list → Authentic u faulty (accounts u lives) list → CompleteForRead u faulty r list
      → (answer : Result Election Refusal) → Votes u.k u.groups (query_of r) list answer
      → (e : Election) × (answer ≡ Ok e) × Returns u faulty (value_at u bag r) e
  -- and to a halt count for one of the owner's processes, it is a count that reaches k + 1 exactly when the machine failed
  pub counted : (process : ℕ) → 1 ≤ process → process ≤ u.k + 1
      → (list : List Message) → length list ≤ max_list → Authentic u faulty (accounts u lives) list → CompleteForHalts u faulty (accounts u lives) process list
      → (answer : Result HaltCount Refusal) → Counts u.k u.groups u.owner process list answer
      → (h : HaltCount) × (answer ≡ Ok h) × Reaches u faulty (failed (machine_of u bag).state) h
