-- Calls of make, as its own contract describes them. `Learnt` is what a caller learns: the clauses of the function's `ensures`, as
-- they stand in src/.
use Prim.Native.Nat.{ℕ}
use mathlib.Core.Path.{◌≡◌}
use Rattle.std.specs.Prelude.{Result}
use contract.Lifetimes.{Lfts}
use Rattle.question.specs.Question.{map_answer}
use Rattle.question.specs.Refusals.{answer_of}
use Rattle.question.specs.declared.refusal.Refusal.{Refusal}
use Rattle.rules.specs.declared.Settings.{Settings}
use Rattle.rules.specs.Replica.{make}
use Rattle.state.specs.State.{state_of}
use Rattle.state.specs.declared.state.Replica.{Replica}
use Rattle.state.proofs.making.make.Reads as make-contract

pub record Makes (u : Settings) (number : ℕ) (made : Result Replica Refusal) : Type 0 where
  pub lifetimes : Lfts 0
  pub learnt : make-contract.Learnt lifetimes (u, (number, tt)) made (u, (number, tt))

pub makes_mean : {u : Settings} {number : ℕ} {made : Result Replica Refusal} → Makes u number made
    → map_answer state_of (answer_of made) ≡ make u number
makes_mean c = c.learnt
