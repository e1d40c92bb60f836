-- The questions are asked by themselves: on a yes, a new replica is given.
use Prim.Native.Nat.{ℕ}
use mathlib.Core.List.{List}
use lib.ListN.{replicate}
use Rattle.std.proofs.Common.{◌≡◌, ap, ◌∙◌, Err, rules}
use Rattle.question.specs.Question.{given}
use Rattle.question.proofs.Questions.{next_no, next_yes}
use Rattle.rules.specs.Batch.{new_store}
use Rattle.rules.specs.Replica.{make_questions, new_state, make}
use Rattle.rules.specs.declared.Pending.{Pending}
use Rattle.rules.specs.declared.Settings.{Settings}
use Rattle.state.specs.State.{state_of, free}
use Rattle.state.specs.Made.{new_replica}
use Rattle.state.proofs.Queues.{queues_new}
use Rattle.state.proofs.making.make.Goals as goal

-- a new replica stands for a new state
new-state : (u : Settings) (number : ℕ) → state_of (new_replica u number) ≡ new_state u number
new-state u number =
    ap (λ (pending : ℕ → List Pending). record { settings = u; number = number; store = new_store; pending = pending; last = record { 0 = 0 } })
    (queues_new (replicate 64 free) 4)

pub returns-in_err-check_make : goal.returns-in_err-check_make
unfolding make
returns-in_err-check_make c =
    let is : c.from_residual.result ≡ Err c.in_err-check_make.field-0.0 = search rules in
    rw is (next_no (make_questions c.args.u c.args.number) (given (new_state c.args.u c.args.number)) c.in_err-check_make.ensures)

pub returns : goal.returns
unfolding make
returns c =
    let made : given (new_state c.args.u c.args.number) ≡ make c.args.u c.args.number = next_yes (make_questions c.args.u c.args.number) _ c.in_ok-check_make.ensures in
    rw c.new_replica.ensures (ap given (new-state _ _) ∙ made)
