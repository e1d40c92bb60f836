-- A call of step, as its own contract describes it (crates/state has those of make, crates/delivery those of deliver).
use Prim.Native.Nat.{ℕ}
use mathlib.Core.Path.{◌≡◌}
use mathlib.Core.List.{List}
use contract.Lifetimes.{Lfts}
use denote.MutBor.{MutBor}
use Rattle.question.specs.Question.{after, map_answer}
use Rattle.question.specs.Refusals.{answer_of}
use Rattle.layout.specs.declared.clock.LocalTime.{LocalTime}
use Rattle.rules.specs.Replica.{step}
use Rattle.state.specs.State.{state_of}
use Rattle.state.specs.declared.state.Replica.{Replica}
use Rattle.step.specs.declared.stepping.Stepped.{Stepped}
use Rattle.step.proofs.stepping.step.Reads as step-contract

-- the output held `output`, and holds `output'` afterwards
pub record Steps (r : Replica) (at : LocalTime) (output : List ℕ) (s : Stepped) (output' : List ℕ) : Type 0 where
  pub lifetimes : Lfts 1
  -- the lent slice
  pub slice : MutBor (List ℕ)
  pub lent : slice.now ≡ output
  pub learnt :
      step-contract.Learnt lifetimes (r, (at, (slice, tt))) s (r, (at, (record { ref_ptr = slice.ref_ptr; ghost_name = slice.ghost_name; now = output' }, tt)))

pub record SteppedAs (r : Replica) (at : LocalTime) (output : List ℕ) (s : Stepped) (output' : List ℕ) : Type 0 where
  pub answer : answer_of s.answer ≡ map_answer (λ d. d.count) (step (state_of r) at output)
  pub state : state_of s.replica ≡ after (state_of r) (map_answer (λ d. d.state) (step (state_of r) at output))
  pub content : output' ≡ after output (map_answer (λ d. d.output) (step (state_of r) at output))

pub steps_mean : {r : Replica} {at : LocalTime} {output : List ℕ} {s : Stepped} {output' : List ℕ}
    → Steps r at output s output' → SteppedAs r at output s output'
steps_mean c = rw (← c.lent) (record { answer = c.learnt.0; state = c.learnt.1.0; content = c.learnt.1.1.0 })
