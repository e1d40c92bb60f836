-- Calls of deliver, as its own contract describes them (crates/state has those of make).
use Prim.Native.Nat.{ℕ}
use mathlib.Core.Path.{◌≡◌}
use mathlib.Core.List.{List}
use contract.Lifetimes.{Lfts}
use denote.Ref.{Bor}
use Rattle.question.specs.Question.{after, verdict}
use Rattle.question.specs.Refusals.{answer_of}
use Rattle.layout.specs.declared.clock.LocalTime.{LocalTime}
use Rattle.rules.specs.Replica.{deliver}
use Rattle.state.specs.State.{state_of}
use Rattle.state.specs.declared.state.Replica.{Replica}
use Rattle.delivery.specs.declared.delivery.Delivered.{Delivered}
use Rattle.delivery.proofs.delivery.deliver.Reads as deliver-contract

pub record Delivers (r : Replica) (bytes : List ℕ) (at : LocalTime) (d : Delivered) : Type 0 where
  pub lifetimes : Lfts 1
  -- the lent slice
  pub slice : Bor (List ℕ)
  pub lent : slice.now ≡ bytes
  pub learnt : deliver-contract.Learnt lifetimes (r, (slice, (at, tt))) d (r, (slice, (at, tt)))

pub record DeliveredAs (r : Replica) (bytes : List ℕ) (at : LocalTime) (d : Delivered) : Type 0 where
  pub answer : answer_of d.outcome ≡ verdict (deliver (state_of r) bytes at)
  pub state : state_of d.replica ≡ after (state_of r) (deliver (state_of r) bytes at)

pub delivers_mean : {r : Replica} {bytes : List ℕ} {at : LocalTime} {d : Delivered} → Delivers r bytes at d → DeliveredAs r bytes at d
delivers_mean c = rw (← c.lent) (record { answer = c.learnt.0; state = c.learnt.1.0 })
