-- The life of a replica of the code: how it was made, what passed between it and whoever called it, and what it is at the end.
use Rattle.std.specs.Prelude.{ℕ, ◌≡◌, List, [], ◌∷◌, map, ⊤, Result, Ok}
use Rattle.question.specs.Question.{map_answer}
use Rattle.question.specs.Refusals.{answer_of}
use Rattle.question.specs.declared.refusal.Refusal.{Refusal}
use Rattle.layout.specs.Number.{Bytes}
use Rattle.layout.specs.declared.clock.LocalTime.{LocalTime}
use Rattle.rules.specs.Run.{messages_in, Exchange}
use Rattle.rules.specs.Run as rules
use Rattle.rules.specs.declared.Settings.{Settings}
use Rattle.state.specs.declared.state.Replica.{Replica}
use Rattle.state.proofs.Called.{Makes}
use Rattle.delivery.proofs.Called.{Delivers}
use Rattle.step.proofs.Called.{Steps}

-- ── calls ──

-- what passes in a call of the code, its output included
pub data Event : Type 0 where
  -- a delivery: the bytes, the local time and the outcome
  delivered : List ℕ → LocalTime → Result ⊤ Refusal → Event
  -- a step: the local time, the output, the answer and the output afterwards
  stepped : LocalTime → List ℕ → Result ℕ Refusal → List ℕ → Event

-- a call takes r to r', and this passed: as the contract of the function has it. What is delivered are bytes, as a lent slice holds them
pub data Does (r r' : Replica) : Event → Type 0 where
  delivers : {bytes : List ℕ} {at : LocalTime} {outcome : Result ⊤ Refusal} → Bytes bytes
      → Delivers r bytes at (record { outcome = outcome; replica = r' }) → Does r r' (delivered bytes at outcome)
  steps : {at : LocalTime} {output output' : List ℕ} {answer : Result ℕ Refusal}
      → Steps r at output (record { answer = answer; replica = r' }) output' → Does r r' (stepped at output answer output')

-- one call after another, each on what the last one left
pub data Runs : Replica → List Event → Replica → Type 0 where
  start : {r : Replica} → Runs r [] r
  then : {r r' r'' : Replica} {e : Event} {events : List Event} → Does r r' e → Runs r' events r'' → Runs r (e ∷ events) r''

-- ── a life ──

pub record Life : Type 0 where
  pub made : Result Replica Refusal
  pub first : Replica
  pub events : List Event
  pub last : Replica

-- the code made it with the unit's settings and its own number, and then got those calls
pub record Lived (u : Settings) (number : ℕ) (l : Life) : Type 0 where
  pub makes : Makes u number l.made
  pub accepted : l.made ≡ Ok l.first
  pub runs : Runs l.first l.events l.last

-- ── what passed, in the rules' words ──

-- the answer's number, and of a step the messages whose records it counted, read from the output afterwards
abbrev pub exchange_in : Settings → Event → Exchange
exchange_in u (delivered bytes at answer) = rules.delivered bytes at (answer_of answer)
exchange_in u (stepped at output answer output') = rules.turned at (map_answer (λ count. messages_in u.k u.groups count output') (answer_of answer))

abbrev pub past_in : Settings → Life → List Exchange
past_in u l = map (exchange_in u) l.events
