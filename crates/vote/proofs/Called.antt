-- Calls of the vote and of the halt count, as their own contracts describe them.
use Prim.Native.Nat.{ℕ}
use mathlib.Core.Path.{◌≡◌, refl}
use mathlib.Core.List.{List}
use seplogic.Ra.Ura.{Ura}
use lib.ListN.{take}
use base.Logic.{SProp}
use contract.Lifetimes.{Lfts}
use contract.Monad.{Fun, fact}
use denote.Ref.{Bor}
use types.Logic.{Logic}
use prog.Memory.{Memory}
use prog.Routine.{Routine}
use Rattle.std.specs.Prelude.{Result}
use Rattle.question.specs.Refusals.{answer_of}
use Rattle.question.specs.declared.refusal.Refusal.{Refusal}
use Rattle.record.specs.declared.message.Message.{Message}
use Rattle.rules.specs.declared.Election.{Election}
use Rattle.rules.specs.declared.HaltCount.{HaltCount}
use Rattle.rules.specs.declared.Query.{Query}
use Rattle.rules.specs.Vote.{vote, halt_count}
use Rattle.vote.specs.contracts.tally.vote as vote-contract
use Rattle.vote.specs.contracts.tally.count_halts as halts-contract
use Rattle.vote.proofs.tally.vote_in.Reads as vote-in-contract
use Rattle.vote.proofs.tally.count_halts_in.Reads as halts-in-contract

-- ── on a lent list ──

-- a vote on a list gave an answer, a halt count did
abbrev pub Votes : ℕ → ℕ → Query → List Message → Result Election Refusal → Type 0
Votes k n q list answer = answer_of answer ≡ vote k n q list

abbrev pub Counts : ℕ → ℕ → ℕ → ℕ → List Message → Result HaltCount Refusal → Type 0
Counts k n group process list answer = answer_of answer ≡ halt_count k n group process list

-- The contract as the logic has it is held to these facts: each is the whole `ensures` of its function in src/, and less there
-- would not be equal.
module _ {M : Type 1} {𝓤 : Ura M} (𝓛 : Logic 𝓤) (mem : Memory → SProp 𝓤) (run : Routine → Fun 𝓤) (lifetimes : Lfts 1) where
  pub vote_promises : (k n : ℕ) (q : Query) (list : Bor (List Message)) (answer : Result Election Refusal)
      → (vote-contract.clauses 𝓛 mem run lifetimes (k, (n, (q, (list, tt))))).ensures tt answer (k, (n, (q, (list, tt))))
      ≡ fact 𝓤 (Votes k n q list.now answer)
  vote_promises k n q list answer = refl

  pub halts_promise : (k n group process : ℕ) (list : Bor (List Message)) (answer : Result HaltCount Refusal)
      → (halts-contract.clauses 𝓛 mem run lifetimes (k, (n, (group, (process, (list, tt)))))).ensures tt answer (k, (n, (group, (process, (list, tt)))))
      ≡ fact 𝓤 (Counts k n group process list.now answer)
  halts_promise k n group process list answer = refl

-- ── on the first messages of an array ──

pub record VotesIn (k n : ℕ) (q : Query) (list : List Message) (count : ℕ) (answer : Result Election Refusal) : Type 0 where
  pub lifetimes : Lfts 0
  pub learnt : vote-in-contract.Learnt lifetimes (k, (n, (q, (list, (count, tt))))) answer (k, (n, (q, (list, (count, tt)))))

pub record CountsIn (k n group process : ℕ) (list : List Message) (count : ℕ) (answer : Result HaltCount Refusal) : Type 0 where
  pub lifetimes : Lfts 0
  pub learnt :
      halts-in-contract.Learnt lifetimes (k, (n, (group, (process, (list, (count, tt)))))) answer (k, (n, (group, (process, (list, (count, tt))))))

pub votes_in_mean : {k n : ℕ} {q : Query} {list : List Message} {count : ℕ} {answer : Result Election Refusal}
    → VotesIn k n q list count answer → Votes k n q (take count list) answer
votes_in_mean c = c.learnt

pub counts_in_mean : {k n group process : ℕ} {list : List Message} {count : ℕ} {answer : Result HaltCount Refusal}
    → CountsIn k n group process list count answer → Counts k n group process (take count list) answer
counts_in_mean c = c.learnt
