-- The third demand: one claim about whole runs, by their accounts, and about what is voted and counted on their messages.
use Rattle.std.specs.Prelude.{ℕ, ◌+◌, ◌*◌, ◌≤◌, ◌≡◌, ◌↔◌, Bool, true, false, eqb, ltb, length}
use mathlib.Core.List.{List, [], ◌∷◌, map, Memᴰ, Permᴰ}
use Rattle.limits.specs.Limits.{max_list}
use Rattle.question.specs.Question.{given}
use Rattle.record.specs.Kind.{halt}
use Rattle.record.specs.declared.request.Request.{Request}
use Rattle.record.specs.declared.message.Message.{Message}
use Rattle.rules.specs.Lists.{keep, some}
use Rattle.rules.specs.Batch.{Store, Effect, value_of, failed, all_reads, reply_with}
use Rattle.rules.specs.Replica.{stamped, requests_of}
use Rattle.rules.specs.Run.{to_group}
use Rattle.rules.specs.Machine.{machine, signed_by}
use Rattle.rules.specs.Sets.{has}
use Rattle.rules.specs.Vote.{query_of, halts_for, vote, halt_count}
use Rattle.rules.specs.declared.Election.{Election}
use Rattle.rules.specs.declared.HaltCount.{HaltCount}
use Rattle.rules.specs.declared.Settings.{Settings}
use Rattle.failstop.specs.Suppose.{Account, Correct, Authentic, CompleteForRead, CompleteForHalts}

-- ── the machine's figures ──

-- what the machine with the unit's k and owner does with requests
abbrev pub machine_of : Settings → List Request → Effect Store
machine_of u requests = machine u.k u.owner requests

-- the value that the read's variable has when the machine comes to its timestamp
abbrev pub value_at : Settings → List Request → Request → ℕ
value_at u bag r = value_of r.variable (machine_of u (keep (λ q. ltb q.timestamp.0 r.timestamp.0) bag)).state

-- the read's timestamp has no write
abbrev pub Unmixed : List Request → Request → Type 0
Unmixed bag r = all_reads (keep (stamped r.timestamp) bag) ≡ true

-- ── the order of messages ──

-- the halts, in their order
abbrev pub halts_in : List Message → List Message
halts_in messages = keep (λ m. eqb m.kind halt) messages

-- the timestamps do not fall
abbrev pub Rising : List Message → Type 0
Rising [] = Unit {0}
Rising (m ∷ messages) = ((n : Message) → Memᴰ n messages → m.timestamp.0 ≤ n.timestamp.0) × Rising messages

-- the same messages in the same order, but for the order of one timestamp's replies
pub record SameButReplies (a b : List Message) : Type 0 where
  pub messages : Permᴰ a b
  pub halts : halts_in a ≡ halts_in b
  pub left : Rising a
  pub right : Rising b

-- ── what a vote and a halt count tell ──

-- a set has every correct replica
abbrev pub AllCorrect : Settings → (ℕ → Bool) → ℕ → Type 0
AllCorrect u faulty set = (i : ℕ) → Correct u faulty i → has set i ≡ true

-- a set has faulty replicas of the unit, and nobody else: it blames no correct one
abbrev pub OnlyFaulty : Settings → (ℕ → Bool) → ℕ → Type 0
OnlyFaulty u faulty set = (i : ℕ) → has set i ≡ true → (1 ≤ i) × (i ≤ 2 * u.k + 1) × (faulty i ≡ true)

-- the vote returns the value, every correct replica agreed, and whoever gave another value or none is faulty
pub record Returns (u : Settings) (faulty : ℕ → Bool) (v : ℕ) (e : Election) : Type 0 where
  pub value : e.value ≡ v
  pub agreed : AllCorrect u faulty e.agreed
  pub other : OnlyFaulty u faulty e.other
  pub silent : OnlyFaulty u faulty e.silent

-- the halt count reaches k + 1 exactly when the machine failed: then every correct replica is a sender, and else only faulty ones are
pub record Reaches (u : Settings) (faulty : ℕ → Bool) (failure : Bool) (h : HaltCount) : Type 0 where
  pub size : (u.k + 1 ≤ h.size) ↔ (failure ≡ true)
  pub halt : h.halt ≡ failure
  pub all : failure ≡ true → AllCorrect u faulty h.senders
  pub none : failure ≡ false → OnlyFaulty u faulty h.senders

-- ── what is claimed ──

-- all that is claimed of the accounts, and of votes and halt counts on their messages
pub record Demand3 (u : Settings) (faulty : ℕ → Bool) (accounts : ℕ → Account) (bag : List Request) : Type 0 where
  -- each correct replica holds the variables, the failed mark and the count of writes of one and the same machine
  pub holds : (i : ℕ) → Correct u faulty i → (accounts i).store ≡ (machine_of u bag).state
  -- what it sent the owner is the machine's, in the machine's order: one timestamp's replies in its own order of arrival,
  pub sends : (i : ℕ) → Correct u faulty i
      → to_group u.owner (accounts i).sent ≡ map (signed_by i) (machine_of u (requests_of (accounts i).arrivals)).sent
  -- and nothing else of it differs from what the machine makes of the common bag
  pub alike : (i : ℕ) → Correct u faulty i → SameButReplies (to_group u.owner (accounts i).sent) (map (signed_by i) (machine_of u bag).sent)
  -- a reply with the machine's value for each of the owner's reads that is not mixed with a write
  pub answered : (i : ℕ) → Correct u faulty i → (r : Request) → Memᴰ r bag → Unmixed bag r
      → Memᴰ (reply_with (value_at u bag r) i r) (accounts i).sent
  -- a halt to each of the owner's processes exactly when the machine failed
  pub halted : (i : ℕ) → Correct u faulty i → (process : ℕ) → 1 ≤ process → process ≤ u.k + 1
      → (some (halts_for u.owner process) (accounts i).sent ≡ true) ↔ (failed (machine_of u bag).state ≡ true)
  -- the vote on each such read returns the machine's value, whatever the faulty replicas sent, and blames only those
  pub elected : (r : Request) → Memᴰ r bag → Unmixed bag r
      → (list : List Message) → length list ≤ max_list → Authentic u faulty accounts list → CompleteForRead u faulty r list
      → (e : Election) × (vote u.k u.groups (query_of r) list ≡ given e) × Returns u faulty (value_at u bag r) e
  -- the halt count for each of the owner's processes reaches k + 1 exactly when the machine failed
  pub counted : (process : ℕ) → 1 ≤ process → process ≤ u.k + 1
      → (list : List Message) → length list ≤ max_list → Authentic u faulty accounts list → CompleteForHalts u faulty accounts process list
      → (h : HaltCount) × (halt_count u.k u.groups u.owner process list ≡ given h) × Reaches u faulty (failed (machine_of u bag).state) h
