-- What the ballot of a list says is what the rules say of the list.
use Prim.Native.Nat.{ℕ, zero, suc, ◌+◌, ◌-◌, ◌*◌, ◌≤◌, ◌<◌}
use mathlib.Core.Path.{◌≡◌, refl, sym, ◌∙◌, ap}
use mathlib.Core.Logic.{◌⊎◌, inl, inr, ⊎_elim}
use mathlib.Core.Bool.{Bool, true, false, ◌&&◌}
use mathlib.Core.List.{List, ◌++◌}
use native.Mathlib.Omega.{arith}
use lib.Count.{ones}
use lib.Dec.{eqb, leb}
use borrow.Author.Tests.{eqb-true, eqb-false, leb-true}
use Rattle.limits.specs.Limits.{max_k}
use Rattle.question.specs.Question.{Question, Answer, given, refused, worked, ask, unit_questions}
use Rattle.question.proofs.Questions.{AllYes, all_yes_parts, ask-all_yes, ask_after}
use Rattle.question.proofs.Tests.{case, true-not-false, both, unit_facts}
use Rattle.record.specs.declared.message.Message.{Message}
use Rattle.rules.specs.Sets.{has, set_of}
use Rattle.rules.specs.Vote.{counts_for, counts_as_halt, heard, says, support, election_of, elect, list_questions, vote, halts_by, halt_count}
use Rattle.rules.specs.declared.Query.{Query}
use Rattle.laws.proofs.Ballot.{elect-wins, elect-refused, election_same}
use Rattle.laws.proofs.Lists.{tally-hit, tally_same}
use Rattle.laws.proofs.Sets.{set_same, ones_set}
use Rattle.ballot.specs.Ballot.{ballot_of, value_of, gave, election_in, elect_in, ballot_questions, vote_on, halt_count_on}
use Rattle.ballot.specs.declared.ballot.Ballot.{Ballot}
use Rattle.ballot.proofs.Heard.{ballot-short, ballot-gave, ballot-heard, ballot-halted}

-- ── the questions ──

-- after questions 1 and 2, k is at most 3
unit-small : (k n : ℕ) (more : List Question) → AllYes (unit_questions k n ++ more) → k ≤ max_k
unit-small k n more all = (unit_facts k n (all_yes_parts (unit_questions k n) more all).0).k-high

pub asked-small : (k n : ℕ) (b : Ballot) → given worked ≡ ask (ballot_questions k n b) (given worked) → k ≤ max_k
asked-small k n b e = unit-small k n _ (ask-all_yes (ballot_questions k n b) (given worked) (sym e))

-- ── the election ──

module _ (k : ℕ) (b : Ballot) where
  -- k + 1 of the unit's replicas gave the value
  abbrev enough : ℕ → Bool
  enough value = leb (k + 1) (ones (set_of (gave b value) (2 * k + 1)))

  -- a replica whose value they gave
  abbrev wins : ℕ → Bool
  wins i = has b.heard.0 i && enough (value_of b i)

  pub elect-hit : (i : ℕ) → 0 < i → wins i ≡ true → elect_in k b i ≡ given (election_in k b (value_of b i))
  unfolding elect_in
  elect-hit zero h e = absurd (omega arith)
  elect-hit (suc i) h e = rw e

  pub elect_miss : (i : ℕ) → 0 < i → wins i ≡ false → elect_in k b i ≡ elect_in k b (i - 1)
  unfolding elect_in
  elect_miss zero h e = absurd (omega arith)
  elect_miss (suc i) h e = let f : i ≡ suc i - 1 = omega arith in rw e (ap (elect_in k b) f)

  pub elect_end : (i : ℕ) → i ≤ 0 → elect_in k b i ≡ refused 17
  unfolding elect_in
  elect_end zero h = refl
  elect_end (suc i) h = absurd (omega arith)

  -- either a value that k + 1 gave is elected, or 17 is the answer and no replica wins
  elected : (n : ℕ) → ((v : ℕ) × (elect_in k b n ≡ given (election_in k b v)) × (enough v ≡ true))
      ⊎ ((elect_in k b n ≡ refused 17) × ((i : ℕ) → 1 ≤ i → i ≤ n → wins i ≡ false))
  unfolding elect_in
  elected zero = inr (refl, λ i lo hi. absurd (omega arith))
  elected (suc n) = case (wins (suc n))
      (λ e. inl (value_of b (suc n), rw e, (both (has b.heard.0 (suc n)) (enough (value_of b (suc n))) e).1))
      (λ e. ⊎_elim
      (λ l. inl (l.0, rw e l.1, l.2))
      (λ r. inr (
        rw e r.0,
        λ i lo hi. case (eqb i (suc n))
            (λ f. ap wins (eqb-true i (suc n) f) ∙ e)
            (λ f. r.1 i lo (omega (arith, eqb-false i (suc n) f))),
      ))
      (elected n))

-- ── the list ──

module _ (k n : ℕ) (q : Query) (list : List Message) where
  abbrev ballot : Ballot
  ballot = ballot_of k n q list

  abbrev replying : Message → Bool
  replying = counts_for k n q

  abbrev halting : Message → Bool
  halting = counts_as_halt k n q.group q.process

  module _ (small : k ≤ max_k) where
    -- the ballot agrees with the list on each of the unit's replicas
    gave_says : (v i : ℕ) → 1 ≤ i → i ≤ 2 * k + 1 → gave ballot v i ≡ says replying i v list
    gave_says v i lo hi = ballot-gave k n q list i lo (omega arith) v

    heard_replies : (i : ℕ) → 1 ≤ i → i ≤ 2 * k + 1 → has ballot.heard.0 i ≡ heard replying list i
    heard_replies i lo hi = ballot-heard k n q list i lo (omega arith)

    halted-halts : (i : ℕ) → 1 ≤ i → i ≤ 2 * k + 1 → has ballot.halted.0 i ≡ heard halting list i
    halted-halts i lo hi = ballot-halted k n q list i lo (omega arith)

    ballot_election : (v : ℕ) → election_in k ballot v ≡ election_of k replying list v
    ballot_election v = election_same k v (has ballot.heard.0) (gave ballot v) (heard replying list) (λ i. says replying i v list) heard_replies (gave_says v)

    ballot-support : (v : ℕ) → ones (set_of (gave ballot v) (2 * k + 1)) ≡ support k replying list v
    ballot-support v = ones_set (gave ballot v) (2 * k + 1) ∙ tally_same (gave ballot v) (λ i. says replying i v list) (2 * k + 1) (gave_says v)

    ballot-halts : halts_by k (has ballot.halted.0) ≡ halts_by k (heard halting list)
    ballot-halts = rw (set_same (has ballot.halted.0) (heard halting list) (2 * k + 1) halted-halts)

    -- where the list gives a value k + 1, one of its replicas wins
    winner : (v : ℕ) → leb (k + 1) (support k replying list v) ≡ true → (i : ℕ) × (1 ≤ i) × (i ≤ 2 * k + 1) × (wins k ballot i ≡ true)
    winner v e =
        let a = tally-hit (λ i. says replying i v list) (2 * k + 1) (omega (arith, leb-true (k + 1) (support k replying list v) e)) in
        let g = both (has ballot.heard.0 a.0) (eqb (value_of ballot a.0) v) (gave_says v a.0 a.1 a.2 ∙ a.3) in
        (a.0, a.1, a.2, rw (g.0, eqb-true (value_of ballot a.0) v g.1, ballot-support v, e))

    ballot_elects : elect_in k ballot (2 * k + 1) ≡ elect k replying list list
    ballot_elects = ⊎_elim
        (λ l. l.1 ∙ ap given (ballot_election l.0) ∙ sym (elect-wins k replying list l.0 (rw (ballot-support l.0) at l.2)))
        (λ r. r.0 ∙ sym (elect-refused k replying list (λ v. case (leb (k + 1) (support k replying list v))
        (λ e. let w = winner v e in true-not-false (wins k ballot w.0) w.3 (r.1 w.0 w.1 w.2))
        (λ e. e)) list))
        (elected k ballot (2 * k + 1))

  -- questions 1, 2 and 16 of the ballot are those of the list, and k is at most 3 after them
  ballot-asked : {A : Type 0} (one other : Answer A) → (k ≤ max_k → one ≡ other) → ask (ballot_questions k n ballot) one ≡ ask (list_questions k n list) other
  ballot-asked one other h = rw (ballot-short k n q list) (ask_after (list_questions k n list) one other (λ all. h (unit-small k n _ all)))

  -- the vote on the ballot of a list is the vote on the list
  pub vote_on_lem : vote_on k n ballot ≡ vote k n q list
  unfolding vote_on vote
  vote_on_lem = ballot-asked (elect_in k ballot (2 * k + 1)) (elect k replying list list) ballot_elects

  -- and so is the halt count
  pub halt_count_on_lem : halt_count_on k n ballot ≡ halt_count k n q.group q.process list
  unfolding halt_count_on halt_count
  halt_count_on_lem = ballot-asked (given (halts_by k (has ballot.halted.0))) (given (halts_by k (heard halting list))) (λ small. ap given (ballot-halts small))
