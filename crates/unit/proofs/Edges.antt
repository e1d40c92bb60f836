-- The theorem of the code at its edges: on the two units of crates/rules/specs/EdgeUnits.antt, with two liars of five. A claim of the code's
-- answers that is narrower by one passes the proof, and is refused here.
use Prim.Native.Nat.{ℕ, ◌≤◌, ◌<◌}
use mathlib.Core.Path.{◌≡◌, refl}
use mathlib.Core.Bool.{true}
use mathlib.Core.List.Memᴰ
use native.Mathlib.Omega.{arith}
use borrow.Author.Tests.{ltb-true}
use Rattle.std.specs.Prelude.{Result, Ok}
use Rattle.question.specs.declared.refusal.Refusal.{Refusal}
use Rattle.rules.specs.Batch.{verdict_of}
use Rattle.rules.specs.Machine.{react, react_all, machine}
use Rattle.rules.specs.Sets.{has}
use Rattle.rules.specs.Vote.{query_of}
use Rattle.rules.specs.declared.Election.{Election}
use Rattle.rules.specs.declared.HaltCount.{HaltCount}
use Rattle.rules.specs.EdgeUnits.{five, lying, late_read, late_bag, late_calls, late_heard, split_bag, split_calls, split_heard}
use Rattle.failstop.specs.Suppose.{Correct}
use Rattle.failstop.specs.Runs.{account_of}
use Rattle.failstop.proofs.Edges.{late-ran, late-supposed, late_authentic, late_complete, split-ran, split-supposed, split_authentic, split_complete}
use Rattle.vote.proofs.Called.{Votes, Counts}
use Rattle.unit.specs.Unit.{accounts, Demand3OfCode}
use Rattle.unit.proofs.Same.{authentic_same, complete_same}
use Rattle.unit.proofs.Unit.{demand3_of_code}
use Rattle.unit.proofs.Lives.{lives_of, lives_same, lives_ran}

late-unit : Demand3OfCode five lying (lives_of five late_calls) late_bag
late-unit = demand3_of_code five lying (lives_of five late_calls) late_bag (lives_ran five lying late_calls late-ran late_bag late-supposed)

-- 64 messages, and two that lie alike: the code's vote gives what was written, and only those two can stand apart
pub code_votes_on_64 : (answer : Result Election Refusal) → Votes 2 2 (query_of late_read) late_heard answer
    → (e : Election) × (answer ≡ Ok e) × (e.value ≡ 7) × ((i : ℕ) → Correct five lying i → has e.agreed i ≡ true)
    × ((i : ℕ) → has e.other i ≡ true → i < 3) × ((i : ℕ) → has e.silent i ≡ true → i < 3)
unfolding verdict_of react react_all machine
code_votes_on_64 answer votes =
    let v =
    late-unit.elected late_read (Memᴰ.tail (Memᴰ.tail (Memᴰ.tail (Memᴰ.head refl)))) refl late_heard (omega arith)
    (authentic_same five lying (account_of five late_calls) (accounts five (lives_of five late_calls)) (lives_same five lying late_calls late-ran) late_heard late_authentic)
    late_complete answer votes in
    (v.0, v.1, v.2.value, v.2.agreed, λ i e. ltb-true i 3 (v.2.other i e).2, λ i e. ltb-true i 3 (v.2.silent i e).2)

split-unit : Demand3OfCode five lying (lives_of five split_calls) split_bag
split-unit = demand3_of_code five lying (lives_of five split_calls) split_bag (lives_ran five lying split_calls split-ran split_bag split-supposed)

-- the code's halt count tells process k + 1 to halt
pub code_counts_for_the_last : (answer : Result HaltCount Refusal) → Counts 2 2 1 3 split_heard answer
    → (h : HaltCount) × (answer ≡ Ok h) × (3 ≤ h.size) × (h.halt ≡ true) × ((i : ℕ) → Correct five lying i → has h.senders i ≡ true)
unfolding verdict_of react react_all machine
code_counts_for_the_last answer counts =
    let same = lives_same five lying split_calls split-ran in
    let own = accounts five (lives_of five split_calls) in
    let c =
    split-unit.counted 3 (omega arith) (omega arith) split_heard (omega arith)
    (authentic_same five lying (account_of five split_calls) own same split_heard split_authentic)
    (complete_same five lying (account_of five split_calls) own same 3 split_heard split_complete)
    answer counts in
    (c.0, c.1, c.2.size.1 refl, c.2.halt, c.2.all refl)
