-- The theorem on the two whole units of crates/rules, as lives of the code: one of three replicas is faulty. A write is read back
-- against a lie, and a dissent halts the processes.
use Prim.Native.Nat.{ℕ, ◌≤◌}
use mathlib.Core.Path.{◌≡◌, refl, ap}
use mathlib.Core.Bool.{true}
use mathlib.Core.List.Memᴰ
use native.Mathlib.Omega.{arith}
use borrow.Author.Tests.{eqb-true}
use Rattle.std.specs.Prelude.{Result, Ok}
use Rattle.question.specs.declared.refusal.Refusal.{Refusal}
use Rattle.rules.specs.Batch.{value_of, failed, verdict_of}
use Rattle.rules.specs.Machine.{react, react_all, machine}
use Rattle.rules.specs.Sets.{has}
use Rattle.rules.specs.Vote.{query_of}
use Rattle.rules.specs.declared.Election.{Election}
use Rattle.rules.specs.declared.HaltCount.{HaltCount}
use Rattle.rules.specs.Sample.{settings}
use Rattle.rules.specs.Units.{the_read, read_bag, read_calls, heard, halt_bag, halt_calls, stops}
use Rattle.failstop.specs.Suppose.{Correct}
use Rattle.failstop.specs.Runs.{account_of}
use Rattle.failstop.proofs.Instances.{only, read-ran, read-supposed, heard_authentic, heard_complete, halt-ran, halt-supposed, stops_authentic, stops_complete}
use Rattle.state.specs.State.{state_of}
use Rattle.vote.proofs.Called.{Votes, Counts}
use Rattle.unit.specs.Unit.{accounts, Demand3OfCode}
use Rattle.unit.proofs.Same.{authentic_same, complete_same}
use Rattle.unit.proofs.Unit.{demand3_of_code}
use Rattle.unit.proofs.Lives.{lives_of, lives_same, lives_ran}

-- ── a write is read back against a lie ──

read-unit : Demand3OfCode settings (only 3) (lives_of settings read_calls) read_bag
read-unit = demand3_of_code settings (only 3) (lives_of settings read_calls) read_bag (lives_ran settings (only 3) read_calls read-ran read_bag read-supposed)

-- the struct of each correct replica holds what was written last
pub structs_hold_written : (i : ℕ) → Correct settings (only 3) i → value_of 4 (state_of (lives_of settings read_calls i).last).store ≡ 9
unfolding verdict_of react react_all machine
structs_hold_written i ok = ap (value_of 4) (read-unit.claims.holds i ok)

-- and the code's vote gives what was written before the read, whatever the liar said, and nobody but the liar stands apart
pub code_votes_written : (answer : Result Election Refusal) → Votes 1 2 (query_of the_read) heard answer
    → (e : Election) × (answer ≡ Ok e) × (e.value ≡ 7) × ((i : ℕ) → Correct settings (only 3) i → has e.agreed i ≡ true)
    × ((i : ℕ) → has e.other i ≡ true → i ≡ 3) × ((i : ℕ) → has e.silent i ≡ true → i ≡ 3)
unfolding verdict_of react react_all machine
code_votes_written answer votes =
    let v =
    read-unit.elected the_read (Memᴰ.tail (Memᴰ.tail (Memᴰ.head refl))) refl heard (omega arith)
    (authentic_same settings (only 3) (account_of settings read_calls) (accounts settings (lives_of settings read_calls))
    (lives_same settings (only 3) read_calls read-ran) heard heard_authentic)
    heard_complete answer votes in
    (v.0, v.1, v.2.value, v.2.agreed, λ i e. eqb-true i 3 (v.2.other i e).2, λ i e. eqb-true i 3 (v.2.silent i e).2)

-- ── a dissent halts the processes ──

halt-unit : Demand3OfCode settings (only 1) (lives_of settings halt_calls) halt_bag
halt-unit = demand3_of_code settings (only 1) (lives_of settings halt_calls) halt_bag (lives_ran settings (only 1) halt_calls halt-ran halt_bag halt-supposed)

pub structs_failed : (i : ℕ) → Correct settings (only 1) i → failed (state_of (lives_of settings halt_calls i).last).store ≡ true
unfolding verdict_of react react_all machine
structs_failed i ok = ap failed (halt-unit.claims.holds i ok)

-- and the code's halt count tells process 1 to halt
pub code_counts-halts : (answer : Result HaltCount Refusal) → Counts 1 2 1 1 stops answer
    → (h : HaltCount) × (answer ≡ Ok h) × (2 ≤ h.size) × (h.halt ≡ true) × ((i : ℕ) → Correct settings (only 1) i → has h.senders i ≡ true)
unfolding verdict_of react react_all machine
code_counts-halts answer counts =
    let same = lives_same settings (only 1) halt_calls halt-ran in
    let own = accounts settings (lives_of settings halt_calls) in
    let c =
    halt-unit.counted 1 (omega arith) (omega arith) stops (omega arith)
    (authentic_same settings (only 1) (account_of settings halt_calls) own same stops stops_authentic)
    (complete_same settings (only 1) (account_of settings halt_calls) own same 1 stops stops_complete)
    answer counts in
    (c.0, c.1, c.2.size.1 refl, c.2.halt, c.2.all refl)
