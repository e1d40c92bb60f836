-- The theorem at its edges: on the two whole units of crates/rules/specs/EdgeUnits.antt, with as many faulty replicas as k = 2 allows.
-- Requests arrive exactly at first + δ, closing steps come δ + 1 after the last arrival, process k + 1 reads and counts, and a list has
-- 64 messages. A supposition or a claim that is narrower by one passes the proof, and is refused here.
use Prim.Native.Nat.{ℕ, zero, suc, ◌≤◌, ◌<◌}
use mathlib.Core.Path.{◌≡◌, refl, sym, ap, subst}
use mathlib.Core.Logic.{inl, inr}
use mathlib.Core.Bool.{true, false}
use mathlib.Core.List.Permᴰ
use mathlib.Core.List.{List, [], ◌∷◌, Memᴰ, flat_map}
use native.Mathlib.Omega.{arith}
use lib.Dec.{eqb, leb}
use lib.ListN.{replicate}
use borrow.Author.Tests.{eqb-true, eqb-false, ltb-true, ltb-false, leb-true, leb-false}
use Rattle.question.specs.Question.{given, ask, unit_questions}
use Rattle.layout.specs.Number.{number, digits}
use Rattle.layout.specs.Layout.{fields_of, bytes_of}
use Rattle.record.specs.Record.{field_questions, read_fields, write_fields}
use Rattle.record.specs.declared.message.Message.{Message}
use Rattle.rules.specs.Batch.{value_of, failed, verdict_of, reply_with, handle}
use Rattle.rules.specs.Replica.{make, admit, deliver, handle_batch, visit, visit_group, visits, put, put_all, stepped, step}
use Rattle.rules.specs.Run.{messages_in, call, run, exchanges}
use Rattle.rules.specs.Machine.{react, react_all, machine}
use Rattle.rules.specs.Sets.{has}
use Rattle.rules.specs.Vote.{query_of, halts_for, vote, halt_count}
use Rattle.rules.specs.declared.Election.{Election}
use Rattle.rules.specs.declared.HaltCount.{HaltCount}
use Rattle.rules.specs.Sample.{wrote}
use Rattle.rules.specs.EdgeUnits.{five, lying, late_read, late_bag, late_calls, lie, late_heard, split_bag, split_calls, stopped, split_heard}
use Rattle.failstop.specs.Suppose.{Correct, Supposed, Authentic, CompleteForRead, CompleteForHalts}
use Rattle.failstop.specs.Runs.{AllRan, account_of}
use Rattle.failstop.specs.Demand3.{Demand3}
use Rattle.question.proofs.Tests.{case, true-not-false}
use Rattle.laws.proofs.Lists.{in_some}
use Rattle.failstop.proofs.Matching.{halt_facts}
use Rattle.failstop.proofs.Computed.{Each, each_in, end, each, Computed, computed_ran, computed_supposed, computed_authentic}
use Rattle.failstop.proofs.Demand3.{demand3}

-- replicas 3, 4 and 5 are correct
last_three : (P : ℕ → Type 0) → P 3 → P 4 → P 5 → (i : ℕ) → Correct five lying i → P i
last_three P three four last i ok = case (eqb i 3)
    (λ e. subst P (sym (eqb-true i 3 e)) three)
    (λ e. case (eqb i 4)
    (λ f. subst P (sym (eqb-true i 4 f)) four)
    (λ f.
    let is : 5 ≡ i = omega (arith, ok.high, eqb-false i 3 e, eqb-false i 4 f, ltb-false i 3 ok.faultless) in
    subst P is last))

each_repeated : {P : Message → Type 0} (n : ℕ) (m : Message) → P m → Each P (replicate n m)
each_repeated zero m p = end
each_repeated (suc n) m p = each p (each_repeated n m p)

-- ── the last write arrives at first + δ, and is read back against two that lie alike ──

abbrev late_sent : ℕ → List Message
late_sent i = reply_with 7 i late_read ∷ []

late_computed : (i : ℕ) → Correct five lying i → Computed five late_calls late_sent late_bag i
unfolding ask unit_questions number digits fields_of bytes_of field_questions read_fields write_fields verdict_of handle make admit deliver handle_batch visit visit_group visits put put_all stepped step messages_in call run exchanges flat_map
late_computed =
    let first = Permᴰ.symm (Permᴰ.middle late_read (wrote 1 1 10 7 ∷ wrote 1 2 10 7 ∷ wrote 1 3 10 7 ∷ []) []) in
    last_three (Computed five late_calls late_sent late_bag)
    (record { makes = refl; lends = refl; same = first; obeys = refl; closing = refl; sends = refl })
    (record { makes = refl; lends = refl; same = Permᴰ.refl late_bag; obeys = refl; closing = refl; sends = refl })
    (record { makes = refl; lends = refl; same = Permᴰ.refl late_bag; obeys = refl; closing = refl; sends = refl })

pub late-ran : AllRan five lying late_calls
late-ran = computed_ran five lying late_calls late_sent late_bag late_computed

pub late-supposed : Supposed five lying (account_of five late_calls) late_bag
late-supposed = computed_supposed five lying late_calls late_sent late_bag late_computed (omega arith)

late-holds : Demand3 five lying (account_of five late_calls) late_bag
late-holds = demand3 five lying late_calls late_bag late-ran late-supposed

-- the write was performed
pub late-write-held : (i : ℕ) → Correct five lying i → value_of 4 (account_of five late_calls i).store ≡ 7
unfolding verdict_of react react_all machine
late-write-held i ok = ap (value_of 4) (late-holds.holds i ok)

-- and the read answered with its value
pub late_read-answered : (i : ℕ) → Correct five lying i → Memᴰ (reply_with 7 i late_read) (account_of five late_calls i).sent
unfolding verdict_of react react_all machine
late_read-answered i ok = late-holds.answered i ok late_read (Memᴰ.tail (Memᴰ.tail (Memᴰ.tail (Memᴰ.head refl)))) refl

pub late_authentic : Authentic five lying (account_of five late_calls) late_heard
late_authentic =
    computed_authentic five lying late_calls late_sent late_bag late_computed late_heard
    (each_in (each (inl refl) (each (inl refl) (each (inl refl) (each (inl refl)
    (each (inr (Memᴰ.head refl)) (each (inr (Memᴰ.head refl)) (each (inr (Memᴰ.head refl)) (each_repeated 57 (lie 1) (inl refl))))))))))

pub late_complete : CompleteForRead five lying late_read late_heard
late_complete i ok = (reply_with 7 i late_read, heard i ok, record { matched = refl; sender = refl })
  where
    heard : (i : ℕ) → Correct five lying i → Memᴰ (reply_with 7 i late_read) late_heard
    heard = last_three (λ i. Memᴰ (reply_with 7 i late_read) late_heard)
        (Memᴰ.tail (Memᴰ.tail (Memᴰ.tail (Memᴰ.tail (Memᴰ.head refl)))))
        (Memᴰ.tail (Memᴰ.tail (Memᴰ.tail (Memᴰ.tail (Memᴰ.tail (Memᴰ.head refl))))))
        (Memᴰ.tail (Memᴰ.tail (Memᴰ.tail (Memᴰ.tail (Memᴰ.tail (Memᴰ.tail (Memᴰ.head refl)))))))

-- the vote gives the value that was written, not the one on which the liars agree, and these alone stand apart
pub late-vote_gives_written : (e : Election) × (vote 2 2 (query_of late_read) late_heard ≡ given e) × (e.value ≡ 7)
    × ((i : ℕ) → Correct five lying i → has e.agreed i ≡ true)
    × ((i : ℕ) → has e.other i ≡ true → i < 3) × ((i : ℕ) → has e.silent i ≡ true → i < 3)
unfolding verdict_of react react_all machine
late-vote_gives_written =
    let v =
    late-holds.elected late_read (Memᴰ.tail (Memᴰ.tail (Memᴰ.tail (Memᴰ.head refl)))) refl late_heard (omega arith) late_authentic late_complete in
    (v.0, v.1, v.2.value, v.2.agreed, λ i e. ltb-true i 3 (v.2.other i e).2, λ i e. ltb-true i 3 (v.2.silent i e).2)

-- no correct replica sends a halt, and the two false ones stop nobody
pub late_complete_halts : CompleteForHalts five lying (account_of five late_calls) 3 late_heard
unfolding verdict_of react react_all machine
late_complete_halts i ok m j t =
    let failed-then = (late-holds.halted i ok 3 (omega arith) (omega arith)).0 in
    true-not-false false (failed-then (in_some (halts_for 1 3) (account_of five late_calls i).sent m j t)) refl

pub two-false-halts-short : (h : HaltCount) × (halt_count 2 2 1 3 late_heard ≡ given h) × (h.size < 3) × (h.halt ≡ false)
    × ((i : ℕ) → has h.senders i ≡ true → i < 3)
unfolding verdict_of react react_all machine
two-false-halts-short =
    let c = late-holds.counted 3 (omega arith) (omega arith) late_heard (omega arith) late_authentic late_complete_halts in
    let short : c.0.size < 3 = case (leb 3 c.0.size) (λ e. true-not-false false (c.2.size.0 (leb-true 3 c.0.size e)) refl) (λ e. leb-false 3 c.0.size e) in
    (c.0, c.1, short, c.2.halt, λ i e. ltb-true i 3 (c.2.none refl i e).2)

-- ── a dissent halts the last process too ──

abbrev split_sent : ℕ → List Message
split_sent i = stopped i 1 ∷ stopped i 2 ∷ stopped i 3 ∷ []

split_computed : (i : ℕ) → Correct five lying i → Computed five split_calls split_sent split_bag i
unfolding ask unit_questions number digits fields_of bytes_of field_questions read_fields write_fields verdict_of handle make admit deliver handle_batch visit visit_group visits put put_all stepped step messages_in call run exchanges flat_map
split_computed =
    let first = Permᴰ.symm (Permᴰ.middle (wrote 1 3 10 8) (wrote 1 1 10 7 ∷ wrote 1 2 10 7 ∷ []) []) in
    last_three (Computed five split_calls split_sent split_bag)
    (record { makes = refl; lends = refl; same = Permᴰ.refl split_bag; obeys = refl; closing = refl; sends = refl })
    (record { makes = refl; lends = refl; same = first; obeys = refl; closing = refl; sends = refl })
    (record { makes = refl; lends = refl; same = first; obeys = refl; closing = refl; sends = refl })

pub split-ran : AllRan five lying split_calls
split-ran = computed_ran five lying split_calls split_sent split_bag split_computed

pub split-supposed : Supposed five lying (account_of five split_calls) split_bag
split-supposed = computed_supposed five lying split_calls split_sent split_bag split_computed (omega arith)

split-holds : Demand3 five lying (account_of five split_calls) split_bag
split-holds = demand3 five lying split_calls split_bag split-ran split-supposed

-- the store failed
pub split-failed : (i : ℕ) → Correct five lying i → failed (account_of five split_calls i).store ≡ true
unfolding verdict_of react react_all machine
split-failed i ok = ap failed (split-holds.holds i ok)

pub split_authentic : Authentic five lying (account_of five split_calls) split_heard
split_authentic =
    computed_authentic five lying split_calls split_sent split_bag split_computed split_heard
    (each_in (each (inr third) (each (inr third) (each (inr third) end))))
  where
    third : {a b c : Message} → Memᴰ c (a ∷ b ∷ c ∷ [])
    third = Memᴰ.tail (Memᴰ.tail (Memᴰ.head refl))

pub split_complete : CompleteForHalts five lying (account_of five split_calls) 3 split_heard
split_complete i ok m j t = subst (λ x. Memᴰ x split_heard) (sym (last m (rw (split_computed i ok).sends at j) (halt_facts 1 3 m t).process)) (heard i ok)
  where
    -- of a replica's halts, the one to process 3
    last : (m : Message) → Memᴰ m (split_sent i) → m.process ≡ 3 → m ≡ stopped i 3
    last = each_in (each (λ e. absurd (omega (arith, e))) (each (λ e. absurd (omega (arith, e))) (each (λ e. refl) end)))

    heard : (i : ℕ) → Correct five lying i → Memᴰ (stopped i 3) split_heard
    heard = last_three (λ i. Memᴰ (stopped i 3) split_heard) (Memᴰ.head refl) (Memᴰ.tail (Memᴰ.head refl)) (Memᴰ.tail (Memᴰ.tail (Memᴰ.head refl)))

-- the count tells process k + 1 to halt, by each of the correct replicas
pub last_process-halts : (h : HaltCount) × (halt_count 2 2 1 3 split_heard ≡ given h) × (3 ≤ h.size) × (h.halt ≡ true)
    × ((i : ℕ) → Correct five lying i → has h.senders i ≡ true)
unfolding verdict_of react react_all machine
last_process-halts =
    let c = split-holds.counted 3 (omega arith) (omega arith) split_heard (omega arith) split_authentic split_complete in
    (c.0, c.1, c.2.size.1 refl, c.2.halt, c.2.all refl)
