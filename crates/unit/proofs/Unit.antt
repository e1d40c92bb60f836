-- The third demand of the code, from the contracts of its functions.
use Prim.Native.Nat.{ℕ}
use mathlib.Core.Path.{◌≡◌, ◌∙◌}
use mathlib.Core.Bool.{Bool}
use mathlib.Core.List.{List}
use native.Mathlib.Omega.{arith}
use Rattle.std.specs.Prelude.{Result, Ok, Err}
use Rattle.question.specs.Question.{given}
use Rattle.question.specs.declared.refusal.Refusal.{Refusal}
use Rattle.question.specs.Refusals.{answer_of}
use Rattle.record.specs.declared.request.Request.{Request}
use Rattle.rules.specs.Run.{Call}
use Rattle.rules.specs.declared.Settings.{Settings}
use Rattle.failstop.specs.Suppose.{Correct}
use Rattle.failstop.specs.Runs as rules
use Rattle.failstop.specs.Demand3.{Demand3}
use Rattle.failstop.proofs.Demand3.{demand3}
use Rattle.unit.specs.Life.{Life}
use Rattle.unit.specs.Unit.{accounts, UnitRan, Demand3OfCode}
use Rattle.unit.proofs.Accounts.{calls_of, life_ran, life_account_lem}
use Rattle.unit.proofs.Same.{supposed_same, claims_same}

-- an answer of the code that stands for what is given is that
ok_is : {A : Type 0} (answer : Result A Refusal) {a : A} → answer_of answer ≡ given a → answer ≡ Ok a
ok_is (Ok b) {a} given_so = let i : b ≡ a = cc in rw i
ok_is (Err refusal) given_so = absurd (let z : ◌≡◌ {A = ℕ} 0 1 = cc in omega arith)

module _ (u : Settings) (faulty : ℕ → Bool) (lives : ℕ → Life) (bag : List Request) (ran : UnitRan u faulty lives bag) where
  -- each replica's calls, without their answers
  abbrev calls : ℕ → List Call
  calls i = calls_of (lives i).events

  same : (i : ℕ) → Correct u faulty i → accounts u lives i ≡ rules.account_of u calls i
  same i ok = life_account_lem u i (lives i) (ran.lived i ok)

  claimed : Demand3 u faulty (accounts u lives) bag
  claimed =
      let by-rules : rules.AllRan u faulty calls = λ i ok. life_ran u i (lives i) (ran.lived i ok) in
      claims_same u faulty (accounts u lives) (rules.account_of u calls) same bag
      (demand3 u faulty calls bag by-rules (supposed_same u faulty (accounts u lives) (rules.account_of u calls) same bag ran.supposed))

  pub demand3_of_code : Demand3OfCode u faulty lives bag
  demand3_of_code = record {
    claims = claimed;
    elected = λ r sent unmixed list short authentic complete answer votes.
        let v = claimed.elected r sent unmixed list (omega (arith, short)) authentic complete in
        (v.0, ok_is answer (votes ∙ v.1), v.2);
    counted = λ process low high list short authentic complete answer counts.
        let c = claimed.counted process low (omega (arith, high)) list (omega (arith, short)) authentic complete in
        (c.0, ok_is answer (counts ∙ c.1), c.2);
  }
