-- A refusal of the code for each number of document 01 and 02.
use Rattle.std.proofs.Common.{ℕ, ◌≡◌, refl, Bool, cond, eqb, Ok, Err, arith}
use Rattle.std.specs.Prelude.{Result, IsOk}
use Rattle.question.specs.Question.{given, map_answer}
use Rattle.question.specs.Refusals.{number_of, answer_of}
use Rattle.question.specs.declared.refusal.Refusal.{Refusal}
use Rattle.question.specs.declared.refusal.Refusal.TheVariants.{K, Groups, Owner, Delta, Replica, Length, Kind, Group, Process, Variable, Zeros, LatestTime, EarlierTime, Pending, Room, List, Quorum, Entry, EntryKind, EntryZeros, Spare, Value}

-- any other number has that of 11, which no call gives
abbrev pub refusal_of : ℕ → Refusal
refusal_of n =
    cond (eqb n 1) K (cond (eqb n 2) Groups (cond (eqb n 3) Owner (cond (eqb n 4) Delta (cond (eqb n 5) Replica
    (cond (eqb n 6) Length (cond (eqb n 7) Kind (cond (eqb n 8) Group (cond (eqb n 9) Process (cond (eqb n 10) Variable
    (cond (eqb n 12) LatestTime (cond (eqb n 13) EarlierTime (cond (eqb n 14) Pending (cond (eqb n 15) Room (cond (eqb n 16) List
    (cond (eqb n 17) Quorum (cond (eqb n 18) Entry (cond (eqb n 19) EntryKind (cond (eqb n 20) EntryZeros (cond (eqb n 21) Spare
    (cond (eqb n 22) Value Zeros))))))))))))))))))))

-- it has the number
abbrev pub has_number : ℕ → Bool
has_number n = eqb (number_of (refusal_of n)) n

-- what gives something is no refusal
pub ok_given : {A B : Type 0} (f : A → B) (result : Result A Refusal) {b : B} → map_answer f (answer_of result) ≡ given b → IsOk result
ok_given f (Ok a) e = refl
ok_given f (Err refusal) e = absurd (let z : ◌≡◌ {A = ℕ} 0 1 = cc in omega arith)
