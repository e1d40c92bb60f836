-- Document 01's number of each refusal of the code, document 02's 21 and 22 among them.
use Rattle.std.specs.Prelude.{ℕ, Result, Ok, Err}
use Rattle.question.specs.Question.{Answer, given, refused}
use Rattle.question.specs.declared.refusal.Refusal.{Refusal}
use Rattle.question.specs.declared.refusal.Refusal.TheVariants.{K, Groups, Owner, Delta, Replica, Length, Kind, Group, Process, Variable, Zeros, LatestTime, EarlierTime, Pending, Room, List, Quorum, Entry, EntryKind, EntryZeros, Spare, Value}

abbrev pub number_of : Refusal → ℕ
number_of K = 1
number_of Groups = 2
number_of Owner = 3
number_of Delta = 4
number_of Replica = 5
number_of Length = 6
number_of Kind = 7
number_of Group = 8
number_of Process = 9
number_of Variable = 10
number_of Zeros = 11
number_of LatestTime = 12
number_of EarlierTime = 13
number_of Pending = 14
number_of Room = 15
number_of List = 16
number_of Quorum = 17
number_of Entry = 18
number_of EntryKind = 19
number_of EntryZeros = 20
number_of Spare = 21
number_of Value = 22

-- what a call of the code answers: what it gives, or the number of its refusal
abbrev pub answer_of : {A : Type 0} → Result A Refusal → Answer A
answer_of (Ok a) = given a
answer_of (Err refusal) = refused (number_of refusal)
