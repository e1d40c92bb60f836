-- An entry that is played is refused with one of its call's numbers; crates/entry has those of a record that is none.
use Prim.Native.Nat.{ℕ}
use mathlib.Core.List.{List, []}
use Rattle.question.specs.Question.{Listed}
use Rattle.question.proofs.Questions.{given_listed, bind_listed}
use Rattle.rules.specs.Replica.{State, deliver}
use Rattle.rules.proofs.Numbers.{deliver_numbers_lem, step_numbers_lem}
use Rattle.entry.specs.Entry.{Entry, delivery, turn}
use Rattle.entry.specs.Numbers.{call_numbers}
use Rattle.transcript.specs.Journal.{play_entry}

pub play_numbers : (s : State) (e : Entry) (output : List ℕ) → Listed (call_numbers e) (play_entry s e output)
unfolding play_entry
play_numbers s (delivery replica at request) output =
    bind_listed (deliver s request at) _ _ [] (deliver_numbers_lem s request at) (λ t. given_listed [] _)
play_numbers s (turn replica at) output = step_numbers_lem s at output
