-- Whatever its bytes are, a record of a journal is refused with a number that document 01 lists for it.
use Prim.Native.Nat.{ℕ}
use mathlib.Core.List.{List, []}
use Rattle.question.specs.Question.{Listed, unit_questions}
use Rattle.question.proofs.Questions.{given_listed, ask_listed}
use Rattle.entry.specs.Entry.{read_setup, read_entry}
use Rattle.entry.specs.Numbers.{entry_numbers, setup_numbers}

pub setup_numbers_lem : (bytes : List ℕ) → Listed setup_numbers (read_setup bytes)
unfolding read_setup unit_questions
setup_numbers_lem bytes = ask_listed _ _ [] (given_listed [] _)

pub entry_numbers_lem : (k : ℕ) (bytes : List ℕ) → Listed entry_numbers (read_entry k bytes)
unfolding read_entry
entry_numbers_lem k bytes = ask_listed _ _ [] (given_listed [] _)
