-- The numbers that a record of a journal may be refused with: document 01, "The journal program", in its order.
use Rattle.std.specs.Prelude.{ℕ, List, [], ◌∷◌, ◌++◌}
use Rattle.rules.specs.Numbers.{deliver_numbers, step_numbers}
use Rattle.entry.specs.Entry.{Entry, delivery, turn}

-- those of the record itself
abbrev pub entry_numbers : List ℕ
entry_numbers = 18 ∷ 19 ∷ 5 ∷ 20 ∷ []

-- then those of the call; a setup makes the replicas 1 to 2k + 1, so none of their numbers is refused
abbrev pub setup_numbers : List ℕ
setup_numbers = entry_numbers ++ (1 ∷ 2 ∷ 3 ∷ 4 ∷ [])

abbrev pub call_numbers : Entry → List ℕ
call_numbers (delivery replica at request) = deliver_numbers
call_numbers (turn replica at) = step_numbers
