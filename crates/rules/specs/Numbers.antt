-- The numbers that each public call may be refused with: document 01, "The questions, in order", in its order, with 21 and 22 of
-- document 02 in the place of 11.
use Rattle.std.specs.Prelude.{ℕ, Bool, not, List, [], ◌∷◌, ◌++◌, eqb}
use Rattle.rules.specs.Lists.{every}

abbrev pub make_numbers : List ℕ
make_numbers = 1 ∷ 2 ∷ 3 ∷ 4 ∷ 5 ∷ []

abbrev pub read_request_numbers : List ℕ
read_request_numbers = 1 ∷ 2 ∷ 6 ∷ 7 ∷ 8 ∷ 9 ∷ 10 ∷ 21 ∷ 22 ∷ []

-- a message is asked for its sender too
abbrev pub read_message_numbers : List ℕ
read_message_numbers = 1 ∷ 2 ∷ 6 ∷ 7 ∷ 8 ∷ 9 ∷ 5 ∷ 10 ∷ 21 ∷ 22 ∷ []

-- the spare bytes of a writer are always zero, so it is asked 21 and never refused with it
abbrev pub write_request_numbers : List ℕ
write_request_numbers = 1 ∷ 2 ∷ 7 ∷ 8 ∷ 9 ∷ 10 ∷ 22 ∷ 15 ∷ []

abbrev pub write_message_numbers : List ℕ
write_message_numbers = 1 ∷ 2 ∷ 7 ∷ 8 ∷ 9 ∷ 5 ∷ 10 ∷ 22 ∷ 15 ∷ []

-- the request questions, then its own
abbrev pub deliver_numbers : List ℕ
deliver_numbers = read_request_numbers ++ (12 ∷ 13 ∷ 14 ∷ [])

abbrev pub step_numbers : List ℕ
step_numbers = 12 ∷ 13 ∷ 15 ∷ []

abbrev pub vote_numbers : List ℕ
vote_numbers = 1 ∷ 2 ∷ 16 ∷ 17 ∷ []

abbrev pub halt_count_numbers : List ℕ
halt_count_numbers = 1 ∷ 2 ∷ 16 ∷ []

-- a number is not in a list
abbrev pub lacks : ℕ → List ℕ → Bool
lacks number numbers = every (λ other. not (eqb other number)) numbers
