-- Every row of the votes and halt counts shows what it should: one statement, computed.
use mathlib.Core.Path.{◌≡◌, refl}
use mathlib.Core.List.{map}
use lib.Count.{ones}
use Rattle.question.specs.Question.{ask, unit_questions}
use Rattle.record.specs.Record.{field_questions}
use Rattle.rules.specs.Sets.{with, set_of}
use Rattle.rules.specs.Vote.{counts_for, elect, vote, counts_as_halt, halt_count}
use Rattle.rules.specs.Polls.{rows}

pub polls_hold : map (λ row. row.answer) rows ≡ map (λ row. row.expected) rows
unfolding ask unit_questions field_questions with set_of ones counts_for elect vote counts_as_halt halt_count
polls_hold = refl
