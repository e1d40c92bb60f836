-- The owner has of each run what it should: one statement, computed.
use mathlib.Core.Path.{◌≡◌, refl}
use mathlib.Core.List.{map, flat_map}
use Rattle.question.specs.Question.{ask, unit_questions}
use Rattle.layout.specs.Number.{number, digits}
use Rattle.layout.specs.Layout.{fields_of, bytes_of}
use Rattle.record.specs.Record.{field_questions, read_fields, write_fields}
use Rattle.rules.specs.Batch.{verdict_of, handle}
use Rattle.rules.specs.Replica.{admit, deliver, handle_batch, visit, visit_group, visits, put, put_all, stepped, step}
use Rattle.rules.specs.Run.{messages_in, call, run, exchanges}
use Rattle.rules.specs.Owner.{owner_view}
use Rattle.rules.specs.TwoRuns.{three, seen, rows}

pub two-runs_hold : map (λ row. seen (owner_view three 1 row.calls)) rows ≡ map (λ row. row.expected) rows
unfolding ask unit_questions number digits fields_of bytes_of field_questions read_fields write_fields verdict_of handle admit deliver handle_batch visit visit_group visits put put_all stepped step messages_in call run exchanges flat_map
two-runs_hold = refl
