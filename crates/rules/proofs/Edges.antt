-- Every row of the edges shows what it should: one statement, computed.
use mathlib.Core.Path.{◌≡◌, refl}
use mathlib.Core.List.{map, flat_map}
use Rattle.question.specs.Question.{ask, unit_questions}
use Rattle.layout.specs.Number.{number, digits}
use Rattle.layout.specs.Layout.{fields_of, bytes_of}
use Rattle.record.specs.Record.{field_questions, read_fields, write_fields}
use Rattle.rules.specs.Batch.{verdict_of, handle}
use Rattle.rules.specs.Replica.{make, admit, deliver, handle_batch, visit, visit_group, visits, put, put_all, stepped, step}
use Rattle.rules.specs.Run.{messages_in, call, run, exchanges}
use Rattle.rules.specs.Machine.{react, react_all, machine}
use Rattle.rules.specs.Edges.{see, rows}

pub edges_hold : map see rows ≡ map (λ row. row.expected) rows
unfolding ask unit_questions number digits fields_of bytes_of field_questions read_fields write_fields verdict_of handle make admit deliver handle_batch visit visit_group visits put put_all stepped step messages_in call run exchanges flat_map react react_all machine
edges_hold = refl
