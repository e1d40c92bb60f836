-- Every row of the refusals shows what it should: one statement for the calls of a replica and one for records, computed.
use mathlib.Core.Path.{◌≡◌, refl}
use mathlib.Core.List.{map}
use Rattle.question.specs.Question.{ask, unit_questions}
use Rattle.layout.specs.Number.{number, digits}
use Rattle.layout.specs.Layout.{fields_of, bytes_of}
use Rattle.record.specs.Record.{field_questions, read_fields, write_fields}
use Rattle.rules.specs.Batch.{verdict_of, handle}
use Rattle.rules.specs.Replica.{make, admit, deliver, handle_batch, visit, visit_group, visits, put, put_all, stepped, step}
use Rattle.rules.specs.Refusals.{rows}
use Rattle.rules.specs.RecordRefusals.{rows as record_rows}

pub refusals_hold : map (λ row. row.answer) rows ≡ map (λ row. row.expected) rows
unfolding ask unit_questions number digits fields_of bytes_of field_questions read_fields verdict_of handle make admit deliver handle_batch visit visit_group visits put put_all stepped step
refusals_hold = refl

pub record_refusals_hold : map (λ row. row.answer) record_rows ≡ map (λ row. row.expected) record_rows
unfolding ask unit_questions number digits fields_of bytes_of field_questions read_fields write_fields
record_refusals_hold = refl
