-- Every row of a step of a replica that no call makes shows what it should: one statement, computed.
use mathlib.Core.Path.{◌≡◌, refl}
use mathlib.Core.List.{map}
use Rattle.question.specs.Question.{ask, unit_questions}
use Rattle.layout.specs.Number.{number, digits}
use Rattle.layout.specs.Layout.{fields_of, bytes_of}
use Rattle.record.specs.Record.{field_questions, read_fields, write_fields}
use Rattle.rules.specs.Batch.{verdict_of, handle}
use Rattle.rules.specs.Replica.{handle_batch, visit, visit_group, visits, put, put_all, stepped, step}
use Rattle.rules.specs.Run.{messages_in}
use Rattle.rules.specs.Strangers.{see, expect, rows}

pub strangers_hold : map see rows ≡ map expect rows
unfolding ask unit_questions number digits fields_of bytes_of field_questions read_fields write_fields verdict_of handle handle_batch visit visit_group visits put put_all stepped step messages_in
strangers_hold = refl
