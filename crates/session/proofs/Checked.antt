-- The replica's own figures of all 256 sessions, computed, against the register machine's. Assumes nothing.
use mathlib.Core.Path.{◌≡◌, refl}
use mathlib.Core.List.{map}
use Rattle.question.specs.Question.{ask, unit_questions}
use Rattle.layout.specs.Number.{number, digits}
use Rattle.layout.specs.Layout.{fields_of, bytes_of}
use Rattle.record.specs.Record.{field_questions, read_fields, write_fields}
use Rattle.rules.specs.Batch.{verdict_of, handle}
use Rattle.rules.specs.Replica.{new_state, admit, deliver, handle_batch, visit, visit_group, visits, put, put_all, stepped, step}
use Rattle.rules.specs.Run.{messages_in, call, run}
use Rattle.rules.specs.Machine.{react, react_all, machine}
use Rattle.session.proofs.Fed.{session_calls}
use Rattle.session.proofs.Brought.{delta}
use Rattle.session.specs.Session.{unit, all_places, figures_in, figures_of}

pub figures_checked : map (λ place. figures_in (run (new_state (unit delta) 1) (session_calls delta place)).state.store) all_places ≡ map figures_of all_places
unfolding ask unit_questions number digits fields_of bytes_of field_questions read_fields write_fields verdict_of handle admit deliver handle_batch visit visit_group visits put put_all stepped step messages_in call run react react_all machine figures_of
figures_checked = refl
