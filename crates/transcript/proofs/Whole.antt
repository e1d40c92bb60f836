-- Document 01's whole run, computed: k = 0, N = 1, owner 1, δ = 5. At 100 a write of 9 to variable 3, at 102 a read of it,
-- and turns at 105, 106 and 108.
use Prim.Native.Nat.{ℕ}
use mathlib.Core.Path.{◌≡◌, refl}
use mathlib.Core.List.{List, ◌∷◌, ◌++◌}
use lib.ListN.{replicate}
use Rattle.std.specs.Prelude.{codes}
use Rattle.text.specs.Text.{decimal_in, decimal, line}
use Rattle.question.specs.Question.{ask, unit_questions}
use Rattle.layout.specs.Number.{number, digits}
use Rattle.layout.specs.Layout.{fields_of, bytes_of}
use Rattle.record.specs.Kind.{read, write}
use Rattle.record.specs.Record.{request_fields, field_questions, read_fields, write_fields}
use Rattle.rules.specs.Batch.{verdict_of, handle}
use Rattle.rules.specs.Replica.{admit, deliver, handle_batch, visit, visit_group, visits, put, put_all, stepped, step}
use Rattle.rules.specs.Run.{messages_in}
use Rattle.entry.specs.Entry.{read_setup, read_entry}
use Rattle.transcript.specs.Journal.{play_entry, play_record, play_all, journal}

-- ── the bytes ──

-- bytes 0 to 15: the kind, the replica, zeros, and a number
abbrev head : ℕ → ℕ → ℕ → List ℕ
head kind replica number = digits 1 kind ++ (digits 1 replica ++ (digits 6 0 ++ digits 8 number))

abbrev pub setup : List ℕ
setup = head 1 0 5 ++ (0 ∷ 1 ∷ 1 ∷ replicate 21 0)

-- a request of process 1 of the owner, on variable 3
abbrev delivery : ℕ → ℕ → ℕ → ℕ → List ℕ
delivery at kind t value =
    head 2 1 at
    ++ bytes_of (request_fields (record { kind = kind; group = 1; process = 1; variable = 3; timestamp = record { 0 = t }; value = value }))

abbrev pub turn : ℕ → List ℕ
turn at = head 3 1 at ++ replicate 24 0

abbrev pub input : List ℕ
input =
    setup ++ (delivery 100 write 50 9 ++ (delivery 102 read 51 0 ++ (turn 105 ++ (turn 106 ++ turn 108))))

-- ── the text ──

pub whole_run : journal input ≡ codes "reply 1 1 1 51 3 9\ncard 1 0 1\n"
unfolding ask unit_questions number digits fields_of bytes_of field_questions read_fields write_fields verdict_of handle admit deliver handle_batch visit visit_group visits put put_all stepped step messages_in read_setup read_entry play_entry play_record decimal_in decimal line play_all journal
whole_run = refl
