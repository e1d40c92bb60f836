-- Inputs cut into blocks, computed: what the calls print, what the end prints, and what the calls left of the input. Assumes nothing.
use Prim.Native.Nat.{ℕ}
use mathlib.Core.Path.{◌≡◌, refl}
use mathlib.Core.Bool.{Bool, true, false}
use mathlib.Core.List.{List, [], ◌∷◌, ◌++◌, map}
use lib.ListN.{length, take}
use Rattle.std.specs.Prelude.{codes}
use Rattle.text.specs.Text.{decimal_in, decimal, line}
use Rattle.question.specs.Question.{ask, unit_questions}
use Rattle.layout.specs.Number.{number, digits}
use Rattle.layout.specs.Layout.{fields_of, bytes_of}
use Rattle.record.specs.Record.{field_questions, read_fields, write_fields}
use Rattle.rules.specs.Batch.{verdict_of, handle}
use Rattle.rules.specs.Replica.{admit, deliver, handle_batch, visit, visit_group, visits, put, put_all, stepped, step}
use Rattle.rules.specs.Run.{messages_in}
use Rattle.entry.specs.Entry.{read_setup, read_entry}
use Rattle.transcript.specs.Journal.{play_entry, fresh, play_record}
use Rattle.transcript.specs.Blocks.{play_records, Call, play_calls, is_over, play_end}
use Rattle.transcript.proofs.Whole.{setup, turn, input}

-- what is seen of some calls: the bytes left, whether that is the end, the text of the calls, and that of the end
record Seen : Type 0 where
  left : ℕ
  over : Bool
  text : List ℕ
  end : List ℕ

record Row : Type 0 where
  calls : List Call
  bytes : List ℕ
  expected : Seen

abbrev says : Row → Seen
says row =
    let p = play_calls row.calls fresh row.bytes in
    record { left = length p.left; over = is_over p.unit p.left; text = p.text; end = play_end p.unit p.left }

abbrev lent : ℕ → ℕ → Call
lent size room = record { size = size; room = room }

abbrev rows : List Row
rows =
    -- document 01's run: too short for a record, one record and a byte, too little room, two records and a half, and all the others
    record {
      calls = lent 39 9000 ∷ lent 41 8844 ∷ lent 40 8843 ∷ lent 100 8844 ∷ lent 1000 9000 ∷ [];
      bytes = input;
      expected = record { left = 0; over = true; text = codes "reply 1 1 1 51 3 9\n"; end = codes "card 1 0 1\n" };
    }
    -- its last record cut short: that turn is refused, so the read that it would answer stays pending
    ∷ record {
      calls = lent 1000 9000 ∷ [];
      bytes = take 233 input;
      expected = record { left = 33; over = true; text = []; end = codes "no 6 18\ncard 1 0 1\n" };
    }
    -- nothing is played after a first record that is refused
    ∷ record {
      calls = lent 1000 9000 ∷ lent 1000 9000 ∷ [];
      bytes = turn 5 ++ input;
      expected = record { left = 240; over = true; text = codes "no 1 19\n"; end = [] };
    }
    -- no input, and one that is shorter than a record
    ∷ record { calls = lent 40 8844 ∷ []; bytes = []; expected = record { left = 0; over = true; text = []; end = [] } }
    ∷ record { calls = []; bytes = take 39 setup; expected = record { left = 39; over = true; text = []; end = codes "no 1 18\n" } }
    -- a line of 8 bytes leaves room for another record; or not, and then the end has not come: it would take what is left for a part
    ∷ record {
      calls = lent 120 8852 ∷ [];
      bytes = setup ++ (setup ++ setup);
      expected = record { left = 0; over = true; text = codes "no 2 19\nno 3 19\n"; end = codes "card 1 0 0\n" };
    }
    ∷ record {
      calls = lent 120 8851 ∷ [];
      bytes = setup ++ (setup ++ setup);
      expected = record { left = 40; over = false; text = codes "no 2 19\n"; end = codes "no 3 18\ncard 1 0 0\n" };
    }
    ∷ []

pub cuts_computed : map says rows ≡ map (λ row. row.expected) rows
unfolding ask unit_questions number digits fields_of bytes_of field_questions read_fields write_fields verdict_of handle admit deliver handle_batch visit visit_group visits put put_all stepped step messages_in read_setup read_entry play_entry play_record decimal_in decimal line play_records play_calls play_end
cuts_computed = refl
