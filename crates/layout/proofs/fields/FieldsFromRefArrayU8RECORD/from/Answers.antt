-- Each field is the number at its place. Assumes nothing.
use native.Mathlib.Omega.{arith}
use Rattle.layout.specs.Layout.{fields_of}
use Rattle.layout.proofs.Numbers.{byte_1, from_be_2, from_be_4, from_be_8}
use Rattle.layout.proofs.fields.FieldsFromRefArrayU8RECORD.from.Goals as goal

pub returns : goal.returns
unfolding fields_of
returns c = let b = c.args.b.now in
    rw (
      ← byte_1 b 0 (omega arith),
      ← byte_1 b 1 (omega arith),
      ← byte_1 b 2 (omega arith),
      ← byte_1 b 3 (omega arith),
      ← from_be_2 b 4 (omega arith),
      ← from_be_2 b 6 (omega arith),
      ← from_be_8 b 8 (omega arith),
      ← from_be_4 b 16 (omega arith),
      ← from_be_4 b 20 (omega arith),
      c.from_be_bytes-timestamp.ensures,
      c.from_be_bytes.ensures,
      c.from_be_bytes-2.ensures,
      c.from_be_bytes-3.ensures,
      c.from_be_bytes-4.ensures,
    )
