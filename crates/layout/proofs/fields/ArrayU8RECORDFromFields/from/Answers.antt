-- Each field is its digits; a field of one byte is its own digit, since 256 ^ 0 is 1.
use Rattle.std.proofs.Common.{◌∙◌}
use native.Mathlib.Nat.{pow-zero, div-one}
use native.Mathlib.Omega.{arith}
use Rattle.layout.specs.Number.{digits}
use Rattle.layout.specs.Layout.{bytes_of}
use Rattle.layout.proofs.Numbers.{to_be_is_digits}
use Rattle.layout.proofs.fields.ArrayU8RECORDFromFields.from.Goals as goal

pub returns : goal.returns
unfolding bytes_of digits
returns c =
    let f = c.args.f in
    simp (
      c.to_be_bytes.ensures ∙ to_be_is_digits 2 f.variable (omega arith),
      c.to_be_bytes-2.ensures ∙ to_be_is_digits 2 f.spare6 (omega arith),
      c.to_be_bytes-3.ensures ∙ to_be_is_digits 8 f.timestamp.0 (omega arith),
      c.to_be_bytes-4.ensures ∙ to_be_is_digits 4 f.value (omega arith),
      c.to_be_bytes-5.ensures ∙ to_be_is_digits 4 f.spare20 (omega arith),
      pow-zero,
      div-one,
    )
