-- The 24 bytes and the fields say the same, each the only form of the other. Assumes nothing.
use Prim.Native.Nat.{ℕ, ◌+◌, ◌^◌, ◌≤◌, ◌<◌}
use mathlib.Core.Path.{◌≡◌, refl, sym, ap, ◌∙◌}
use mathlib.Core.List.{List, ◌++◌}
use lib.ListN.{length, take, drop, length-drop, take-append-drop}
use lib.Seq.{drop-drop, take_all}
use native.Mathlib.Omega.{arith}
use borrow.Author.Tests.{eq-eqb, le-leb}
use Rattle.limits.specs.Limits.{record_size}
use Rattle.layout.specs.Number.{Bytes, digits}
use Rattle.layout.specs.Layout.{fields_of, fields_in, bytes_of, put_in}
use Rattle.layout.specs.declared.fields.Fields.{Fields}
use Rattle.layout.proofs.Numbers.{number_digits, digits-part}

pub length-bytes_of : (f : Fields) → length (bytes_of f) ≡ 24
unfolding bytes_of digits
length-bytes_of f = refl

-- the ranges of the fields, as the code's types have them
pub record InRange (f : Fields) : Type 0 where
  pub kind : f.kind < 256 ^ 1
  pub group : f.group < 256 ^ 1
  pub process : f.process < 256 ^ 1
  pub replica : f.replica < 256 ^ 1
  pub variable : f.variable < 256 ^ 2
  pub spare6 : f.spare6 < 256 ^ 2
  pub timestamp : f.timestamp.0 < 256 ^ 8
  pub value : f.value < 256 ^ 4
  pub spare20 : f.spare20 < 256 ^ 4

pub fields_of-bytes : (f : Fields) → InRange f → fields_of (bytes_of f) ≡ f
unfolding fields_of bytes_of digits
fields_of-bytes f h =
    rw (
      number_digits 1 f.kind h.kind,
      number_digits 1 f.group h.group,
      number_digits 1 f.process h.process,
      number_digits 1 f.replica h.replica,
      number_digits 2 f.variable h.variable,
      number_digits 2 f.spare6 h.spare6,
      number_digits 8 f.timestamp.0 h.timestamp,
      number_digits 4 f.value h.value,
      number_digits 4 f.spare20 h.spare20,
    )

-- a part and what follows it
join : (bytes : List ℕ) (at width : ℕ) → take width (drop at bytes) ++ drop (at + width) bytes ≡ drop at bytes
join bytes at width =
    ap (λ (l : List ℕ). take width (drop at bytes) ++ l) (sym (drop-drop width at bytes)) ∙ take-append-drop width (drop at bytes)

pub bytes_of-fields : (bytes : List ℕ) → Bytes bytes → length bytes ≡ 24 → bytes_of (fields_of bytes) ≡ bytes
unfolding fields_of bytes_of
bytes_of-fields bytes h e =
    let last : take 4 (drop 20 bytes) ≡ drop 20 bytes = take_all 4 (drop 20 bytes) (rw length-drop (omega arith)) in
    rw (
      digits-part bytes h 0 1 (omega arith),
      digits-part bytes h 1 1 (omega arith),
      digits-part bytes h 2 1 (omega arith),
      digits-part bytes h 3 1 (omega arith),
      digits-part bytes h 4 2 (omega arith),
      digits-part bytes h 6 2 (omega arith),
      digits-part bytes h 8 8 (omega arith),
      digits-part bytes h 16 4 (omega arith),
      digits-part bytes h 20 4 (omega arith),
      last,
      join bytes 16 4,
      join bytes 8 8,
      join bytes 6 2,
      join bytes 4 2,
      join bytes 3 1,
      join bytes 2 1,
      join bytes 1 1,
      join bytes 0 1,
    )

-- 24 bytes are read, and a destination with room is written
pub fields_in_lem : (bytes : List ℕ) → length bytes ≡ record_size → fields_in bytes ≡ fields_of bytes
fields_in_lem bytes e = rw (eq-eqb (length bytes) record_size e)

pub put_in_lem : (f : Fields) (destination : List ℕ) → record_size ≤ length destination → put_in f destination ≡ bytes_of f ++ drop record_size destination
put_in_lem f destination h = rw (le-leb record_size (length destination) h)
