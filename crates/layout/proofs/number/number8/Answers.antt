-- The eight bytes are the first of the rest from `at` on. Assumes nothing.
use Rattle.std.proofs.Common.{◌≡◌, ◌∙◌, ap, ℕ, List, ◌+◌, ◌-◌, length, take, drop, length-drop, arith}
use lib.Seq.{take_all}
use borrow.Author.Tests.{le-leb}
use Rattle.layout.specs.Number.{number}
use Rattle.layout.proofs.Numbers.{from_be_8}
use Rattle.layout.proofs.number.number8.Goals as goal

pub returns-in-Some-len8-up : goal.returns-in-Some-len8-up
returns-in-Some-len8-up c =
    let a = c.args in
    let rest = c.in-Some-len8-up.field-0.now in
    let found = c.in-Some-len8-up.ensures.lookup in
    let same : rest ≡ drop a.at a.bytes.now =
    found.0.2 ∙ take_all (length a.bytes.now - a.at) (drop a.at a.bytes.now) (rw length-drop (omega arith)) in
    rw (le-leb (a.at + 8) (length a.bytes.now) (omega (arith, c.in-Some-len8-up.len_at_least)))
    (c.from_be_bytes.ensures
    ∙ from_be_8 rest 0 c.in-Some-len8-up.len_at_least
    ∙ ap (λ (l : List ℕ). number (take 8 l)) same)
