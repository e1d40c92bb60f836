-- A text that was lent to be filled from its start: no more of it is used than it has.
use Rattle.std.proofs.Common.{ℕ, ◌≡◌, ◌≤◌, ◌-◌, List, length, arith, length-take}
use mathlib.Core.Path.{ap}
use Rattle.text.specs.Page.{page, put_text}

pub used-lent : (text : List ℕ) {left : List ℕ} {used : ℕ} (words : List ℕ) → page left used ≡ put_text (page text 0) words → used ≤ length text
unfolding put_text
used-lent text words e = let all = ap (λ p. p.used) e in omega (arith, all, length-take (length text - 0) words)
