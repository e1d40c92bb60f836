-- What was put so far, with the numbers that are left behind it, is the word with all numbers behind it.
use Rattle.std.proofs.Common.{◌≡◌, ◌+◌, [], ◌∷◌, ◌∙◌, sym, get_or, drop, add-one, drop-cons, append_assoc, arith}
use lib.ListN.{drop_of_length-le}
use Rattle.text.specs.Text.{spaced, line}
use Rattle.text.proofs.Put.{puts, puts-nothing}
use Rattle.text.proofs.Writer.put_line.Goals as goal

pub loop-n-preserved : goal.loop-n-preserved
loop-n-preserved c =
    let numbers = c.args.numbers.now in
    let i = c.loop-n.n-index in
    let n = get_or numbers i 0 in
    let rest = spaced (drop (i + 1) numbers) in
    let left : drop i numbers ≡ n ∷ drop (i + 1) numbers = rw add-one (drop-cons numbers i 0 (omega arith)) in
    rw (c.put_decimal.ensures, c.put_word-in-loop-n.ensures, puts, puts) (rw left at c.loop-n.invariant)

pub returns : goal.returns
unfolding line
returns c =
    let none : drop c.loop-n.n-index c.args.numbers.now ≡ [] = drop_of_length-le _ {i = c.loop-n.n-index} (omega arith) in
    let all = sym (puts-nothing c.loop-n.self) ∙ (rw none at c.loop-n.invariant) in
    rw (c.put_word-2.ensures, all, c.put_word.ensures) (simp (puts, append_assoc))
