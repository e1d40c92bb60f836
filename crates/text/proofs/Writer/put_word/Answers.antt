-- The part of the text that is lent begins behind what is used.
use Rattle.std.proofs.Common.{◌+◌, ◌-◌, sym, ap, arith}
use Rattle.text.specs.Writer.{page_of, with_page, put}
use Rattle.text.proofs.Put.{put_full, put-copied}
use Rattle.text.proofs.Writer.put_word.Goals as goal

pub returns-then-self-used : goal.returns-then-self-used
unfolding put
returns-then-self-used c =
    let w = c.args.self.now in
    ap (with_page w) (sym (put_full (page_of w) c.args.word.now (omega arith)))

pub returns : goal.returns
unfolding put
returns c =
    let w = c.args.self.now in
    let count = c.at_most-count.result in
    ap (with_page w)
    (put-copied w.text.now w.used c.args.word.now count (w.used + count - w.used) _ (omega arith) (omega (arith, c.at_most-count.ensures)) (omega arith) c.copy_from_slice.ensures.after)
