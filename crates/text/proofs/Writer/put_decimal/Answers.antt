-- The digits that are counted are those of the definition.
use Rattle.std.proofs.Common.{◌∙◌, ap}
use Rattle.text.specs.Writer.{put}
use Rattle.text.proofs.Decimal.{fewest_decimal}
use Rattle.text.proofs.Writer.put_decimal.Goals as goal

pub returns : goal.returns
returns c =
    let digits = c.decimal-count.ensures in
    c.put_word.ensures ∙ ap (put c.args.self.now) (digits.digits ∙ fewest_decimal _ _ c.ranges.n.fits digits.len)
