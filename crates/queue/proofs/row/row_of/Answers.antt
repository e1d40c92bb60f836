use Rattle.std.proofs.Common.{rules}
use Rattle.queue.proofs.Rows.{row_back}
use Rattle.queue.proofs.row.row_of.Goals as goal

pub returns : goal.returns
returns c =
    record { is = cc; back = rw (c.from.ensures, c.from-2.ensures, c.from-3.ensures, c.from-4.ensures, c.from-5.ensures) (row_back c.args.p (search rules) (search rules) (search rules) (search rules) (search rules)) }
