-- The replies sent so far, and those to what is left of the batch behind them, are the replies to all of it.
use Rattle.std.proofs.Common.{◌≡◌, map}
use Rattle.rules.specs.Batch.{Store, reply_to}
use Rattle.rules.specs.Replica.{written, put_all}
use Rattle.batch.specs.Head.{left_in}
use Rattle.step.proofs.output.Visit.send_replies.Given as goal

abbrev pub invariant-loop-request : goal.invariant-loop-request
invariant-loop-request l =
    let v = l.fn.self in
    (s : Store) → s.variables ≡ l.variables
    → put_all v.settings.k v.settings.groups (written l.next l.output) (map (reply_to s v.number) (left_in l.request-iterator))
    ≡ put_all v.settings.k v.settings.groups (written l.fn.count l.initial.output) (map (reply_to s v.number) (left_in l.fn.batch))
