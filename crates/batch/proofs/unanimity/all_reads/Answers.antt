use Rattle.std.proofs.Common.{sym, ◌∙◌, rules, tests}
use Rattle.std.proofs.lemmas.Iterator.Consumers.{YieldsList-from_first}
use Rattle.std.proofs.lemmas.Iterator.Search.{all_from_yields_List}
use Rattle.record.specs.Kind.{is_read}
use Rattle.queue.specs.Queue.{places_in}
use Rattle.batch.specs.Head.{requests_at, left_in}
use Rattle.batch.proofs.Lists.{every_all}
use Rattle.batch.proofs.unanimity.all_reads.Goals as goal

pub returns : goal.returns
returns c =
    let batch = requests_at c.args.t (places_in c.args.queue.now) in
    all_from_yields_List is_read c.all.new.self _ _ c.all.ensures.ran (YieldsList-from_first (λ x. x) left_in batch c.of.ensures) (λ x b q k. search (rules, tests))
    ∙ sym (every_all is_read batch)
