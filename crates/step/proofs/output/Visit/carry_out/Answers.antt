-- Each way through the code is one of the four things that may come of a batch.
use Prim.Native.Nat.{ℕ}
use mathlib.Core.Path.{◌≡◌, refl, sym, ap, ◌∙◌}
use mathlib.Core.Bool.{true, false}
use mathlib.Core.List.{List}
use lib.ListN.{set}
use Rattle.record.specs.declared.request.Request.{Request}
use Rattle.rules.specs.Batch.{Store, all_reads, may_change}
use Rattle.rules.specs.Replica.{written}
use Rattle.queue.specs.Queue.{places_in}
use Rattle.batch.specs.Head.{requests_at}
use Rattle.step.specs.Output.{store_in}
use Rattle.step.proofs.Handled.{handled-reads, handled-still, handled-write, handled-fails}
use Rattle.step.proofs.Sends.{reached_is, sends_as, sends-still}
use Rattle.step.proofs.output.Visit.carry_out.Goals as goal
use Rattle.step.proofs.output.Visit.carry_out.Goals.{Else-all_reads, Else-not-may_change, Start}

-- a store by its variables and its writes
store_is : {v x : List ℕ} {n m : ℕ} → v ≡ x → n ≡ m → store_in v n ≡ store_in x m
store_is e i = rw (e, i)

-- the store that the batch meets, and the batch
abbrev store : Start → Store
store c = store_in c.args.variables.now c.args.tally.writes

abbrev batch : Start → List Request
batch c = requests_at c.args.t (places_in c.args.queue.now)

-- not all are reads
mixed : (c : Else-all_reads) → all_reads (batch c.before.before.before.before.before) ≡ false
mixed c = sym c.all_reads.ensures ∙ c.if-all_reads.false

-- the owner's, and the store has not failed
changing : (c : Else-not-may_change) → may_change c.args.self.settings c.args.self.group (store c.before.before.before.before.before.before.before) ≡ true
changing c =
    sym (c.may_change.ensures (store c.before.before.before.before.before.before.before) refl) ∙ c.if-not-may_change.false

pub returns-then-all_reads : goal.returns-then-all_reads
returns-then-all_reads c =
    let a = c.args in
    let all = sym c.all_reads.ensures ∙ c.if-all_reads.true in
    sends_as a.self.settings (written a.tally.count a.output.now) (handled-reads a.self.settings a.self.number a.self.group a.t (batch (goal.at.returns-then-all_reads c).Start) (store (goal.at.returns-then-all_reads c).Start) all)
    (reached_is refl (rw c.of-batch.ensures at (c.send_replies-count.ensures (store (goal.at.returns-then-all_reads c).Start) refl)))

pub returns-then-not-may_change : goal.returns-then-not-may_change
returns-then-not-may_change c =
    let a = c.args in
    let w = written a.tally.count a.output.now in
    let may-not = sym (c.may_change.ensures (store (goal.at.returns-then-not-may_change c).Start) refl) ∙ c.if-not-may_change.true in
    sends_as a.self.settings w (handled-still a.self.settings a.self.number a.self.group a.t (batch (goal.at.returns-then-not-may_change c).Start) (store (goal.at.returns-then-not-may_change c).Start) (mixed (goal.at.returns-then-not-may_change c).Else-all_reads) may-not) (sym (sends-still a.self.settings w (store (goal.at.returns-then-not-may_change c).Start)))

pub returns-then-is_unanimous : goal.returns-then-is_unanimous
returns-then-is_unanimous c =
    let a = c.args in
    let w = written a.tally.count a.output.now in
    let variables = c.assign.ensures ∙ ap (λ (r : Request). set a.variables.now r.variable r.value) c.first_of-first.ensures in
    sends_as a.self.settings w
    (handled-write a.self.settings a.self.number a.self.group a.t (batch (goal.at.returns-then-is_unanimous c).Start) (store (goal.at.returns-then-is_unanimous c).Start) (mixed (goal.at.returns-then-is_unanimous c).Else-all_reads) (changing (goal.at.returns-then-is_unanimous c).Else-not-may_change) (sym c.is_unanimous.ensures ∙ c.if-is_unanimous.true))
    (reached_is (store_is variables c.one_more-writes.ensures) refl ∙ sym (sends-still a.self.settings w _))

pub returns : goal.returns
returns c =
    let a = c.args in
    sends_as a.self.settings (written a.tally.count a.output.now)
    (handled-fails a.self.settings a.self.number a.self.group a.t (batch (goal.at.returns c).Start) (store (goal.at.returns c).Start) (mixed (goal.at.returns c).Else-all_reads) (changing (goal.at.returns c).Else-not-may_change) (sym c.is_unanimous.ensures ∙ c.if-is_unanimous.false))
    (reached_is (store_is c.assign-2.ensures refl) c.send_halts-count.ensures)
