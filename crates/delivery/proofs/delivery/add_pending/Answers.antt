-- The request is put behind those of its group, in a place of the group's own.
use Prim.Native.Nat.{ℕ, suc, ◌-◌, ◌<◌}
use mathlib.Core.Path.{◌≡◌, ap}
use mathlib.Core.List.{List}
use native.Mathlib.Omega.{arith}
use lib.ListN.{length, get_or}
use borrow.Author.Rules.{rules}
use Rattle.layout.specs.declared.clock.LocalTime.{LocalTime}
use Rattle.rules.specs.Replica.{State}
use Rattle.rules.specs.declared.Pending.{Pending}
use Rattle.state.specs.declared.state.Replica.{Replica}
use Rattle.queue.proofs.Counts.{count_at}
use Rattle.delivery.proofs.Added.{added}
use Rattle.delivery.proofs.delivery.add_pending.Goals as goal
use Rattle.delivery.proofs.delivery.add_pending.Goals.{Start}

-- the state with these queues, at this time
abbrev left : Replica → LocalTime → (ℕ → List Pending) → State
left r at queues =
    record { settings = r.settings; number = r.number; store = record { variables = r.variables; writes = r.writes }; pending = queues; last = at }

-- there are 64 places and four counts
long : (c : Start) → length c.args.r.pending ≡ 64
long c = c.well_formed.0.1.1.1.1.1.1.0.1.0.1

four : (c : Start) → length c.args.r.counts ≡ 4
four c = c.well_formed.0.1.1.1.1.1.1.1.0.1.0.1

-- the group has room
room : (c : Start) → get_or c.args.r.counts (c.args.request.group - 1) 0 < 16
room c = omega (arith, c.requires, count_at c.args.r.counts c.args.request.group c.requires.0)

pub overflow_add-place : goal.overflow_add-place
overflow_add-place c = search (rules, room (goal.at.overflow_add-place c).Start)

pub offset_bounds-pending-place : goal.offset_bounds-pending-place
offset_bounds-pending-place c = search (rules, room (goal.at.offset_bounds-pending-place c).Start)

pub bounds-pending-place : goal.bounds-pending-place
bounds-pending-place c = search (rules, room (goal.at.bounds-pending-place c).Start)

pub overflow_add-counts : goal.overflow_add-counts
overflow_add-counts c = search (rules, room (goal.at.overflow_add-counts c).Start)

pub returns : goal.returns
returns c =
    let r = c.args.r in
    let q = c.args.request in
    let p : Pending = record { request = q; arrival = c.args.at } in
    let named : suc (q.group - 1) ≡ q.group = omega (arith, c.requires.0) in
    ap (left r c.args.at) (rw named at (added r.pending r.counts (q.group - 1) p (long (goal.at.returns c).Start) (four (goal.at.returns c).Start) (omega (arith, c.requires)) (room (goal.at.returns c).Start)))
