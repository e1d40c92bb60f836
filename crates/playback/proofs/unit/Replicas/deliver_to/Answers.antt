-- The replica's own counts are lent to the questions, and what they admit finds a place.
use Prim.Native.Nat.{◌-◌, ◌≤◌, ◌<◌}
use mathlib.Core.Path.{◌≡◌, refl, sym, ap, ◌∙◌}
use native.Mathlib.Omega.{arith}
use lib.ListN.{get_or}
use borrow.Author.Rules.{rules}
use Rattle.std.proofs.Common.{Err}
use Rattle.question.specs.Refusals.{answer_of}
use Rattle.rules.specs.Replica.{admit, deliver}
use Rattle.laws.proofs.Accepted.{read-group, admit_admitted}
use Rattle.state.specs.State.{part_at}
use Rattle.queue.specs.Queue.{places_in}
use Rattle.queue.proofs.Counts.{count_at}
use Rattle.delivery.proofs.Asked.{queue-length, admit-counted}
use Rattle.playback.specs.Arrays.{arrays_of, state_at}
use Rattle.playback.proofs.Arrays.{replica-long, replica_is, replica-kept, lent, lent-is, returned-arrive}
use Rattle.playback.proofs.unit.Replicas.deliver_to.Goals as goal
use Rattle.playback.proofs.unit.Replicas.deliver_to.Goals.{After-admit, In_ok-request}

-- what is admitted is what the rules admit
admitted : (c : After-admit) → let a = c.args in answer_of c.admit.result ≡ admit (state_at a.u (arrays_of a.self.now) c.index-i.result) a.bytes.now a.at
admitted c =
    let a = c.args in
    let i = c.index-i.result in
    let old = arrays_of a.self.now in
    (rw (lent-is 4 i old.counts (omega arith) (omega arith)) at c.admit.ensures)
    ∙ admit-counted (state_at a.u old i) (places_in (part_at 64 i old.pending)) (part_at 4 i old.counts) refl
    (replica-long i old.pending (omega arith) (omega arith)) a.bytes.now a.at

-- so its group is one that there is, and has room
place : (c : In_ok-request) → (let a = c.args in answer_of c.admit.result ≡ admit (state_at a.u (arrays_of a.self.now) c.index-i.result) a.bytes.now a.at) →
    let g = c.in_ok-request.request.group in
    (1 ≤ g) × (g ≤ 4) × (get_or (lent 4 c.index-i.result c.args.self.now.counts.now) (g - 1) 0 < 16)
place c asked =
    let a = c.args in
    let i = c.index-i.result in
    let old = arrays_of a.self.now in
    let counts = part_at 4 i old.counts in
    let g = c.in_ok-request.request.group in
    let found = admit_admitted (state_at a.u old i) a.bytes.now a.at (sym asked ∙ ap answer_of c.in_ok-request.was) in
    let group = read-group a.u.k a.u.groups a.bytes.now found.reads in
    let counted = queue-length (places_in (part_at 64 i old.pending)) counts g (replica-long i old.pending (omega arith) (omega arith)) group.0 group.1 in
    (group.0, group.1, rw (lent-is 4 i old.counts (omega arith) (omega arith)) (omega (arith, found.room, counted, count_at counts g group.0)))

pub add_pending-requires-clause-group_there : goal.add_pending-requires-clause-group_there
add_pending-requires-clause-group_there c =
    let at = goal.at.add_pending-requires-clause-group_there c in
    let p = place at.In_ok-request (admitted at.After-admit) in (p.0, p.1)

pub add_pending-requires-clause-group_has_room : goal.add_pending-requires-clause-group_has_room
add_pending-requires-clause-group_has_room c =
    let at = goal.at.add_pending-requires-clause-group_has_room c in
    (place at.In_ok-request (admitted at.After-admit)).2

pub returns : goal.returns
unfolding deliver
returns c =
    let a = c.args in
    let i = c.index-i.result in
    let old = arrays_of a.self.now in
    let last = c.add_pending.new in
    let kept = c.add_pending.auto in
    rw (← c.index-i.ensures, replica_is a.u old i (omega arith), ← admitted (goal.at.returns c).After-admit, c.in_ok-request.was)
    record {
      same_arrays = search rules;
      answer = refl;
      state = returned-arrive a.u old i (omega arith) (omega arith) (omega arith) (omega arith) last.pending last.counts kept.pending kept.counts c.in_ok-request.request a.at c.add_pending.ensures;
    }

pub returns-in_err-request : goal.returns-in_err-request
unfolding deliver
returns-in_err-request c =
    let a = c.args in
    let i = c.index-i.result in
    let old = arrays_of a.self.now in
    let is : c.from_residual.result ≡ Err c.in_err-request.field-0.0 = search rules in
    rw (is, ← c.index-i.ensures, replica_is a.u old i (omega arith), ← admitted (goal.at.returns-in_err-request c).After-admit, c.in_err-request.was)
    record { same_arrays = search rules; answer = refl; state = replica-kept a.u old i (omega arith) }
