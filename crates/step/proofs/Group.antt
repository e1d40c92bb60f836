-- The visit of one group, whose rows are lent, in the state.
use Prim.Native.Nat.{ℕ, suc, ◌+◌, ◌*◌, ◌-◌, ◌≤◌, min}
use mathlib.Core.Path.{◌≡◌, refl, ap, ◌∙◌}
use mathlib.Core.List.{List, []}
use native.Mathlib.Omega.{arith}
use lib.ListN.{length, get_or, set, get_or-eq_default}
use Rattle.std.proofs.lemmas.List.{set-get_or}
use borrow.Rule.Slice.PartMut.{mid_of, put_mid}
use Rattle.layout.specs.declared.clock.LocalTime.{LocalTime}
use Rattle.rules.specs.Replica.{State, Part, Written, written, visit, visit_group}
use Rattle.rules.specs.declared.Pending.{Pending}
use Rattle.rules.specs.declared.Settings.{Settings}
use Rattle.state.proofs.Parts.{part-lent, part_back, part_others}
use Rattle.queue.specs.Queue.{waiting, queues_in}
use Rattle.queue.proofs.Lent.{queue-lent, queue_back}
use Rattle.queue.proofs.Rows.{waiting_most, waiting-length}
use Rattle.step.specs.Output.{Reached, sends, part_in, reached, state_in}
use Rattle.step.specs.declared.handle.Progress.{Progress}
use Rattle.step.proofs.Sends.{reached_is}
use Rattle.step.proofs.Visited.{group-visited}

module _ (u : Settings) (number i : ℕ) (at : LocalTime) (rows : List (List ℕ)) (counts : List ℕ) (begun : Progress) (variables : List ℕ) (w : Written)
    (counted : begun.left ≡ get_or counts i 0) (from to : ℕ) (begins : from ≡ min (16 * i) (length rows)) (ends : to ≡ min (16 * i + 16) (length rows)) where
  -- the group's rows
  abbrev lent : List (List ℕ)
  lent = mid_of from (to - from) rows

  abbrev state : State
  state = state_in u number at (queues_in rows counts) begun.tally.writes variables

  -- what waits in them is its queue
  queue_is : waiting lent begun.left ≡ queues_in rows counts (suc i)
  queue_is = rw (counted, part-lent 16 i rows from to begins ends) (queue-lent rows counts i)

  module _ (part : List (List ℕ)) (same : length part ≡ length lent) (done : Progress) (variables' output' : List ℕ)
      (visited : reached done part variables' output' ≡ sends u w (visit u number (suc i) at (length (waiting lent begun.left)) (part_in begun lent variables))) where
    abbrev next : List (List ℕ)
    next = put_mid from (to - from) rows part

    -- where the group has no count nothing is pending, before or after
    none : length counts ≤ i → waiting part done.left ≡ []
    unfolding visit
    none past =
        let zero : begun.left ≡ 0 = counted ∙ get_or-eq_default counts 0 {n = i} past in
        ap (λ (x : Reached Part). x.state.queue) (rw zero at visited)

    pub group-lent : ◌≡◌ {A = Reached State}
        (record { state = state_in u number at (queues_in next (set counts i done.left)) done.tally.writes variables'; output = written done.tally.count output' })
        (sends u w (visit_group (suc i) at state))
    group-lent =
        let back = part_back 16 i rows from to begins ends part same in
        let put = queue_back rows next counts i done.left (part_others 16 i rows from to begins ends part same) (λ past. rw back (none past)) in
        let queue = ap (λ (q : List Pending). sends u w (visit u number (suc i) at (length q) (record { store = state.store; queue = q }))) queue_is in
        reached_is (ap (λ queues. state_in u number at queues done.tally.writes variables') (rw back at put)) refl
        ∙ group-visited (suc i) at state w (reached done part variables' output') (visited ∙ queue)

  -- where no request was taken off, the count stays, also one past the rows
  pub group_stays : (part : List (List ℕ)) → length part ≡ length lent → (done : Progress) (variables' output' : List ℕ)
      → reached done part variables' output' ≡ sends u w (visit u number (suc i) at (length (waiting lent begun.left)) (part_in begun lent variables))
      → done.left ≡ length (waiting lent begun.left)
      → ◌≡◌ {A = Reached State}
      (record { state = state_in u number at (queues_in (put_mid from (to - from) rows part) counts) done.tally.writes variables'; output = written done.tally.count output' })
      (sends u w (visit_group (suc i) at state))
  group_stays part same done variables' output' visited all =
      let still : set counts i begun.left ≡ counts = rw counted (set-get_or counts i 0) in
      let more = waiting_most part begun.left done.left (omega (arith, all, waiting-length part begun.left, waiting-length lent begun.left)) in
      rw still at (group-lent part same (record { left = begun.left; tally = done.tally }) variables' output' (rw more at visited))
