-- The rows of one group lent, and its count set by what they hold afterwards.
use Prim.Native.Nat.{ℕ, suc, ◌*◌, ◌≤◌}
use mathlib.Core.Path.{◌≡◌, sym, ◌∙◌, ap}
use mathlib.Core.Logic.{◌≢◌}
use mathlib.Core.List.{List, []}
use lib.Dec.{ltb}
use lib.ListN.{length, get_or, set, take, get_or-eq_default}
use lib.Seq.{get_or-set_same, set_out}
use borrow.Author.Tests.{ltb-true, ltb-false}
use Rattle.rules.specs.Replica.{replace}
use Rattle.question.proofs.Tests.{case}
use Rattle.state.specs.State.{part_at, queue_of}
use Rattle.state.proofs.Queues.{queue-changed}
use Rattle.queue.specs.Queue.{places_in, waiting, queues_in}
use Rattle.queue.proofs.Rows.{places-part}

-- a group's queue is what waits in its rows
pub queue-lent : (rows : List (List ℕ)) (counts : List ℕ) (i : ℕ) → waiting (part_at 16 i rows) (get_or counts i 0) ≡ queues_in rows counts (suc i)
unfolding queue_of
queue-lent rows counts i = ap (take (get_or counts i 0)) (places-part rows (16 * i) 16)

-- those rows and that count are changed, no others; where the group has no count, nothing may wait in its rows
module _ (rows next : List (List ℕ)) (counts : List ℕ) (i count : ℕ)
    (others : (j : ℕ) → j ≢ i → part_at 16 j next ≡ part_at 16 j rows) (none : length counts ≤ i → waiting (part_at 16 i next) count ≡ []) where
  own : take (get_or (set counts i count) i 0) (places_in (part_at 16 i next)) ≡ waiting (part_at 16 i next) count
  own = case (ltb i (length counts))
      (λ e. rw (get_or-set_same counts i count 0 (ltb-true i (length counts) e)))
      (λ e.
      let past = ltb-false i (length counts) e in
      rw (set_out counts i count past, get_or-eq_default counts 0 {n = i} past, none past))

  pub queue_back : queues_in next (set counts i count) ≡ replace (suc i) (waiting (part_at 16 i next) count) (queues_in rows counts)
  queue_back =
      queue-changed (places_in rows) (places_in next) counts i count (waiting (part_at 16 i next) count)
      (λ j apart. sym (places-part next (16 * j) 16) ∙ (ap places_in (others j apart) ∙ places-part rows (16 * j) 16))
      (ap (take (get_or (set counts i count) i 0)) (sym (places-part next (16 * i) 16)) ∙ own)
