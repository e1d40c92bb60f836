-- One more request behind those of its group.
use Prim.Native.Nat.{ℕ, suc, ◌+◌, ◌*◌, ◌<◌}
use mathlib.Core.Path.{◌≡◌}
use mathlib.Core.List.{List, [], ◌∷◌, ◌++◌}
use native.Mathlib.Numerals.{add-one}
use native.Mathlib.Omega.{arith}
use lib.ListN.{length, get_or, set}
use lib.Seq.{get_or-set_same, take-suc-set}
use Rattle.rules.specs.Replica.{replace}
use Rattle.rules.specs.declared.Pending.{Pending}
use Rattle.state.specs.State.{places_from, queue_of}
use Rattle.state.proofs.Parts.{part-set, part-set_other}
use Rattle.state.proofs.Queues.{queue-changed}
use Rattle.queue.proofs.Counts.{places-long}

-- one place of a group is set, and counted
module _ (pending : List Pending) (counts : List ℕ) (i : ℕ) (p : Pending)
    (long : length pending ≡ 64) (four : length counts ≡ 4) (here : i < 4) (room : get_or counts i 0 < 16) where
  pub added : queue_of (set pending (16 * i + get_or counts i 0) p) (set counts i (get_or counts i 0 + 1))
      ≡ replace (suc i) (queue_of pending counts (suc i) ++ (p ∷ [])) (queue_of pending counts)
  unfolding queue_of
  added =
      let n = get_or counts i 0 in
      let whole = places-long i pending long here in
      queue-changed pending (set pending (16 * i + n) p) counts i (n + 1) (queue_of pending counts (suc i) ++ (p ∷ []))
      (part-set_other 16 i pending n p room)
      (rw (get_or-set_same counts i (n + 1) 0 (omega arith), part-set 16 i pending n p room, add-one n, take-suc-set (places_from i pending) n p (omega (arith, whole))))
