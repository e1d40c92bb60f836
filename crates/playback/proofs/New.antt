-- The replicas that a setup makes are new.
use Prim.Native.Nat.{ℕ, zero, suc, ◌+◌, ◌*◌, ◌-◌, ◌≤◌}
use mathlib.Core.Path.{◌≡◌, refl}
use mathlib.Core.List.{List}
use native.Mathlib.Omega.{arith}
use lib.Dec.{ltb}
use lib.ListN.{replicate, get_or-replicate}
use Rattle.std.proofs.lemmas.List.{take-replicate, drop-replicate}
use borrow.Author.Tests.{ltb-true}
use Rattle.question.proofs.Tests.{case}
use Rattle.rules.specs.declared.Settings.{Settings}
use Rattle.rules.specs.Replica.{new_state}
use Rattle.laws.proofs.Queues.{fun_ext}
use Rattle.state.specs.State.{part_at}
use Rattle.state.proofs.Queues.{queues_new}
use Rattle.queue.specs.Queue.{places_in}
use Rattle.playback.specs.Arrays.{Arrays, arrays, replica_at}

-- a part of zeros
part_new : (width i n : ℕ) → width * i + width ≤ n → part_at {A = ℕ} width i (replicate n 0) ≡ replicate width 0
part_new width i n h = rw (drop-replicate {X = ℕ} (width * i) n 0) (take-replicate {X = ℕ} width (n - width * i) 0 (omega arith))

-- whatever the rows hold: of no group any are counted
abbrev pub cleared : List (List ℕ) → Arrays
cleared pending = arrays pending (replicate 28 0) (replicate 1792 0) (replicate 7 0) (replicate 7 0)

pub new_unit : (u : Settings) (pending : List (List ℕ)) → replica_at u (cleared pending) ≡ new_state u
unfolding replica_at
new_unit u pending = fun_ext at
  where
    at : (n : ℕ) → replica_at u (cleared pending) n ≡ new_state u n
    at zero = refl
    at (suc i) = case (ltb i 7)
        (λ e.
        let here = ltb-true i 7 e in
        rw (e, get_or-replicate {A = ℕ} 7 i 0 0 here, part_new 4 i 28 (omega arith), part_new 256 i 1792 (omega arith), queues_new (places_in (part_at 64 i pending)) 4))
        (λ e. rw e)
