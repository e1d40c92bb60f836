-- The place behind those of its group is free.
use Prim.Native.Nat.{suc, ◌+◌, ◌*◌, ◌-◌}
use mathlib.Core.Path.{◌≡◌}
use native.Mathlib.Omega.{arith}
use lib.ListN.{get_or}
use Rattle.queue.specs.Queue.{places_in}
use Rattle.queue.proofs.Rows.{places-length, place_set}
use Rattle.delivery.proofs.Added.{added}
use Rattle.playback.proofs.unit.add_pending.Goals as goal

pub returns : goal.returns
returns c =
    let a = c.args in
    let g = a.request.group - 1 in
    let named : suc g ≡ a.request.group = omega arith in
    let pending = a.pending.now in
    let counts = a.counts.now in
    let one = added (places_in pending) counts g (record { request = a.request; arrival = a.at }) (omega (arith, places-length pending)) (omega arith) (omega arith) (omega arith) in
    rw (place_set pending (16 * g + get_or counts g 0) c.row_of.result, c.row_of.ensures.back) (rw named at one)
