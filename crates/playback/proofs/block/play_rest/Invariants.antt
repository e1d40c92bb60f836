use Prim.Native.Nat.{◌+◌, ◌≤◌}
use mathlib.Core.Path.{◌≡◌}
use lib.ListN.{length}
use Rattle.limits.specs.Limits.{entry_size}
use Rattle.transcript.specs.Journal.{playing}
use Rattle.transcript.specs.Blocks.{play_block}
use Rattle.playback.specs.Arrays.{arrays_of, replica_at, SameArrays}
use Rattle.playback.proofs.Loop.{room, Left}
use Rattle.playback.proofs.block.play_rest.Given as goal

abbrev pub invariant-records : goal.invariant-records
invariant-records l = record {
  whole : l.record-iterator.size ≡ entry_size;
  taken_within : l.taken + length l.record-iterator.rest.now ≤ length l.block;
  used_within : l.writer.used ≤ length l.writer.text.now;
  same_arrays : SameArrays l.initial.replicas l.replicas;
  left :
      Left (play_block (room l.initial.writer) (playing l.u l.first (replica_at l.u (arrays_of l.initial.replicas))) l.block)
      (playing l.u l.place (replica_at l.u (arrays_of l.replicas))) l.record-iterator.rest.now l.writer l.taken l.initial.writer;
}
