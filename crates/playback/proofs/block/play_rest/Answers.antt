-- What is played so far, and what is left of the block behind it, is the whole call.
use Prim.Native.Nat.{◌+◌}
use mathlib.Core.Path.{◌≡◌, ◌∙◌}
use mathlib.Core.Bool.{false, ◌&&◌}
use native.Mathlib.Omega.{arith}
use lib.Dec.{leb, ltb}
use lib.ListN.{length, length-append}
use borrow.Author.Tests.{le-leb, lt-leb}
use borrow.Author.Rules.{rules}
use Rattle.limits.specs.Limits.{entry_size, max_place}
use Rattle.question.proofs.Tests.{case}
use Rattle.transcript.specs.Journal.{playing, play_record}
use Rattle.transcript.specs.Blocks.{lines_size, play_block}
use Rattle.playback.specs.Arrays.{arrays_of, replica_at}
use Rattle.playback.proofs.Loop.{room, put-within, left_next, left_over}
use Rattle.std.proofs.lemmas.Bool.Decides.{nat_tests}
use Rattle.playback.proofs.block.play_rest.Goals as goal

pub records-preserved : goal.records-preserved
unfolding play_record
records-preserved c =
    let a = c.args in
    let inv = c.records.invariant in
    let e = c.in-Some.ensures.steps in
    let long = e.1.1 ∙ inv.whole in
    let rest = c.next.new.self.rest.now in
    let parts : length c.records.record-iterator.rest.now ≡ length c.in-Some.record.now + length rest = rw e.1.0 (length-append c.in-Some.record.now rest) in
    let old = playing a.u c.records.place (replica_at a.u (arrays_of c.records.replicas)) in
    let all = play_block (room a.writer.now) (playing a.u a.first (replica_at a.u (arrays_of a.replicas.now))) a.block.now in
    let said = c.play_record.ensures.printed in
    let next = left_next all old c.records.record-iterator.rest.now c.records.writer c.records.taken a.writer.now inv.left c.in-Some.record.now rest e.1.0 long inv.used_within (grind (arith, nat_tests)) in
    record {
      whole = e.0 ∙ inv.whole;
      taken_within = omega (arith, inv.taken_within, parts, long);
      used_within = rw said.1 (put-within c.records.writer _ inv.used_within);
      same_arrays = search rules;
      left = rw (said.0, said.1) next;
    }

pub returns-in-None-clause-played : goal.returns-in-None-clause-played
returns-in-None-clause-played c =
    let a = c.args in
    let inv = c.records.invariant in
    let left = c.records.record-iterator.rest.now in
    let old = playing a.u c.records.place (replica_at a.u (arrays_of c.records.replicas)) in
    let all = play_block (room a.writer.now) (playing a.u a.first (replica_at a.u (arrays_of a.replicas.now))) a.block.now in
    let short = lt-leb entry_size (length left) (omega (arith, c.in-None.ensures.steps, inv.whole)) in
    rw (le-leb a.u.k 3 c.requires.small_k) (left_over all old left c.records.writer c.records.taken a.writer.now inv.left (rw short))

pub returns-then-not-goes_on-clause-played : goal.returns-then-not-goes_on-clause-played
returns-then-not-goes_on-clause-played c =
    let a = c.args in
    let left = c.records.record-iterator.rest.now in
    let old = playing a.u c.records.place (replica_at a.u (arrays_of c.records.replicas)) in
    let all = play_block (room a.writer.now) (playing a.u a.first (replica_at a.u (arrays_of a.replicas.now))) a.block.now in
    let off : leb entry_size (length left) && (leb lines_size (room c.records.writer) && ltb c.records.place max_place) ≡ false = case (leb entry_size (length left)) (λ f. rw f (grind (arith, nat_tests))) (λ f. rw f) in
    rw (le-leb a.u.k 3 c.requires.small_k) (left_over all old left c.records.writer c.records.taken a.writer.now c.records.invariant.left off)
