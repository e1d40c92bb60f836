-- The messages of a turn are the same, whatever stood in the output.
use Prim.Native.Nat.{ℕ, ◌+◌}
use mathlib.Core.Path.{◌≡◌, sym, ap, ◌∙◌}
use lib.ListN.{length, replicate, length-replicate}
use Rattle.limits.specs.Limits.{output_size}
use Rattle.rules.specs.Replica.{step}
use Rattle.transcript.specs.Journal.{playing, play_entry}
use Rattle.transcript.proofs.Output.{step-state, step_lines}
use Rattle.playback.specs.Arrays.{arrays_of, replica_at}
use Rattle.playback.proofs.Record.{stepped-text}
use Rattle.playback.proofs.play.play_turn.Goals as goal

pub returns-clause-printed : goal.returns-clause-printed
unfolding play_entry
returns-clause-printed c =
    let a = c.args in
    let said = c.step_of-answer.ensures in
    let replica = replica_at a.u (arrays_of a.replicas.now) a.number.value in
    let output = a.output.now in
    let zeros = replicate {A = ℕ} output_size 0 in
    let same : length output ≡ length zeros = c.told-output ∙ sym (length-replicate {A = ℕ} output_size 0) in (
      ap (playing a.u (a.place + 1)) (rw (step-state replica a.at output zeros same) at said.state),
      rw (← step_lines replica a.at output zeros same a.u a.place, ← stepped-text a.u a.place output (step replica a.at output), ← said.answer, ← said.output) c.put_answer.ensures,
    )
