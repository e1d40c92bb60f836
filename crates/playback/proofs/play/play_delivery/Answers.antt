-- What is left of the unit, and what is printed, is that of the delivery.
use Prim.Native.Nat.{◌+◌}
use mathlib.Core.Path.{◌≡◌, sym, ap, ◌∙◌}
use lib.ListN.{replicate}
use Rattle.limits.specs.Limits.{output_size}
use Rattle.text.proofs.Put.{puts-nothing}
use Rattle.question.specs.Question.{map_answer, after}
use Rattle.rules.specs.Replica.{State, deliver}
use Rattle.entry.specs.Entry.{delivery}
use Rattle.transcript.specs.Journal.{playing, replaced, play_entry}
use Rattle.playback.specs.Arrays.{arrays_of, replica_at}
use Rattle.playback.proofs.Record.{state-delivered, done-text, refused-text}
use Rattle.playback.proofs.play.play_delivery.Goals as goal
use Rattle.playback.proofs.play.play_delivery.Goals.{After-deliver_to}

-- what is left of the unit
left : (c : After-deliver_to) →
    let a = c.args in
    let replicas = replica_at a.u (arrays_of a.replicas.now) in
    let n = a.number.value in
    replica_at a.u (arrays_of c.deliver_to.new.self)
    ≡ replaced n (after (replicas n) (map_answer (λ d. d.state) (play_entry (replicas n) (delivery n a.at a.request.now) (replicate output_size 0)))) replicas
unfolding play_entry
left c =
    let a = c.args in
    let replicas = replica_at a.u (arrays_of a.replicas.now) in
    let n = a.number.value in
    c.deliver_to.ensures.state
    ∙ ap (λ (s : State). replaced n s replicas) (state-delivered (replicas n) (replicate output_size 0) (deliver (replicas n) a.request.now a.at))

pub returns-in_default-clause-printed : goal.returns-in_default-clause-printed
unfolding play_entry
returns-in_default-clause-printed c =
    let a = c.args in
    let answer = deliver (replica_at a.u (arrays_of a.replicas.now) a.number.value) a.request.now a.at in
    let gave = rw c.in_default.is at c.deliver_to.ensures.answer in
    (ap (playing a.u (a.place + 1)) (left (goal.at.returns-in_default-clause-printed c).After-deliver_to), rw (done-text a.u a.place (replicate output_size 0) answer gave) (sym (puts-nothing _)))

pub returns-in-Err-clause-printed : goal.returns-in-Err-clause-printed
unfolding play_entry
returns-in-Err-clause-printed c =
    let a = c.args in
    let answer = deliver (replica_at a.u (arrays_of a.replicas.now) a.number.value) a.request.now a.at in
    let gave = rw c.in-Err.is at c.deliver_to.ensures.answer in
    (ap (playing a.u (a.place + 1)) (left (goal.at.returns-in-Err-clause-printed c).After-deliver_to), rw (← refused-text a.u a.place (replicate output_size 0) answer gave) (rw c.from.ensures at c.put_refusal.ensures))
