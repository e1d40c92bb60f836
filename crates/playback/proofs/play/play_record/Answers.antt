-- The record that was read names a replica of the unit.
use mathlib.Core.Path.{◌≡◌, refl, sym, ap, ◌∙◌}
use native.Mathlib.Omega.{arith}
use lib.ListN.{take, drop}
use Rattle.question.specs.Question.{given, refused}
use Rattle.question.specs.Refusals.{number_of}
use Rattle.entry.specs.Entry.{delivery, turn, read_entry, entry_answer}
use Rattle.transcript.specs.Journal.{play_record}
use Rattle.playback.proofs.Record.{entry_there}
use Rattle.playback.proofs.play.play_record.Goals as goal
use Rattle.playback.proofs.play.play_record.Goals.{In-Ok-Delivery, In-Ok-Turn}

-- what was read
delivered : (c : In-Ok-Delivery) →
    let e = c.in-Ok-Delivery in
    read_entry c.args.u.k c.args.bytes.now ≡ given (delivery e.value e.at (take 24 (drop 16 c.args.bytes.now)))
delivered c =
    rw c.in-Ok-Delivery.field-0-is at (sym c.read_entry.ensures ∙ ap (entry_answer c.args.bytes.now) c.in-Ok-Delivery.is)

turned : (c : In-Ok-Turn) → let e = c.in-Ok-Turn in read_entry c.args.u.k c.args.bytes.now ≡ given (turn e.value e.at)
turned c =
    rw c.in-Ok-Turn.field-0-is at (sym c.read_entry.ensures ∙ ap (entry_answer c.args.bytes.now) c.in-Ok-Turn.is)

pub invariant_of-number : goal.invariant_of-number
invariant_of-number c =
    let there = entry_there c.args.u.k c.args.bytes.now (delivered (goal.at.invariant_of-number c).In-Ok-Delivery) in
    record { at_least_1 = there.0; at_most_7 = omega (arith, there.1) }

pub invariant_of-number-in-Ok-Turn : goal.invariant_of-number-in-Ok-Turn
invariant_of-number-in-Ok-Turn c =
    let there = entry_there c.args.u.k c.args.bytes.now (turned (goal.at.invariant_of-number-in-Ok-Turn c).In-Ok-Turn) in
    record { at_least_1 = there.0; at_most_7 = omega (arith, there.1) }

pub returns-in-Ok-Delivery-clause-printed : goal.returns-in-Ok-Delivery-clause-printed
unfolding play_record
returns-in-Ok-Delivery-clause-printed c =
    rw (delivered (goal.at.returns-in-Ok-Delivery-clause-printed c).In-Ok-Delivery) (rw c.requires.whole_record at c.play_delivery.ensures.printed)

pub returns-in-Ok-Turn-clause-printed : goal.returns-in-Ok-Turn-clause-printed
unfolding play_record
returns-in-Ok-Turn-clause-printed c =
    rw (turned (goal.at.returns-in-Ok-Turn-clause-printed c).In-Ok-Turn) c.play_turn.ensures.printed

pub returns-in-Err-clause-printed : goal.returns-in-Err-clause-printed
unfolding play_record
returns-in-Err-clause-printed c =
    let a = c.args in
    let refusal : read_entry a.u.k a.bytes.now ≡ refused (number_of c.in-Err.refusal) = sym c.read_entry.ensures ∙ ap (entry_answer a.bytes.now) c.in-Err.is in
    rw refusal (refl, rw c.from.ensures at c.put_refusal.ensures)
