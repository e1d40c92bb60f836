-- The setup makes the replicas new; the rest of the block is played on them.
use Prim.Native.Nat.{◌+◌, ◌≤◌}
use mathlib.Core.Path.{◌≡◌, refl, sym, ap, ◌∙◌}
use mathlib.Core.Bool.{false, ◌&&◌}
use native.Mathlib.Omega.{arith}
use lib.Dec.{leb}
use lib.ListN.{length, take}
use borrow.Author.Rules.{rules}
use Rattle.limits.specs.Limits.{entry_size}
use Rattle.question.specs.Question.{given, refused}
use Rattle.question.specs.Refusals.{number_of, answer_of}
use Rattle.entry.specs.Entry.{read_setup}
use Rattle.transcript.specs.Journal.{fresh}
use Rattle.transcript.specs.Blocks.{lines_size}
use Rattle.text.proofs.Put.{puts-nothing}
use Rattle.transcript.proofs.Fits.{setup-small}
use Rattle.transcript.proofs.Block.{block_none, block-short, taken-within, first_accepted, first_refused}
use Rattle.playback.proofs.Loop.{room}
use Rattle.playback.proofs.New.{new_unit}
use Rattle.std.proofs.lemmas.Bool.Decides.{nat_tests}
use Rattle.playback.proofs.block.play_first.Goals as goal
use Rattle.playback.proofs.block.play_first.Goals.{Else-not-goes_on, In-Ok}

-- there is room for what it prints
free : (c : Else-not-goes_on) → lines_size ≤ room c.args.writer.now
free c = search rules

-- what was read
accepted : (c : In-Ok) → read_setup (take entry_size c.args.block.now) ≡ given c.in-Ok.u
accepted c = rw (← c.in-Some.ensures.cases.1) (sym c.read_setup.ensures ∙ ap answer_of c.in-Ok.is)

pub returns-in_default-clause-played : goal.returns-in_default-clause-played
returns-in_default-clause-played c =
    let a = c.args in
    rw (block-short (room a.writer.now) fresh a.block.now (search rules)) (refl, refl, sym (puts-nothing _))

pub returns-then-not-goes_on-clause-played : goal.returns-then-not-goes_on-clause-played
returns-then-not-goes_on-clause-played c =
    let a = c.args in
    let off : leb entry_size (length a.block.now) && leb lines_size (room a.writer.now) ≡ false = grind (arith, nat_tests) in
    rw (block_none (room a.writer.now) fresh a.block.now off) (refl, refl, sym (puts-nothing _))

pub play_rest-stage-requires-clause-small_k : goal.play_rest-stage-requires-clause-small_k
play_rest-stage-requires-clause-small_k c =
    setup-small (take entry_size c.args.block.now) (accepted (goal.at.play_rest-stage-requires-clause-small_k c).In-Ok)

pub overflow_add-result : goal.overflow_add-result
overflow_add-result c =
    let within : c.play_rest-stage.result.1 ≤ length c.in-Some.rest.now = rw c.play_rest-stage.ensures.played.1 (taken-within _ _ c.in-Some.rest.now) in
    let all : 40 + c.play_rest-stage.result.1 ≤ length c.args.block.now = omega (arith, within, c.in-Some.ensures.cases.4) in
    search (rules, all)

pub returns-in-Ok-clause-played : goal.returns-in-Ok-clause-played
returns-in-Ok-clause-played c =
    let a = c.args in
    let at = goal.at.returns-in-Ok-clause-played c in
    let split = c.in-Some.ensures.cases in
    let said = c.play_rest-stage.ensures.played in
    rw (first_accepted (room a.writer.now) a.block.now split.0 (free at.Else-not-goes_on) (accepted at.In-Ok), ← split.2, ← new_unit c.in-Ok.u a.replicas.now.pending.now)
    (said.0, ap (λ n. entry_size + n) said.1, said.2)

pub returns-in-Err-clause-played : goal.returns-in-Err-clause-played
returns-in-Err-clause-played c =
    let a = c.args in
    let at = goal.at.returns-in-Err-clause-played c in
    let split = c.in-Some.ensures.cases in
    let no : read_setup (take entry_size a.block.now) ≡ refused (number_of c.in-Err.refusal) = rw (← split.1) (sym c.read_setup.ensures ∙ ap answer_of c.in-Err.is) in
    rw (first_refused (room a.writer.now) a.block.now split.0 (free at.Else-not-goes_on) no) (refl, refl, rw c.from.ensures at c.put_refusal.ensures)
