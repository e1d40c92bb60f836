-- A journal of the code, however its input is cut: what the calls print together is what it prints of the whole. Assumes nothing.
use Prim.Native.Nat.{ℕ, ◌≤◌}
use mathlib.Core.Path.{◌≡◌, sym, ap, ◌∙◌}
use mathlib.Core.List.{List, ◌++◌}
use lib.Dec.{leb}
use lib.ListN.{length, take, drop}
use lib.Seq.{take-append_seam}
use native.Mathlib.Nat.{zero-add}
use native.Mathlib.Omega.{arith}
use borrow.Author.Tests.{leb-true}
use Rattle.limits.specs.Limits.{max_k}
use Rattle.text.specs.Page.{Page, page, put_text}
use Rattle.text.proofs.Put.{put-room}
use Rattle.question.proofs.Tests.{case}
use Rattle.transcript.specs.Journal.{play_all, journal}
use Rattle.transcript.specs.Blocks.{play_block, play_end}
use Rattle.transcript.proofs.Fits.{k_in, block-fits, end_fits}
use Rattle.transcript.proofs.Cuts.{records_of, call-plays, end_plays}
use Rattle.playback.specs.Arrays.{Arrays, unit_in}
use Rattle.playback.specs.declared.stage.Stage.{Stage}
use Rattle.playback.specs.declared.stage.Stage.TheVariants.{First, Playing, Stopped}
use Rattle.playback.proofs.Called.{plays_mean, end_means}
use Rattle.unit.specs.Journal.{Prints, block, end, JournalOfCode}

-- a piece that fits stands at the start of the text, and is all that is used of it
pub written : (text piece : List ℕ) {text' : List ℕ} {used : ℕ} → length piece ≤ length text → page text' used ≡ put_text (page text 0) piece
    → take used text' ≡ piece
written text piece {text'} {used} fits put =
    let is = rw (zero-add (length piece)) at (put ∙ put-room (page text 0) piece (omega arith)) in
    let all : text' ≡ piece ++ drop (length piece) text = ap (λ (p : Page). p.bytes) is in
    let count : used ≡ length piece = ap (λ (p : Page). p.used) is in
    rw (all, count) (take-append_seam piece (drop (length piece) text))

-- the k of a unit that arrays stand for is at most 3
small : (stage : Stage) (a : Arrays) → k_in (unit_in stage a) ≤ max_k
small First a = omega arith
small (Playing u place) a = case (leb u.k max_k) (λ e. rw e (leb-true u.k max_k e)) (λ e. rw e (omega arith))
small Stopped a = omega arith

-- from any stage on
plays : {stage : Stage} {a : Arrays} {left printed : List ℕ} → Prints stage a left printed → printed ≡ play_all (unit_in stage a) (records_of left)
plays (block {stage = stage} {before = before} {left = left} {text = text} {b = b} {after = after} {printed = printed} size call more) =
    let unit = unit_in stage before in
    let done = play_block (length text) unit (take size left) in
    let said = (plays_mean call).0 in
    let first = written text done.text (block-fits (length text) unit (take size left)) said.2 in
    let others : printed ≡ play_all (unit_in b.stage after) (records_of (drop b.taken left)) = plays more in
    rw (first, others, said.0, said.1) (call-plays size (length text) unit left)
plays (end {stage = stage} {a = a} {left = left} {text = text} over room call) =
    let unit = unit_in stage a in
    written text (play_end unit left) (omega (arith, end_fits unit left (small stage a))) (end_means call) ∙ sym (end_plays unit left over)

pub journal_of_code : JournalOfCode
unfolding journal
journal_of_code a input printed prints = plays prints
