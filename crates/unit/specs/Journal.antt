-- A journal that calls of the code play, in whatever way its input is cut: what they print together.
use Rattle.std.specs.Prelude.{ℕ, ◌≤◌, ◌≡◌, true, List, ◌++◌, length, take, drop}
use Rattle.transcript.specs.Journal.{journal}
use Rattle.transcript.specs.Blocks.{is_over, end_size}
use Rattle.playback.specs.Arrays.{Arrays, unit_in}
use Rattle.playback.specs.declared.block.Block.{Block}
use Rattle.playback.specs.declared.stage.Stage.{Stage}
use Rattle.playback.specs.declared.stage.Stage.TheVariants.{First}
use Rattle.playback.proofs.Called.{PlaysBlock, PlaysEnd}

-- from this stage, these arrays and what is left of the input on, calls of the code print this text
pub data Prints : Stage → Arrays → List ℕ → List ℕ → Type 0 where
  -- a call is lent some bytes of what is left, and a text of any length; what it printed are the bytes of the text that it used
  block : {stage : Stage} {before : Arrays} {left text : List ℕ} {b : Block} {after : Arrays} {text' printed : List ℕ} (size : ℕ)
      → PlaysBlock stage before (take size left) text b after text' → Prints b.stage after (drop b.taken left) printed
      → Prints stage before left (take b.used text' ++ printed)
  -- the end, when no whole record is left to be played
  end : {stage : Stage} {a : Arrays} {left text : List ℕ} {n : ℕ} {text' : List ℕ}
      → is_over (unit_in stage a) left ≡ true → end_size ≤ length text → PlaysEnd stage a left text n text'
      → Prints stage a left (take n text')

-- what is claimed: whatever the arrays hold at first, it is what the journal prints of the whole input
abbrev pub JournalOfCode : Type 0
JournalOfCode = (a : Arrays) (input printed : List ℕ) → Prints First a input printed → printed ≡ journal input
