-- Calls of play_block and play_end, as their own contracts describe them.
use Prim.Native.Nat.{ℕ}
use mathlib.Core.Path.{◌≡◌, refl}
use mathlib.Core.Bool.{false}
use mathlib.Core.List.{List}
use contract.Lifetimes.{Lfts}
use denote.MutBor.{MutBor}
use denote.Ref.{Bor}
use lib.ListN.{length}
use Rattle.text.specs.Page.{page, put_text}
use Rattle.transcript.specs.Blocks.{play_block, play_end}
use Rattle.playback.specs.Arrays.{Arrays, is_set_up, unit_in}
use Rattle.playback.specs.Calls.{AsPlayed}
use Rattle.playback.specs.declared.block.Block.{Block}
use Rattle.playback.specs.declared.stage.Stage.{Stage}
use Rattle.playback.specs.declared.unit.Replicas.{Replicas}
use Rattle.playback.proofs.block.play_block.Reads as block-contract
use Rattle.playback.proofs.end.play_end.Reads as end-contract

-- a reference, with what it refers to at a moment
abbrev pub holding : {A : Type 0} → MutBor A → A → MutBor A
holding r x = record { ref_ptr = r.ref_ptr; ghost_name = r.ghost_name; now = x }

-- the same of a shared one
abbrev pub showing : {A : Type 0} → Bor A → A → Bor A
showing r x = record { ref_ptr = r.ref_ptr; now = x }

-- and of the arrays that replicas are lent
abbrev pub standing : Replicas → Arrays → Replicas
standing r a = record {
  pending = holding r.pending a.pending;
  counts = holding r.counts a.counts;
  variables = holding r.variables a.variables;
  writes = holding r.writes a.writes;
  lasts = holding r.lasts a.lasts;
}

-- the arrays held `before` and the text `text`; afterwards they hold `after` and `text'`
pub record PlaysBlock (stage : Stage) (before : Arrays) (block text : List ℕ) (b : Block) (after : Arrays) (text' : List ℕ) : Type 0 where
  pub lifetimes : Lfts 4
  pub lent : Bor (List ℕ)
  pub replicas : MutBor Replicas
  pub page : MutBor (List ℕ)
  pub learnt :
      block-contract.Learnt lifetimes
      (stage, (showing lent block, (holding replicas (standing replicas.now before), (holding page text, tt)))) b
      (stage, (showing lent block, (holding replicas (standing replicas.now after), (holding page text', tt))))

pub plays_mean : {stage : Stage} {before : Arrays} {block text : List ℕ} {b : Block} {after : Arrays} {text' : List ℕ}
    → PlaysBlock stage before block text b after text'
    → AsPlayed (play_block (length text) (unit_in stage before) block) (unit_in b.stage after) b.taken (page text 0) (page text' b.used)
    × (is_set_up b.stage ≡ false → after ≡ before)
plays_mean c = c.learnt.1

-- the text held `text`, and holds `text'` afterwards
pub record PlaysEnd (stage : Stage) (a : Arrays) (rest text : List ℕ) (n : ℕ) (text' : List ℕ) : Type 0 where
  pub lifetimes : Lfts 4
  pub lent : Bor (List ℕ)
  pub variables : Bor (List ℕ)
  pub writes : Bor (List ℕ)
  pub page : MutBor (List ℕ)
  pub learnt :
      end-contract.Learnt lifetimes
      (stage, (showing lent rest, (showing variables a.variables, (showing writes a.writes, (holding page text, tt))))) n
      (stage, (showing lent rest, (showing variables a.variables, (showing writes a.writes, (holding page text', tt)))))

pub end_means : {stage : Stage} {a : Arrays} {rest text : List ℕ} {n : ℕ} {text' : List ℕ}
    → PlaysEnd stage a rest text n text' → page text' n ≡ put_text (page text 0) (play_end (unit_in stage a) rest)
end_means {a = a} c = c.learnt a refl refl
