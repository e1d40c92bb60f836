-- A block record by record: what is played so far, and what is left of the block behind it, is the whole call.
use Prim.Native.Nat.{ℕ, ◌+◌, ◌-◌, ◌≤◌}
use mathlib.Core.Path.{◌≡◌, refl, sym, ◌∙◌}
use mathlib.Core.Bool.{true, false, ◌&&◌}
use mathlib.Core.List.{List, ◌++◌}
use native.Mathlib.Omega.{arith}
use lib.Dec.{leb}
use lib.ListN.{length, take, length-append, length-take}
use lib.Seq.{take_at, drop_at}
use Rattle.limits.specs.Limits.{entry_size}
use Rattle.text.specs.Page.{put_text}
use Rattle.text.specs.Writer.{page_of, put}
use Rattle.text.specs.declared.Writer.{Writer}
use Rattle.text.proofs.Put.{puts, puts-nothing, put-length}
use Rattle.transcript.specs.Journal.{Unit, play_record}
use Rattle.transcript.specs.Blocks.{goes_on, Played, play_block}
use Rattle.transcript.proofs.Block.{block_none, block_next}

-- what is free of the text
abbrev pub room : Writer → ℕ
room w = length w.text.now - w.used

-- how much is used when a piece was put
put-used : (w : Writer) (piece : List ℕ) → (put w piece).used ≡ w.used + length (take (room w) piece)
unfolding put put_text
put-used w piece = refl

put-long : (w : Writer) (piece : List ℕ) → length (put w piece).text.now ≡ length w.text.now
unfolding put
put-long w piece = put-length (page_of w) piece

-- no more than there is
pub put-within : (w : Writer) (piece : List ℕ) → w.used ≤ length w.text.now → (put w piece).used ≤ length (put w piece).text.now
put-within w piece within = omega (arith, put-used w piece, put-long w piece, length-take (room w) piece)

-- the whole call, from what is played so far on
abbrev pub Left : Played → Unit → List ℕ → Writer → ℕ → Writer → Type 0
Left all unit block w taken start =
    let rest = play_block (room w) unit block in
    (rest.unit ≡ all.unit) × (taken + rest.taken ≡ all.taken) × (put w rest.text ≡ put start all.text)

module _ (all : Played) (unit : Unit) (block : List ℕ) (w : Writer) (taken : ℕ) (start : Writer) (left : Left all unit block w taken start) where
  -- one record more
  pub left_next : (bytes rest : List ℕ) → block ≡ bytes ++ rest → length bytes ≡ entry_size → w.used ≤ length w.text.now → goes_on (room w) unit ≡ true →
      let one = play_record unit bytes in
      Left all one.unit rest (put w one.text) (taken + entry_size) start
  left_next bytes rest cut long within on =
      let one = play_record unit bytes in
      let more = play_block (room w - length one.text) one.unit rest in
      let step = rw (cut, take_at bytes rest entry_size long, drop_at bytes rest entry_size long) at (block_next (room w) unit block (rw cut (omega (arith, long, length-append bytes rest))) on) in
      let less : room (put w one.text) ≡ room w - length one.text = omega (arith, put-used w one.text, put-long w one.text, length-take (room w) one.text) in
      let l = rw (cut, step) at left in
      rw less (l.0, omega (arith, l.1), puts w one.text more.text ∙ l.2)

  -- none is played any more
  pub left_over : leb entry_size (length block) && goes_on (room w) unit ≡ false
      → (unit ≡ all.unit) × (taken ≡ all.taken) × (w ≡ put start all.text)
  left_over off =
      let l = rw (block_none (room w) unit block off) at left in
      (l.0, omega (arith, l.1), sym (puts-nothing w) ∙ l.2)
