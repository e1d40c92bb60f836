-- The end of a journal: the lines of the replicas, one by one, and what is printed before them.
use Prim.Native.Nat.{ℕ, suc, ◌+◌, ◌*◌, ◌<◌}
use mathlib.Core.Path.{◌≡◌, refl, sym}
use mathlib.Core.Bool.{cond}
use mathlib.Core.List.{List, [], ◌∷◌, ◌++◌, map, map-append, append-nil}
use native.Mathlib.Nat.{add-zero}
use native.Mathlib.Numerals.{add-one}
use native.Mathlib.Omega.{arith}
use lib.Dec.{eqb}
use lib.ListN.{length, get_or}
use borrow.Author.Tests.{ne_eqb}
use Rattle.text.specs.Text.{joined, line}
use Rattle.text.specs.Writer.{put}
use Rattle.text.specs.declared.Writer.{Writer}
use Rattle.text.proofs.Lines.{joined-append}
use Rattle.text.proofs.Put.{puts}
use Rattle.rules.specs.Lists.{up_to}
use Rattle.rules.specs.declared.Settings.{Settings}
use Rattle.rules.specs.Replica.{State}
use Rattle.lines.specs.Lines.{card_word, refusal_line, card_line}
use Rattle.transcript.specs.Journal.{fresh, playing}
use Rattle.transcript.specs.Blocks.{play_end}
use Rattle.playback.specs.Arrays.{Arrays, replica_at}
use Rattle.playback.proofs.Arrays.{part_at_lem, replica_is}

-- ── the lines of the replicas ──

module _ (u : Settings) (a : Arrays) where
  -- of the first n
  abbrev pub cards : ℕ → List ℕ
  cards n = joined (map card_line (map (replica_at u a) (up_to n)))

  card_is : (i : ℕ) → i < 7 → card_line (replica_at u a (suc i)) ≡ line card_word (suc i ∷ get_or a.variables (256 * i) 0 ∷ get_or a.writes i 0 ∷ [])
  card_is i here = rw (replica_is u a i here, part_at_lem 256 i a.variables 0 0 (omega arith), add-zero (256 * i))

  pub cards_next : (w : Writer) (i : ℕ) → i < 7
      → put (put w (cards i)) (line card_word ((i + 1) ∷ get_or a.variables (256 * i) 0 ∷ get_or a.writes i 0 ∷ [])) ≡ put w (cards (i + 1))
  cards_next w i here =
      let front = map (replica_at u a) (up_to i) in
      let one = replica_at u a (suc i) in
      let all : cards (suc i) ≡ cards i ++ card_line one =
      rw (map-append (replica_at u a) (up_to i) (suc i ∷ []), map-append card_line front (one ∷ []), joined-append (map card_line front) (card_line one ∷ []), append-nil (card_line one)) in
      rw (add-one i, all, ← card_is i here) (puts w (cards i) (card_line one))

-- ── the end ──

-- what is printed of bytes that are left
abbrev part : ℕ → List ℕ → List ℕ
part place rest = cond (eqb (length rest) 0) [] (refusal_line place 18)

pub end_fresh : (rest : List ℕ) → part 1 rest ≡ play_end fresh rest
unfolding play_end
end_fresh [] = refl
end_fresh (b ∷ rest) = rw (ne_eqb (length (b ∷ rest)) 0 (omega arith)) (sym (append-nil (refusal_line 1 18)))

pub end_playing : (u : Settings) (place : ℕ) (replicas : ℕ → State) (rest : List ℕ)
    → part place rest ++ joined (map card_line (map replicas (up_to (2 * u.k + 1)))) ≡ play_end (playing u place replicas) rest
unfolding play_end
end_playing u place replicas [] = refl
end_playing u place replicas (b ∷ rest) = rw (ne_eqb (length (b ∷ rest)) 0 (omega arith))
