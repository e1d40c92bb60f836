-- What is supposed of a journal of the code can be met: one of a setup alone, played in two calls, the first of which is lent a part of it.
use Prim.Native.Nat.{ℕ, ◌≤◌}
use mathlib.Core.Path.{◌≡◌, refl, sym, ap}
use mathlib.Core.Bool.{true, false}
use mathlib.Core.List.{List, []}
use lib.ListN.{length, take, replicate, length-take, length-replicate}
use native.Mathlib.Omega.{arith}
use denote.MutBor.{MutBor}
use denote.Ref.{Bor}
use Rattle.std.specs.Prelude.{codes}
use Rattle.text.specs.Page.{Page, page, put_text}
use Rattle.text.specs.Text.{decimal_in, decimal, line}
use Rattle.text.proofs.Put.{put-nothing}
use Rattle.question.specs.Question.{given, ask, unit_questions}
use Rattle.question.proofs.Tests.{true-not-false}
use Rattle.layout.specs.Number.{number, digits}
use Rattle.rules.specs.declared.Settings.{Settings}
use Rattle.rules.specs.Replica.{new_state}
use Rattle.entry.specs.Entry.{read_setup}
use Rattle.transcript.specs.Journal.{fresh, playing, journal}
use Rattle.transcript.specs.Blocks.{lines_size, play_block, end_size, play_end}
use Rattle.transcript.proofs.Whole.{setup}
use Rattle.transcript.proofs.Block.{block-short, first_accepted}
use Rattle.playback.specs.Arrays.{Arrays, is_set_up, replica_at, unit_in}
use Rattle.playback.specs.Calls.{AsPlayed}
use Rattle.playback.specs.declared.block.Block.{Block}
use Rattle.playback.specs.declared.stage.Stage.{Stage}
use Rattle.playback.specs.declared.stage.Stage.TheVariants.{First, Playing}
use Rattle.playback.proofs.New.{cleared, new_unit}
use Rattle.playback.proofs.Called.{PlaysBlock, PlaysEnd}
use Rattle.unit.specs.Journal.{Prints, block, end}
use Rattle.unit.proofs.Journal.{written, journal_of_code}

-- ── calls that the contracts admit ──

abbrev shown : {A : Type 0} → A → Bor A
shown x = record { ref_ptr = (0, 0); now = x }

abbrev lent : {A : Type 0} → A → MutBor A
lent x = record { ref_ptr = (0, 0); ghost_name = 0; now = x }

made : {stage : Stage} {before : Arrays} {bytes text : List ℕ} {b : Block} {after : Arrays} {text' : List ℕ}
    → AsPlayed (play_block (length text) (unit_in stage before) bytes) (unit_in b.stage after) b.taken (page text 0) (page text' b.used)
    → (is_set_up b.stage ≡ false → after ≡ before) → PlaysBlock stage before bytes text b after text'
made {before = before} {bytes = bytes} {text = text} plays kept =
    record {
      lifetimes = ([], ([], ([], ([], tt))));
      lent = shown bytes;
      replicas = lent record {
        pending = lent before.pending;
        counts = lent before.counts;
        variables = lent before.variables;
        writes = lent before.writes;
        lasts = lent before.lasts;
      };
      page = lent text;
      learnt = ((refl, refl, refl, refl, refl), (plays, kept));
    }

-- ── the journal ──

abbrev u : Settings
u = record { k = 0; groups = 1; owner = 1; delta = 5 }

size : length setup ≡ 40
unfolding digits
size = refl

-- whatever the arrays hold at first
module _ (before : Arrays) where
  abbrev text : List ℕ
  text = replicate 9000 0

  room : length text ≡ 9000
  room = length-replicate {A = ℕ} 9000 0

  abbrev after : Arrays
  after = cleared before.pending

  -- seven bytes are no record
  part : PlaysBlock First before (take 7 setup) text (record { stage = First; taken = 0; used = 0 }) before text
  part = made (rw (block-short (length text) fresh (take 7 setup) (omega (arith, length-take 7 setup))) (refl, refl, sym (put-nothing (page text 0)))) (λ none. refl)

  read : read_setup (take 40 setup) ≡ given u
  unfolding ask unit_questions number digits read_setup
  read = refl

  all : PlaysBlock First before (take 40 setup) text (record { stage = Playing u 2; taken = 40; used = 0 }) after text
  unfolding digits
  all =
      let free : lines_size ≤ length text = omega (arith, room) in
      made (rw (first_accepted (length text) setup (omega (arith, size)) free read, block-short (length text) (playing u 2 (new_state u)) [] (omega arith))
      (ap (playing u 2) (new_unit u before.pending), refl, sym (put-nothing (page text 0)))) (λ off. true-not-false true refl off)

  abbrev last : Page
  last = put_text (page text 0) (codes "card 1 0 0\n")

  card : (a : Arrays) → a.variables ≡ replicate 1792 0 → a.writes ≡ replicate 7 0 → play_end (unit_in (Playing u 2) a) [] ≡ codes "card 1 0 0\n"
  unfolding play_end replica_at decimal_in decimal line
  card a e f = rw (e, f)

  closes : PlaysEnd (Playing u 2) after [] text last.used last.bytes
  closes =
      record {
        lifetimes = ([], ([], ([], ([], tt))));
        lent = shown [];
        variables = shown after.variables;
        writes = shown after.writes;
        page = lent text;
        learnt = λ a e f. rw (card a e f);
      }

  pub setup-alone : Prints First before setup (codes "card 1 0 0\n")
  unfolding digits
  setup-alone =
      let enough : end_size ≤ length text = omega (arith, room) in
      rw (← written text (codes "card 1 0 0\n") (omega (arith, room)) refl) (block 7 part (block 40 all (end refl enough closes)))

  -- so that is what the journal prints
  pub setup_printed : codes "card 1 0 0\n" ≡ journal setup
  setup_printed = journal_of_code before setup (codes "card 1 0 0\n") setup-alone
