-- Unanimity, request by request: each is a write like the first, and its sender has not been seen.
use Prim.Native.Nat.{ℕ, ◌+◌, ◌<◌}
use mathlib.Core.Path.{◌≡◌, refl, sym}
use mathlib.Core.Bool.{Bool, true, false, not, ◌&&◌, and_assoc, and_comm, and-true, and-false}
use mathlib.Core.List.{List, [], ◌∷◌}
use native.Mathlib.Omega.{arith}
use lib.Dec.{eqb, ltb}
use lib.ListN.{length, get_or, set, replicate, get_or-replicate, length-replicate, get_or-eq_default}
use lib.Seq.{get_or-set_same, get_or-set_other}
use borrow.Author.Tests.{eqb-true, eqb-false, eq-eqb, ltb-true, ltb-false}
use Rattle.record.specs.declared.request.Request.{Request}
use Rattle.rules.specs.Lists.{every, some}
use Rattle.record.specs.Kind.{is_write, same_write}
use Rattle.rules.specs.Batch.{all_same, all_senders_differ, unanimous, first_of}
use Rattle.question.proofs.Tests.{case}

-- ── unanimity ──

module _ (first : Request) where
  -- a write like the first, from a sender not seen
  abbrev agrees : List Bool → Request → Bool
  agrees seen q = (is_write q && same_write first q) && not (get_or seen q.process false)

  -- every one of them is, and their senders differ
  abbrev pub agree : List Bool → List Request → Bool
  agree seen batch = every (agrees seen) batch && all_senders_differ batch

  -- to have seen one sender more says that none of the rest is it
  seen_more : (seen : List Bool) (s : ℕ) (batch : List Request) → s < length seen
      → every (agrees (set seen s true)) batch ≡ every (agrees seen) batch && not (some (λ q. eqb s q.process) batch)
  seen_more seen s [] h = refl
  seen_more seen s (q ∷ batch) h =
      let rest = every (agrees seen) batch in
      let there = some (λ r. eqb s r.process) batch in
      case (eqb s q.process)
      (λ e.
      let same : get_or (set seen s true) q.process false ≡ true = rw (← eqb-true s q.process e) (get_or-set_same seen s true false h) in
      rw (e, same, and-false (is_write q && same_write first q), and-false (agrees seen q && rest)))
      (λ e.
      let other = get_or-set_other seen s q.process true false (λ i. eqb-false s q.process e (sym i)) in
      rw (e, other, seen_more seen s batch h) (sym (and_assoc (agrees seen q) rest (not there))))

  -- one more request of the batch: from now on its sender is seen
  pub agree-step : (seen : List Bool) (same : Bool) (q : Request) (batch : List Request) → q.process < length seen
      → (same && ((is_write q && same_write first q) && not (get_or seen q.process false))) && agree (set seen q.process true) batch
      ≡ same && agree seen (q ∷ batch)
  agree-step seen same q batch room =
      let d = all_senders_differ batch in
      let f = not (some (λ r. eqb q.process r.process) batch) in
      rw (seen_more seen q.process batch room) (shuffle same (agrees seen q) (every (agrees seen) batch) f d)
    where
      shuffle : (a b c d e : Bool) → (a && b) && ((c && d) && e) ≡ a && ((b && c) && (d && e))
      shuffle a b c d e = simp and_assoc

-- with no sender seen, any is a new one
unseen : (q : Request) → get_or (replicate 256 false) q.process false ≡ false
unseen q =
    case (ltb q.process 256)
    (λ e. get_or-replicate 256 q.process false false (ltb-true q.process 256 e))
    (λ e. get_or-eq_default (replicate 256 false) false {n = q.process} (omega (arith, length-replicate 256 false, ltb-false q.process 256 e)))

agree_all : (first : Request) (batch : List Request)
    → every (agrees first (replicate 256 false)) batch ≡ every is_write batch && every (same_write first) batch
agree_all first [] = refl
agree_all first (q ∷ batch) =
    rw (unseen q, agree_all first batch) (shuffle (is_write q) (same_write first q) (every is_write batch) (every (same_write first) batch))
  where
    shuffle : (a b c d : Bool) → ((a && b) && true) && (c && d) ≡ (a && c) && (b && d)
    shuffle true b c d = rw (and-true b, ← and_assoc b c d, and_comm b c, and_assoc c b d)
    shuffle false b c d = refl

all_same_lem : (batch : List Request) → every (same_write (first_of batch)) batch ≡ all_same batch
all_same_lem [] = refl
all_same_lem (q ∷ batch) = rw (eq-eqb q.variable q.variable refl, eq-eqb q.value q.value refl)

-- with no sender seen, and as many as there must be, that is unanimity
pub agree-unanimous : (k : ℕ) (batch : List Request) {same enough : Bool}
    → same ≡ agree (first_of batch) (replicate 256 false) batch
    → enough ≡ eqb (length batch) (k + 1)
    → same && enough ≡ unanimous k batch
agree-unanimous k batch s e =
    rw (s, e, agree_all (first_of batch) batch, all_same_lem batch)
    (shuffle (every is_write batch) (all_same batch) (all_senders_differ batch) (eqb (length batch) (k + 1)))
  where
    shuffle : (w s d e : Bool) → ((w && s) && d) && e ≡ ((e && w) && d) && s
    shuffle w s d e = rw (and_comm ((w && s) && d) e) (simp and_assoc (rw (and_comm s d)))
