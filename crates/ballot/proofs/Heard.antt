-- The ballot of a list: of each replica it holds the first reply that counts, and whether a halt that counts came.
use Prim.Native.Nat.{ℕ, ◌+◌, ◌≤◌, ◌<◌}
use mathlib.Core.Path.{◌≡◌, refl, sym, ◌∙◌, ap}
use mathlib.Core.Bool.{Bool, true, false, cond, not, ◌&&◌, ◌||◌, and-false, or-false, or_assoc}
use mathlib.Core.List.{List, [], ◌∷◌}
use native.Mathlib.Nat.{le_antisymm}
use native.Mathlib.Numerals.{add-one}
use native.Mathlib.Omega.{arith}
use lib.Dec.{eqb, leb}
use lib.ListN.{length, get_or, drop, length-set}
use lib.Seq.{get_or-set_same, get_or-set_other, drop-cons, drop-length}
use borrow.Author.Tests.{eqb-true, eqb-false, ne_eqb, not-true}
use Rattle.limits.specs.Limits.{max_list}
use Rattle.question.proofs.Tests.{case, true-not-false, both, within-true, in_within}
use Rattle.record.specs.Kind.{reply, halt}
use Rattle.record.specs.declared.message.Message.{Message}
use Rattle.rules.specs.Vote.{counts_for, counts_as_halt, heard, says}
use Rattle.rules.specs.declared.Query.{Query}
use Rattle.rules.specs.Sets.{has, with}
use Rattle.ballot.specs.Sets.{last_replica, is_replica, lacks}
use Rattle.ballot.specs.Ballot.{new_ballot, note_reply, note_halt, is_first_reply, is_first_halt, hear, hear_all, ballot_of, value_of, gave}
use Rattle.ballot.specs.declared.ballot.Ballot.{Ballot}
use Rattle.laws.proofs.Sets.{has_none, has_with}

-- there is a value for each replica
abbrev Sized : Ballot → Type 0
Sized b = last_replica < length b.values

-- whether the value of a replica is the given one, where a reply was heard; the other answer where none was
abbrev noted : Ballot → ℕ → ℕ → Bool → Bool
noted b value replica other = cond (has b.heard.0 replica) (eqb (value_of b replica) value) other

-- what it is to lack a number: it is a replica's, and the set has it not
pub lacks_parts : (set replica : ℕ) → lacks set replica ≡ true → (is_replica replica ≡ true) × (has set replica ≡ false)
lacks_parts set replica e =
    let a = both (is_replica replica) (not (has set replica)) e in
    (a.0, not-true (has set replica) a.1)

module _ (k n : ℕ) (q : Query) where
  abbrev replying : Message → Bool
  replying = counts_for k n q

  abbrev halting : Message → Bool
  halting = counts_as_halt k n q.group q.process

  -- a reply that counts is no halt that counts
  reply_no_halt : (m : Message) → replying m ≡ true → halting m ≡ false
  unfolding counts_for counts_as_halt
  reply_no_halt m e = case (eqb m.kind reply)
      (λ f. rw (ne_eqb m.kind halt (λ g. omega (arith, eqb-true m.kind reply f)), and-false))
      (λ f. true-not-false (replying m) e (rw (f, and-false)))

  -- ── one message ──

  -- what a message leaves: a reply noted, a halt noted, or the ballot
  heard_cases : (b : Ballot) (m : Message) (P : Ballot → Type 0)
      → (is_first_reply k n q b m ≡ true → P (note_reply b m.replica m.value))
      → (is_first_reply k n q b m ≡ false → is_first_halt k n q b m ≡ true → P (note_halt b m.replica))
      → (is_first_reply k n q b m ≡ false → is_first_halt k n q b m ≡ false → P b)
      → P (hear k n q b m)
  unfolding hear
  heard_cases b m P f g h = case (is_first_reply k n q b m)
      (λ e. rw e (f e))
      (λ e. case (is_first_halt k n q b m) (λ d. rw (e, d) (g e d)) (λ d. rw (e, d) (h e d)))

  heard_sized : (b : Ballot) → Sized b → (m : Message) → Sized (hear k n q b m)
  heard_sized b sized m =
      heard_cases b m Sized (λ e. rw (length-set b.values m.replica m.value) sized) (λ e d. sized) (λ e d. sized)

  heard-short : (b : Ballot) (m : Message) → (hear k n q b m).short ≡ b.short
  heard-short b m = heard_cases b m (λ c. c.short ≡ b.short) (λ e. refl) (λ e d. refl) (λ e d. refl)

  module _ (i : ℕ) (low : 1 ≤ i) (high : i ≤ last_replica) (b : Ballot) (m : Message) where
    -- what is not noted is of another replica, or came before
    not_noted : (set : ℕ) (counts : Bool) → (counts && lacks set m.replica) ≡ false → has set i ≡ false → (counts && eqb m.replica i) ≡ false
    not_noted set counts e h = case (counts && eqb m.replica i)
        (λ d.
        let a = both counts (eqb m.replica i) d in
        true-not-false (counts && lacks set m.replica) (rw (a.0, eqb-true m.replica i a.1, in_within 1 last_replica i low high, h)) e)
        (λ d. d)

    later-reply : is_first_reply k n q b m ≡ false → (v : ℕ) (other : Bool)
        → noted b v i other ≡ noted b v i (cond (replying m && eqb m.replica i) (eqb m.value v) other)
    later-reply e v other = case (has b.heard.0 i) (λ h. rw h) (λ h. rw (h, not_noted b.heard.0 (replying m) e h))

    first_reply : Sized b → is_first_reply k n q b m ≡ true → (v : ℕ) (other : Bool)
        → noted (note_reply b m.replica m.value) v i other ≡ noted b v i (cond (replying m && eqb m.replica i) (eqb m.value v) other)
    first_reply sized e v other =
        let a = both (replying m) (lacks b.heard.0 m.replica) e in
        let free = lacks_parts b.heard.0 m.replica a.1 in
        let range = within-true 1 last_replica m.replica free.0 in
        rw (a.0, has_with b.heard.0 m.replica i range.0) (case (eqb m.replica i)
        (λ f.
        let g = eqb-true m.replica i f in
        rw (f, ← g, free.1, get_or-set_same b.values m.replica m.value 0 (omega (arith, range.1))))
        (λ f. rw (f, or-false, get_or-set_other b.values m.replica i m.value 0 (λ g. eqb-false m.replica i f (sym g)))))

    heard-noted : Sized b → (v : ℕ) (other : Bool)
        → noted (hear k n q b m) v i other ≡ noted b v i (cond (replying m && eqb m.replica i) (eqb m.value v) other)
    heard-noted sized v other =
        heard_cases b m (λ c. noted c v i other ≡ noted b v i (cond (replying m && eqb m.replica i) (eqb m.value v) other))
        (λ e. first_reply sized e v other) (λ e d. later-reply e v other) (λ e d. later-reply e v other)

    -- a set that takes each replica of which a message counts has that replica
    noted-has : (set : ℕ) (counts : Bool) → has (cond (counts && lacks set m.replica) (with set m.replica) set) i ≡ has set i || (counts && eqb m.replica i)
    noted-has set counts = case (counts && lacks set m.replica)
        (λ e.
        let a = both counts (lacks set m.replica) e in
        rw (a.0, a.1) (has_with set m.replica i (within-true 1 last_replica m.replica (lacks_parts set m.replica a.1).0).0))
        (λ e. rw e (case (has set i) (λ h. rw h) (λ h. rw (h, not_noted set counts e h))))

    -- who replied, and who sent a halt
    heard-replied : has (hear k n q b m).heard.0 i ≡ has b.heard.0 i || (replying m && eqb m.replica i)
    heard-replied = ap (λ (set : ℕ). has set i) taken ∙ noted-has b.heard.0 (replying m)
      where
        taken : (hear k n q b m).heard.0 ≡ cond (is_first_reply k n q b m) (with b.heard.0 m.replica) b.heard.0
        taken = heard_cases b m (λ c. c.heard.0 ≡ cond (is_first_reply k n q b m) (with b.heard.0 m.replica) b.heard.0) (λ e. rw e) (λ e d. rw e) (λ e d. rw e)

    heard-halted : has (hear k n q b m).halted.0 i ≡ has b.halted.0 i || (halting m && eqb m.replica i)
    heard-halted = ap (λ (set : ℕ). has set i) taken ∙ noted-has b.halted.0 (halting m)
      where
        taken : (hear k n q b m).halted.0 ≡ cond (is_first_halt k n q b m) (with b.halted.0 m.replica) b.halted.0
        taken = heard_cases b m (λ c. c.halted.0 ≡ cond (is_first_halt k n q b m) (with b.halted.0 m.replica) b.halted.0)
            (λ e. rw (reply_no_halt m (both (replying m) (lacks b.heard.0 m.replica) e).0)) (λ e d. rw d) (λ e d. rw d)

  -- ── message after message ──

  all_short : (b : Ballot) (list : List Message) → (hear_all k n q b list).short ≡ b.short
  unfolding hear_all
  all_short b [] = refl
  all_short b (m ∷ list) = all_short (hear k n q b m) list ∙ heard-short b m

  module _ (i : ℕ) (low : 1 ≤ i) (high : i ≤ last_replica) where
    all_noted : (b : Ballot) → Sized b → (list : List Message) (v : ℕ) → noted (hear_all k n q b list) v i false ≡ noted b v i (says replying i v list)
    unfolding hear_all
    all_noted b sized [] v = refl
    all_noted b sized (m ∷ list) v =
        all_noted (hear k n q b m) (heard_sized b sized m) list v ∙ heard-noted i low high b m sized v (says replying i v list)

    -- a set that takes, at each message, the replica of one that counts: in the end it has all those of which one counts
    all_has : (set : Ballot → ℕ) (counts : Message → Bool)
        → ((b : Ballot) (m : Message) → has (set (hear k n q b m)) i ≡ has (set b) i || (counts m && eqb m.replica i))
        → (b : Ballot) (list : List Message) → has (set (hear_all k n q b list)) i ≡ has (set b) i || heard counts list i
    unfolding hear_all
    all_has set counts takes b [] = sym (or-false (has (set b) i))
    all_has set counts takes b (m ∷ list) = all_has set counts takes (hear k n q b m) list ∙ rw (takes b m, or_assoc)

  -- ── the tally ──

  -- a message heard, and then those past it, is all from that message on
  pub hear_on : (b : Ballot) (list : List Message) (i : ℕ) (other : Message) → i < length list
      → hear_all k n q (hear k n q b (get_or list i other)) (drop (i + 1) list) ≡ hear_all k n q b (drop i list)
  unfolding hear_all
  hear_on b list i other h = rw (add-one, drop-cons list i other)

  -- past the last message there is none to hear
  pub hear_end : (b : Ballot) (list : List Message) (i : ℕ) → i ≤ length list → length list ≤ i → b ≡ hear_all k n q b (drop i list)
  unfolding hear_all
  hear_end b list i lo hi = rw (le_antisymm lo hi, drop-length)

  -- ── the ballot of a list ──

  module _ (list : List Message) where
    abbrev fresh : Ballot
    fresh = new_ballot (length list)

    -- the ballot tells whether the list is too long
    pub ballot-short : (ballot_of k n q list).short ≡ leb (length list) max_list
    unfolding new_ballot
    ballot-short = all_short fresh list

    module _ (i : ℕ) (low : 1 ≤ i) (high : i ≤ last_replica) where
      -- a replica gave a value that it says in its first reply that counts
      pub ballot-gave : (v : ℕ) → gave (ballot_of k n q list) v i ≡ says replying i v list
      unfolding new_ballot
      ballot-gave v = gave_noted (ballot_of k n q list) ∙ all_noted i low high fresh (omega arith) list v ∙ new_noted
        where
          gave_noted : (b : Ballot) → gave b v i ≡ noted b v i false
          gave_noted b = case (has b.heard.0 i) (λ e. rw e) (λ e. rw e)

          new_noted : noted fresh v i (says replying i v list) ≡ says replying i v list
          new_noted = rw (has_none i)

      -- a replica is heard of which a reply that counts came, and has halted of which a halt that counts came
      pub ballot-heard : has (ballot_of k n q list).heard.0 i ≡ heard replying list i
      unfolding new_ballot
      ballot-heard = all_has i low high (λ b. b.heard.0) replying (heard-replied i low high) fresh list ∙ rw (has_none i)

      pub ballot-halted : has (ballot_of k n q list).halted.0 i ≡ heard halting list i
      unfolding new_ballot
      ballot-halted = all_has i low high (λ b. b.halted.0) halting (heard-halted i low high) fresh list ∙ rw (has_none i)
