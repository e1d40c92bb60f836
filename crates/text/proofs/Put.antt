-- Texts put into a lent text: one after the other they are both together, and where there is room a text stands there whole. Assumes nothing.
use Prim.Native.Nat.{ℕ, zero, suc, ◌+◌, ◌-◌, min, ◌≤◌}
use mathlib.Core.Path.{◌≡◌, refl, sym, ap, ◌∙◌}
use mathlib.Core.Bool.{Bool, true, false}
use mathlib.Core.List.{List, [], ◌∷◌, ◌++◌, append_assoc}
use lib.Dec.{leb}
use lib.ListN.{length, take, drop, length-append, length-take, length-drop, take-append-drop}
use Rattle.std.proofs.lemmas.List.{take_min}
use lib.Seq.{length-take-le, take_all, take-nil, take_at, drop_at, drop-drop}
use native.Mathlib.Nat.{add-zero, sub-zero}
use native.Mathlib.Omega.{arith}
use borrow.Author.Tests.{leb-true, leb-false}
use borrow.Rule.Slice.PartMut.{put_mid}
use Rattle.text.specs.Page.{Page, page, with_text, put_text}
use Rattle.text.specs.declared.Writer.{Writer}
use Rattle.text.specs.Writer.{page_of, with_page, put}

-- ── a text that fits ──

with_nothing : (p : Page) → with_text p [] ≡ p
with_nothing p = rw (add-zero p.used, take-append-drop p.used p.bytes)

module _ (p : Page) (first : List ℕ) (fits : p.used + length first ≤ length p.bytes) where
  abbrev start : List ℕ
  start = take p.used p.bytes ++ first

  abbrev end : ℕ
  end = p.used + length first

  length-start : length start ≡ end
  length-start = rw (length-append, length-take-le p.used p.bytes (omega arith))

  split : (with_text p first).bytes ≡ start ++ drop end p.bytes
  split = sym (append_assoc (take p.used p.bytes) first (drop end p.bytes))

  length_with : length (with_text p first).bytes ≡ length p.bytes
  length_with =
      ap length split ∙ (length-append start (drop end p.bytes) ∙ omega (arith, length-start, length-drop end p.bytes))

  take_with : take end (with_text p first).bytes ≡ start
  take_with = rw split (take_at start _ end length-start)

  drop_with : (more : ℕ) → drop (end + more) (with_text p first).bytes ≡ drop (end + more) p.bytes
  drop_with more =
      rw (← drop-drop more end (with_text p first).bytes, ← drop-drop more end p.bytes, split, drop_at start (drop end p.bytes) end length-start)

  -- a second one behind it: both together
  with_twice : (second : List ℕ) → with_text (with_text p first) second ≡ with_text p (first ++ second)
  with_twice second =
      let long = length-append first second in
      let sum : p.used + length (first ++ second) ≡ end + length second = omega arith in
      rw (sum, take_with, drop_with (length second), append_assoc (take p.used p.bytes) first (second ++ drop (end + length second) p.bytes), append_assoc first second (drop (end + length second) p.bytes))

-- ── what is cut off ──

take-append : (n : ℕ) (a b : List ℕ) → take n (a ++ b) ≡ take n a ++ take (n - length a) b
take-append zero a b = let none : 0 - length a ≡ 0 = omega arith in rw none
take-append (suc n) [] b = rw (sub-zero (suc n))
take-append (suc n) (x ∷ a) b =
    let less : suc n - suc (length a) ≡ n - length a = omega arith in
    rw less (ap (λ l. x ∷ l) (take-append n a b))

-- ── any text ──

pub put-nothing : (p : Page) → put_text p [] ≡ p
unfolding put_text
put-nothing p = rw (take-nil (length p.bytes - p.used)) (with_nothing p)

pub put-room : (p : Page) (text : List ℕ) → p.used + length text ≤ length p.bytes → put_text p text ≡ with_text p text
unfolding put_text
put-room p text h = rw (take_all (length p.bytes - p.used) text (omega arith))

-- where nothing is free, nothing changes
pub put_full : (p : Page) (text : List ℕ) → length p.bytes ≤ p.used → put_text p text ≡ p
unfolding put_text
put_full p text h =
    let none : length p.bytes - p.used ≡ 0 = omega arith in
    rw none (with_nothing p)

put_both : (p : Page) (a b : List ℕ) → p.used ≤ length p.bytes → put_text (put_text p a) b ≡ put_text p (a ++ b)
unfolding put_text
put_both p a b h =
    let free = length p.bytes - p.used in
    let cut = length-take free a in
    let fits : p.used + length (take free a) ≤ length p.bytes = omega arith in
    let left : length (with_text p (take free a)).bytes - (p.used + length (take free a)) ≡ free - length a =
    omega (arith, length_with p (take free a) fits) in
    rw (left, take-append free a b) (with_twice p (take free a) fits (take (free - length a) b))

pub put-put : (p : Page) (a b : List ℕ) → put_text (put_text p a) b ≡ put_text p (a ++ b)
put-put p a b = both (leb p.used (length p.bytes)) refl where
  both : (t : Bool) → leb p.used (length p.bytes) ≡ t → put_text (put_text p a) b ≡ put_text p (a ++ b)
  both true e = put_both p a b (leb-true p.used (length p.bytes) e)
  both false e =
      let h = leb-false p.used (length p.bytes) e in
      rw (put_full p a (omega arith), put_full p b (omega arith), put_full p (a ++ b) (omega arith))

-- the text stays as long
pub put-length : (p : Page) (text : List ℕ) → length (put_text p text).bytes ≡ length p.bytes
unfolding put_text
put-length p text = room (leb p.used (length p.bytes)) refl where
  room : (t : Bool) → leb p.used (length p.bytes) ≡ t → length (put_text p text).bytes ≡ length p.bytes
  room true e =
      let free = length p.bytes - p.used in
      let h = leb-true p.used (length p.bytes) e in
      length_with p (take free text) (omega (arith, length-take free text))
  room false e =
      let h = leb-false p.used (length p.bytes) e in
      ap (λ (q : Page). length q.bytes) (put_full p text (omega arith))

-- as much of the word as fits, through the part of the text behind what is used
pub put-part : (text : List ℕ) (used : ℕ) (word : List ℕ) (count : ℕ) → used ≤ length text →
    count ≡ min (length word) (length text - used) →
    page (put_mid used count text (take count word)) (used + count) ≡ put_text (page text used) word
unfolding put_text
put-part text used word count h same =
    let free = length text - used in
    let long : length (take count word) ≡ count = length-take-le count word (omega arith) in
    let turned : count ≡ min free (length word) = omega arith in
    let cut : take free word ≡ take count word = sym (rw turned (take_min free word)) in
    rw (cut, long, drop-drop count used text)

-- the same of a part that is as long, and of what was copied into it
pub put-copied : (text : List ℕ) (used : ℕ) (word : List ℕ) (count n : ℕ) (copied : List ℕ) → used ≤ length text →
    count ≡ min (length word) (length text - used) → n ≡ count → copied ≡ take count word →
    page (put_mid used n text copied) (used + count) ≡ put_text (page text used) word
put-copied text used word count n copied h same e f = rw (e, f) (put-part text used word count h same)

-- ── by a writer ──

pub puts : (w : Writer) (a b : List ℕ) → put (put w a) b ≡ put w (a ++ b)
unfolding put
puts w a b = ap (with_page w) (put-put (page_of w) a b)

pub puts-nothing : (w : Writer) → put w [] ≡ w
unfolding put
puts-nothing w = ap (with_page w) (put-nothing (page_of w))

-- what stands in the text then, and that it is the same lent text
pub put-page : (w : Writer) (a : List ℕ) → page_of (put w a) ≡ put_text (page_of w) a
unfolding put
put-page w a = refl

pub put-same_text : (w : Writer) (a : List ℕ) → (put w a).text.ghost_name ≡ w.text.ghost_name
unfolding put
put-same_text w a = refl
