-- A list in parts of one width. An element that is set, and a part that is lent and comes back as long as it was, change no other part.
use Prim.Native.Nat.{ℕ, zero, suc, ◌+◌, ◌*◌, ◌-◌, ◌≤◌, ◌<◌, min}
use mathlib.Core.Path.{◌≡◌, refl, sym, ◌∙◌, ap}
use mathlib.Core.Logic.{◌≢◌}
use mathlib.Core.List.{List, [], ◌∷◌, ◌++◌, append-nil}
use native.Mathlib.Nat.{mul-suc, mul-le-mul_left}
use native.Mathlib.Omega.{arith}
use lib.Dec.{leb, ltb}
use lib.ListN.{length, set, take, drop, length-take, length-drop, drop_of_length-le}
use lib.Seq.{take_all, take-nil, take-take, drop-drop, take_at, drop_at, length-take-le, take-set-le, take-set-lt, drop-set-lt, drop-set-add}
use borrow.Author.Tests.{leb-true, leb-false, ltb-true, ltb-false}
use borrow.Rule.Slice.PartMut.{mid_of, post_of, put_mid, same_len_mid, take_put, drop_put, Post-is}
use Rattle.question.proofs.Tests.{case}
use Rattle.state.specs.State.{part_at}

-- an earlier part ends where a later one begins, or before
apart : (width i j : ℕ) → j < i → width * j + width ≤ width * i
apart width i j h = let more : suc j ≤ i = omega arith in omega (arith, mul-le-mul_left width more, mul-suc width j)

-- ── one element set ──

module _ {A : Type 0} (width i : ℕ) (l : List A) (n : ℕ) (x : A) (h : n < width) where
  pub part-set : part_at width i (set l (width * i + n) x) ≡ set (part_at width i l) n x
  part-set = ap (take width) (drop-set-add (width * i) l n x) ∙ take-set-lt width (drop (width * i) l) n x h

  pub part-set_other : (j : ℕ) → j ≢ i → part_at width j (set l (width * i + n) x) ≡ part_at width j l
  part-set_other j other = case (ltb j i)
      (λ e. before (apart width i j (ltb-true j i e)))
      (λ e.
      let behind = apart width j i (omega (arith, ltb-false j i e, other)) in
      ap (take width) (drop-set-lt (width * j) l (width * i + n) x (omega arith)))
    where
      before : width * j + width ≤ width * i → part_at width j (set l (width * i + n) x) ≡ part_at width j l
      before less =
          let past = width * i - width * j + n in
          let at : width * i + n ≡ width * j + past = omega arith in
          rw at (ap (take width) (drop-set-add (width * j) l past x) ∙ take-set-le width (drop (width * j) l) past x (omega arith))

-- ── a part lent ──

module _ {A : Type 0} where
  take_short : (n m : ℕ) (l : List A) → m ≡ min n (length l) → take m l ≡ take n l
  take_short n m l e = case (leb n (length l))
      (λ short. let same : m ≡ n = omega (arith, leb-true n (length l) short) in rw same)
      (λ long.
      let past = leb-false n (length l) long in
      take_all m l (omega arith) ∙ sym (take_all n l (omega arith)))

  -- the first of what is left are the last of the first
  take-drop : (n a : ℕ) (l : List A) → take n (drop a l) ≡ drop a (take (a + n) l)
  take-drop n zero l = let z : zero + n ≡ n = omega arith in rw z
  take-drop n (suc a) [] = take-nil n ∙ let z : suc a + n ≡ suc (a + n) = omega arith in rw z
  take-drop n (suc a) (x ∷ l) = let z : suc a + n ≡ suc (a + n) = omega arith in rw z (take-drop n a l)

  module _ (width i : ℕ) (l : List A) (from to : ℕ) (begins : from ≡ min (width * i) (length l)) (ends : to ≡ min (width * i + width) (length l)) where
    drop_from : drop from l ≡ drop (width * i) l
    drop_from = case (leb (width * i) (length l))
        (λ e. let same : from ≡ width * i = omega (arith, leb-true (width * i) (length l) e) in rw same)
        (λ e.
        let past = leb-false (width * i) (length l) e in
        drop_of_length-le l {i = from} (omega arith) ∙ sym (drop_of_length-le l {i = width * i} (omega arith)))

    -- what is lent is the part
    pub part-lent : take (to - from) (drop from l) ≡ part_at width i l
    part-lent = rw drop_from (take_short width (to - from) (drop (width * i) l) (omega (arith, length-drop (width * i) l)))

    module _ (part : List A) (same : length part ≡ length (mid_of from (to - from) l)) where
      abbrev back : List A
      back = put_mid from (to - from) l part

      long : length part ≡ to - from
      long = omega (arith, same, length-take (to - from) (drop from l), length-drop from l)

      -- what comes back stands there
      pub part_back : part_at width i back ≡ part
      part_back = case (ltb (width * i) (length l))
          (λ e. inside (ltb-true (width * i) (length l) e))
          (λ e.
          let past = ltb-false (width * i) (length l) e in
          let none : length part ≡ 0 = omega (arith, long) in
          rw (drop_of_length-le back {i = width * i} (omega (arith, same_len_mid from (to - from) l part same)), take-nil width) (sym (empty part none)))
        where
          empty : (m : List A) → length m ≡ 0 → m ≡ []
          empty [] h = refl
          empty (x ∷ m) h = absurd (omega arith)

          inside : width * i < length l → part_at width i back ≡ part
          inside h =
              let here : from ≡ width * i = omega arith in
              let rest = drop_at (take from l) (part ++ post_of from (to - from) l) from (length-take-le from l (omega arith)) in
              let all : drop (width * i) back ≡ part ++ post_of from (to - from) l = rw (← here) rest in
              rw all (case (leb (width * i + width) (length l))
              (λ e. take_at part (post_of from (to - from) l) width (omega (arith, long, leb-true (width * i + width) (length l) e)))
              (λ e.
              let past = leb-false (width * i + width) (length l) e in
              let none = Post-is from to l (omega arith) ∙ drop_of_length-le l {i = to} (omega arith) in
              rw (none, append-nil part) (take_all width part (omega (arith, long)))))

      -- and nothing else has changed
      pub part_others : (j : ℕ) → j ≢ i → part_at width j back ≡ part_at width j l
      part_others j other = case (ltb j i)
          (λ e. before (apart width i j (ltb-true j i e)))
          (λ e. behind (apart width j i (omega (arith, ltb-false j i e, other))))
        where
          before : width * j + width ≤ width * i → part_at width j back ≡ part_at width j l
          before h = case (leb (width * i) (length l))
              (λ e.
              let here : from ≡ width * i = omega (arith, leb-true (width * i) (length l) e) in
              let first : take (width * j + width) back ≡ take (width * j + width) l =
              sym (take-take (width * j + width) from back (omega arith)) ∙ (ap (take (width * j + width)) (take_put from (to - from) l part (omega arith))
              ∙ take-take (width * j + width) from l (omega arith)) in
              take-drop width (width * j) back ∙ (ap (drop (width * j)) first ∙ sym (take-drop width (width * j) l)))
              (λ e.
              let past = leb-false (width * i) (length l) e in
              let first : take from back ≡ take from l = take_put from (to - from) l part (omega arith) in
              let whole : back ≡ l =
              sym (take_all from back (omega (arith, same_len_mid from (to - from) l part same))) ∙ (first ∙ take_all from l (omega arith)) in
              rw whole)

          behind : width * i + width ≤ width * j → part_at width j back ≡ part_at width j l
          behind h =
              let there : to + (width * j - to) ≡ width * j = omega arith in
              let rest = drop_put from to l part (omega arith) (omega arith) long in
              let all : drop (width * j) back ≡ drop (width * j) l =
              rw there at (sym (drop-drop (width * j - to) to back) ∙ (ap (drop (width * j - to)) rest ∙ drop-drop (width * j - to) to l)) in
              ap (take width) all
