-- Laws of keep, every, some, up_to and tally.
use Prim.Native.Nat.{ℕ, zero, suc, ◌+◌, ◌≤◌, ◌<◌}
use mathlib.Core.Path.{◌≡◌, refl, sym, ◌∙◌, ap}
use mathlib.Core.Logic.{◌⊎◌, inl, inr, ⊎_elim}
use mathlib.Core.Bool.{Bool, true, false, not, cond, ◌&&◌, ◌||◌, and-eq-true_iff}
use mathlib.Core.List.{List, [], ◌∷◌, ◌++◌, map, flat_map, append_assoc, Memᴰ}
use native.Mathlib.Omega.{arith}
use lib.Dec.{eqb}
use lib.ListN.{length, length-append}
use borrow.Author.Tests.{eqb-true, eqb-false, eq-eqb}
use Rattle.question.proofs.Tests.{case, true-not-false}
use Rattle.rules.specs.Lists.{keep, every, some, up_to, tally}

-- ── tests ──

-- tests that imply each other come out alike
pub same_test : (a b : Bool) → (a ≡ true → b ≡ true) → (b ≡ true → a ≡ true) → a ≡ b
same_test true b f g = sym (f refl)
same_test false true f g = g refl
same_test false false f g = refl

-- a test that cannot fail passes
pub not-fails : (b : Bool) → (b ≡ false → ⊥) → b ≡ true
not-fails true h = refl
not-fails false h = absurd (h refl)

pub eqb_swap : (a b : ℕ) → eqb a b ≡ eqb b a
eqb_swap a b = same_test (eqb a b) (eqb b a) (λ e. eq-eqb b a (sym (eqb-true a b e))) (λ e. eq-eqb a b (sym (eqb-true b a e)))

-- ── lists ──

module _ {A : Type 0} where
  -- what is kept was there, and passes
  pub keep_in : (p : A → Bool) (l : List A) {x : A} → Memᴰ x (keep p l) → Memᴰ x l × (p x ≡ true)
  keep_in p [] m = absurd (mathlib.Core.List.Memᴰ.not-nil m)
  keep_in p (y ∷ l) {x} m =
      case (p y)
      (λ e. yes' e (λ n. keep_in p l n) (mathlib.Core.List.Memᴰ.cases_cons (rw e at m)))
      (λ e. let r = keep_in p l (rw e at m) in (mathlib.Core.List.Memᴰ.tail r.0, r.1))
    where
      yes' : p y ≡ true → (Memᴰ x (keep p l) → Memᴰ x l × (p x ≡ true)) → (x ≡ y) ⊎ Memᴰ x (keep p l)
          → Memᴰ x (y ∷ l) × (p x ≡ true)
      yes' e h (inl q) = (mathlib.Core.List.Memᴰ.head q, rw q e)
      yes' e h (inr n) = let r = h n in (mathlib.Core.List.Memᴰ.tail r.0, r.1)

  -- what was there and passes is kept
  pub in_keep : (p : A → Bool) {x : A} (l : List A) → Memᴰ x l → p x ≡ true → Memᴰ x (keep p l)
  in_keep p l (mathlib.Core.List.Memᴰ.head {x = y} q) e = rw (← q, e) (mathlib.Core.List.Memᴰ.head refl)
  in_keep p {x = z} l (mathlib.Core.List.Memᴰ.tail {x = y} {xs = ys} m) e =
      elim (p y) as (λ t. Memᴰ z (cond t (y ∷ keep p ys) (keep p ys))) [ true ↦ mathlib.Core.List.Memᴰ.tail (in_keep p ys m e) | false ↦ in_keep p ys m e ]

  pub keep_none : (p : A → Bool) (l : List A) → ((x : A) → Memᴰ x l → p x ≡ false) → keep p l ≡ []
  keep_none p [] h = refl
  keep_none p (x ∷ l) h = rw (h x (mathlib.Core.List.Memᴰ.head refl)) (keep_none p l (λ y m. h y (mathlib.Core.List.Memᴰ.tail m)))

  pub keep_all : (p : A → Bool) (l : List A) → ((x : A) → Memᴰ x l → p x ≡ true) → keep p l ≡ l
  keep_all p [] h = refl
  keep_all p (x ∷ l) h = rw (h x (mathlib.Core.List.Memᴰ.head refl)) (ap (λ t. x ∷ t) (keep_all p l (λ y m. h y (mathlib.Core.List.Memᴰ.tail m))))

  pub keep_append : (p : A → Bool) (a b : List A) → keep p (a ++ b) ≡ keep p a ++ keep p b
  keep_append p [] b = refl
  keep_append p (x ∷ a) b = let h = keep_append p a b in case (p x) (λ e. rw (e, h)) (λ e. rw e h)

  -- a list is split into what passes and what does not
  pub keep_parts : (p : A → Bool) (l : List A) → length (keep (λ x. not (p x)) l) + length (keep p l) ≡ length l
  keep_parts p [] = refl
  keep_parts p (x ∷ l) = let h = keep_parts p l in case (p x) (λ e. rw e (omega arith)) (λ e. rw e (omega arith))

  -- one test after another is both
  pub keep_both : (p q : A → Bool) (l : List A) → keep p (keep q l) ≡ keep (λ x. q x && p x) l
  keep_both p q [] = refl
  keep_both p q (x ∷ l) =
      let h = keep_both p q l in
      case (q x) (λ e. case (p x) (λ f. rw (e, f, h)) (λ f. rw (e, f) h)) (λ e. rw e h)

  -- a test that the other implies makes no difference
  pub keep-keep : (p q : A → Bool) (l : List A) → ((x : A) → p x ≡ true → q x ≡ true) → keep p (keep q l) ≡ keep p l
  keep-keep p q [] h = refl
  keep-keep p q (x ∷ l) h =
      case (q x)
      (λ e. rw (e, keep-keep p q l h))
      (λ e. rw e (case (p x) (λ f. true-not-false (q x) (h x f) e) (λ f. rw f (keep-keep p q l h))))

  -- the order of two tests makes no difference
  pub keep_swap : (p q : A → Bool) (l : List A) → keep p (keep q l) ≡ keep q (keep p l)
  keep_swap p q [] = refl
  keep_swap p q (x ∷ l) =
      let h = keep_swap p q l in
      case (q x)
      (λ e. case (p x) (λ f. rw (e, f, e, h)) (λ f. rw (e, f) h))
      (λ e. case (p x) (λ f. rw (e, f, e) h) (λ f. rw (e, f) h))

  -- tests that come out alike keep the same
  pub keep_same : (p q : A → Bool) (l : List A) → ((x : A) → p x ≡ q x) → keep p l ≡ keep q l
  keep_same p q [] h = refl
  keep_same p q (x ∷ l) h = rw (h x, keep_same p q l h)

  -- a list with no member is empty
  pub no_member : (l : List A) → ((x : A) → Memᴰ x l → ⊥) → l ≡ []
  no_member [] h = refl
  no_member (x ∷ l) h = absurd (h x (mathlib.Core.List.Memᴰ.head refl))

  -- a list with a member is not empty
  pub in_length : (l : List A) {x : A} → Memᴰ x l → 0 < length l
  in_length [] m = absurd (mathlib.Core.List.Memᴰ.not-nil m)
  in_length (x ∷ l) m = omega arith

module _ {A B : Type 0} (f : A → B) where
  pub map_in : (l : List A) {y : B} → Memᴰ y (map f l) → (x : A) × Memᴰ x l × (y ≡ f x)
  map_in [] m = absurd (mathlib.Core.List.Memᴰ.not-nil m)
  map_in (x ∷ l) {y} m = go (λ n. map_in l n) (mathlib.Core.List.Memᴰ.cases_cons m)
    where
      go : (Memᴰ y (map f l) → (z : A) × Memᴰ z l × (y ≡ f z)) → (y ≡ f x) ⊎ Memᴰ y (map f l)
          → (z : A) × Memᴰ z (x ∷ l) × (y ≡ f z)
      go h (inl q) = (x, mathlib.Core.List.Memᴰ.head refl, q)
      go h (inr n) = let r = h n in (r.0, mathlib.Core.List.Memᴰ.tail r.1, r.2)

  pub map-keep : (p : B → Bool) (l : List A) → keep p (map f l) ≡ map f (keep (λ x. p (f x)) l)
  map-keep p [] = refl
  map-keep p (x ∷ l) = case (p (f x)) (λ e. rw e (ap (λ t. f x ∷ t) (map-keep p l))) (λ e. rw e (map-keep p l))

module _ {A B : Type 0} where
  pub flat_append : (f : A → List B) (a b : List A) → flat_map f (a ++ b) ≡ flat_map f a ++ flat_map f b
  unfolding flat_map
  flat_append f [] b = refl
  flat_append f (x ∷ a) b = rw (flat_append f a b) (sym (append_assoc (f x) (flat_map f a) (flat_map f b)))

  pub flat_same : (f g : A → List B) (l : List A) → ((x : A) → Memᴰ x l → f x ≡ g x) → flat_map f l ≡ flat_map g l
  unfolding flat_map
  flat_same f g [] h = refl
  flat_same f g (x ∷ l) h = rw (h x (mathlib.Core.List.Memᴰ.head refl), flat_same f g l (λ y m. h y (mathlib.Core.List.Memᴰ.tail m)))

  pub flat_in : (f : A → List B) (l : List A) {y : B} → Memᴰ y (flat_map f l) → (x : A) × Memᴰ x l × Memᴰ y (f x)
  unfolding flat_map
  flat_in f [] m = absurd (mathlib.Core.List.Memᴰ.not-nil m)
  flat_in f (x ∷ l) {y} m = ⊎_elim
      (λ (i : Memᴰ y (f x)). (x, mathlib.Core.List.Memᴰ.head refl, i))
      (λ (i : Memᴰ y (flat_map f l)). let r = flat_in f l i in (r.0, mathlib.Core.List.Memᴰ.tail r.1, r.2))
      (mathlib.Core.List.Memᴰ.append_cases (f x) m)

  pub in_flat : (f : A → List B) {x : A} (l : List A) {y : B} → Memᴰ x l → Memᴰ y (f x) → Memᴰ y (flat_map f l)
  unfolding flat_map
  in_flat f l {y = y} (mathlib.Core.List.Memᴰ.head {xs = xs} q) i = mathlib.Core.List.Memᴰ.append_left (flat_map f xs) (rw q at i)
  in_flat f l (mathlib.Core.List.Memᴰ.tail {x = x} {xs = xs} m) i = mathlib.Core.List.Memᴰ.append_right (f x) (in_flat f xs m i)

module _ {A : Type 0} (p : A → Bool) where
  pub every_in : (l : List A) → every p l ≡ true → (x : A) → Memᴰ x l → p x ≡ true
  every_in [] e x m = absurd (mathlib.Core.List.Memᴰ.not-nil m)
  every_in (y ∷ l) e x m =
      let a = (and-eq-true_iff (p y) (every p l)).0 e in
      ⊎_elim (λ (q : x ≡ y). rw q a.0) (λ (n : Memᴰ x l). every_in l a.1 x n) (mathlib.Core.List.Memᴰ.cases_cons m)

  pub in_every : (l : List A) → ((x : A) → Memᴰ x l → p x ≡ true) → every p l ≡ true
  in_every [] h = refl
  in_every (y ∷ l) h = rw (h y (mathlib.Core.List.Memᴰ.head refl)) (in_every l (λ x m. h x (mathlib.Core.List.Memᴰ.tail m)))

  pub some_in : (l : List A) → some p l ≡ true → (x : A) × Memᴰ x l × (p x ≡ true)
  some_in [] e = true-not-false false e refl
  some_in (y ∷ l) e = case (p y) (λ a. (y, mathlib.Core.List.Memᴰ.head refl, a)) (λ a. let r = some_in l (rw a at e) in (r.0, mathlib.Core.List.Memᴰ.tail r.1, r.2))

  pub in_some : (l : List A) (x : A) → Memᴰ x l → p x ≡ true → some p l ≡ true
  in_some [] x m e = absurd (mathlib.Core.List.Memᴰ.not-nil m)
  in_some (y ∷ ys) x m e = ⊎_elim
      (λ (q : x ≡ y). rw (← q, e))
      (λ (n : Memᴰ x ys). rw (in_some ys x n e) (elim (p y) as (λ t. t || true ≡ true) [ true ↦ refl | false ↦ refl ]))
      (mathlib.Core.List.Memᴰ.cases_cons m)

-- ── 1 to n ──

pub length-up_to : (n : ℕ) → length (up_to n) ≡ n
length-up_to zero = refl
length-up_to (suc n) = omega (arith, length-append (up_to n) (suc n ∷ []), length-up_to n)

pub up_to_in : (n : ℕ) {i : ℕ} → Memᴰ i (up_to n) → (1 ≤ i) × (i ≤ n)
up_to_in zero m = absurd (mathlib.Core.List.Memᴰ.not-nil m)
up_to_in (suc n) {i} m = ⊎_elim
    (λ (a : Memᴰ i (up_to n)). let r = up_to_in n a in (r.0, omega (arith, r.1)))
    (λ (a : Memᴰ i (suc n ∷ [])). let e = mathlib.Core.List.Memᴰ.eq_of_singleton a in (omega arith, omega arith))
    (mathlib.Core.List.Memᴰ.append_cases (up_to n) m)

pub in_up_to : (n i : ℕ) → 1 ≤ i → i ≤ n → Memᴰ i (up_to n)
in_up_to zero i low high = absurd (omega arith)
in_up_to (suc n) i low high = case (eqb i (suc n))
    (λ e. mathlib.Core.List.Memᴰ.append_right (up_to n) (mathlib.Core.List.Memᴰ.head (eqb-true i (suc n) e)))
    (λ e. mathlib.Core.List.Memᴰ.append_left (suc n ∷ []) (in_up_to n i low (omega (arith, eqb-false i (suc n) e))))

-- ── how many of 1 to n ──

pub tally_bound : (p : ℕ → Bool) (n : ℕ) → tally p n ≤ n
tally_bound p zero = omega arith
tally_bound p (suc n) = let h = tally_bound p n in case (p (suc n)) (λ e. rw e (omega arith)) (λ e. rw e (omega arith))

-- tests that agree on 1 to n have the same tally
pub tally_same : (p q : ℕ → Bool) (n : ℕ) → ((i : ℕ) → 1 ≤ i → i ≤ n → p i ≡ q i) → tally p n ≡ tally q n
tally_same p q zero h = refl
tally_same p q (suc n) h = rw (h (suc n) (omega arith) (omega arith), tally_same p q n (λ i lo hi. h i lo (omega arith)))

-- what a weaker test lets pass is at least as many
pub tally_weaker : (p q : ℕ → Bool) (n : ℕ) → ((i : ℕ) → 1 ≤ i → i ≤ n → p i ≡ true → q i ≡ true) → tally p n ≤ tally q n
tally_weaker p q zero h = omega arith
tally_weaker p q (suc n) h =
    let r = tally_weaker p q n (λ i a b. h i a (omega arith)) in
    case (p (suc n))
    (λ a. rw (a, h (suc n) (omega arith) (omega arith) a) (omega arith))
    (λ a. rw a (case (q (suc n)) (λ b. rw b (omega arith)) (λ b. rw b r)))

-- each of 1 to n passes or does not
pub tally_parts : (p : ℕ → Bool) (n : ℕ) → tally p n + tally (λ i. not (p i)) n ≡ n
tally_parts p zero = refl
tally_parts p (suc n) = let r = tally_parts p n in case (p (suc n)) (λ a. rw a (omega arith)) (λ a. rw a (omega arith))

-- where any pass, one does
pub tally-hit : (p : ℕ → Bool) (n : ℕ) → 0 < tally p n → (i : ℕ) × (1 ≤ i) × (i ≤ n) × (p i ≡ true)
tally-hit p zero h = absurd (omega arith)
tally-hit p (suc n) h = case (p (suc n))
    (λ a. (suc n, omega arith, omega arith, a))
    (λ a. let r = tally-hit p n (rw a at h) in (r.0, r.1, omega (arith, r.2), r.3))

-- where all of 1 to n pass, each does
pub tally-full : (p : ℕ → Bool) (n : ℕ) → n ≤ tally p n → (i : ℕ) → 1 ≤ i → i ≤ n → p i ≡ true
tally-full p zero h i lo hi = absurd (omega arith)
tally-full p (suc n) h i lo hi = case (p (suc n))
    (λ e. case (eqb i (suc n))
    (λ t. ap p (eqb-true i (suc n) t) ∙ e)
    (λ t. tally-full p n (omega (arith, rw e at h)) i lo (omega (arith, eqb-false i (suc n) t))))
    (λ e. absurd (omega (arith, rw e at h, tally_bound p n)))

-- tests that no number passes both are passed by at most n together
pub tally-apart : (p q : ℕ → Bool) (n : ℕ) → ((i : ℕ) → p i ≡ true → q i ≡ true → ⊥) → tally p n + tally q n ≤ n
tally-apart p q zero h = omega arith
tally-apart p q (suc n) h =
    let r = tally-apart p q n h in
    case (p (suc n))
    (λ a. case (q (suc n)) (λ b. absurd (h (suc n) a b)) (λ b. rw (a, b) (omega arith)))
    (λ a. case (q (suc n)) (λ b. rw (a, b) (omega arith)) (λ b. rw (a, b) (omega arith)))

-- one more number that may pass
tally_more : (p : ℕ → Bool) (a n : ℕ) → tally p n ≤ tally (λ i. eqb i a || p i) n
tally_more p a zero = omega arith
tally_more p a (suc n) =
    let h = tally_more p a n in
    case (eqb (suc n) a)
    (λ e. case (p (suc n)) (λ t. rw (e, t) (omega arith)) (λ t. rw (e, t) (omega arith)))
    (λ e. case (p (suc n)) (λ t. rw (e, t) (omega arith)) (λ t. rw (e, t) h))

-- one of 1 to n that did not pass, let pass, adds one
pub tally_add : (p : ℕ → Bool) (a n : ℕ) → p a ≡ false → 1 ≤ a → a ≤ n → suc (tally p n) ≤ tally (λ i. eqb i a || p i) n
tally_add p a zero h lo hi = absurd (omega arith)
tally_add p a (suc n) h lo hi = case (eqb (suc n) a)
    (λ e. rw (e, ap p (eqb-true (suc n) a e) ∙ h) (omega (arith, tally_more p a n)))
    (λ e.
    let r = tally_add p a n h lo (omega (arith, eqb-false (suc n) a e)) in
    case (p (suc n)) (λ t. rw (e, t) (omega arith)) (λ t. rw (e, t) r))
