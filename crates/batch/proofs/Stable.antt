-- The head that the code finds, request by request, is that of the rules: its timestamp is the queue's, and its first arrival is
-- late exactly where the queue's batch is stable.
use Prim.Native.Nat.{ℕ, ◌+◌, min}
use mathlib.Core.Path.{◌≡◌, refl, sym, ap, ◌∙◌}
use mathlib.Core.Bool.{Bool, true, false, ◌&&◌, ◌||◌, or_assoc, or_comm, or-false, and-or_distrib_left}
use mathlib.Core.List.{List, [], ◌∷◌}
use Rattle.std.specs.Prelude.{Option, Some, None, fold}
use native.Mathlib.Omega.{arith}
use lib.Dec.{eqb, ltb}
use borrow.Author.Tests.{ltb-true, ltb-false, lt-ltb, le-ltb, eq-eqb, ne_eqb}
use Rattle.layout.specs.declared.clock.Timestamp.{Timestamp}
use Rattle.layout.specs.declared.clock.LocalTime.{LocalTime}
use Rattle.record.specs.declared.request.Request.{Request}
use Rattle.rules.specs.Lists.{keep, some}
use Rattle.rules.specs.Replica.{stamped, lowest, requests_of, head_timestamp, batch_of, earlier, earliest, is_stable}
use Rattle.rules.specs.declared.Pending.{Pending}
use Rattle.question.proofs.Tests.{case}
use Rattle.laws.proofs.Least.{lowest_start}
use Rattle.batch.specs.Head.{at, meet, head_in, is_late, where_late}
use Rattle.batch.specs.declared.pending.Head.{Head}

-- ── the least timestamp, from either end ──

lowest_swap : (t u : Timestamp) (l : List Request) → min t.0 (lowest u l).0 ≡ min u.0 (lowest t l).0
lowest_swap t u [] = omega arith
lowest_swap t u (r ∷ l) = omega (arith, lowest_swap t u l)

some_keep : {A : Type 0} (p q : A → Bool) (l : List A) → some q (keep p l) ≡ some (λ x. p x && q x) l
some_keep p q [] = refl
some_keep p q (x ∷ l) = case (p x) (λ e. rw (e, some_keep p q l)) (λ e. rw (e, some_keep p q l))

module _ (delta : ℕ) (now : LocalTime) where
  abbrev late : LocalTime → Bool
  late arrival = is_late arrival delta now

  -- ── a batch is stable where an arrival is late ──

  late-earlier : (a b : LocalTime) → late (earlier a b) ≡ late a || late b
  late-earlier a b =
      case (late a)
      (λ e. rw e (lt-ltb (min a.0 b.0 + delta) now.0 (omega (arith, ltb-true (a.0 + delta) now.0 e))))
      (λ e. case (late b)
      (λ f. rw (e, f) (lt-ltb (min a.0 b.0 + delta) now.0 (omega (arith, ltb-true (b.0 + delta) now.0 f))))
      (λ f. rw (e, f) (le-ltb (min a.0 b.0 + delta) now.0
      (omega (arith, ltb-false (a.0 + delta) now.0 e, ltb-false (b.0 + delta) now.0 f)))))

  late-earliest : (a : LocalTime) (l : List Pending) → late (earliest a l) ≡ late a || some (λ p. late p.arrival) l
  late-earliest a [] = sym (or-false (late a))
  late-earliest a (p ∷ l) =
      let rest = some (λ q. late q.arrival) l in
      rw (late-earlier p.arrival (earliest a l), late-earliest a l, ← or_assoc (late p.arrival) (late a) rest, or_comm (late p.arrival) (late a))
      (or_assoc (late a) (late p.arrival) rest)

  stable-late : (l : List Pending) → is_stable delta now l ≡ some (λ p. late p.arrival) l
  stable-late [] = refl
  stable-late (p ∷ l) = late-earliest p.arrival l

  -- ── the head ──

  -- a head at a timestamp, whose first arrival is late or not
  record Found (h : Option Head) (t : Timestamp) (b : Bool) : Type 0 where
    first : LocalTime
    is : h ≡ Some (at t first)
    lateness : late first ≡ b

  found_as : {h : Option Head} {t u : Timestamp} {b d : Bool} → t.0 ≡ u.0 → b ≡ d → Found h t b → Found h u d
  found_as e i x = record { first = x.first; is = x.is ∙ ap (λ (n : ℕ). Some (at (record { 0 = n }) x.first)) e; lateness = x.lateness ∙ i }

  -- some request with the timestamp is late
  abbrev some_late : Timestamp → List Pending → Bool
  some_late t l = some (λ p. stamped t p.request && late p.arrival) l

  -- a head joined by the requests of a list
  abbrev joined : Timestamp → LocalTime → List Pending → Timestamp → Bool
  joined t first l u = eqb t.0 u.0 && late first || some_late u l

  -- what a head and the requests of a list come to
  abbrev Joined : Timestamp → LocalTime → List Pending → Option Head → Type 0
  Joined t first l h = let u = lowest t (requests_of l) in Found h u (joined t first l u)

  module _ (t : Timestamp) (first : LocalTime) (p : Pending) (l : List Pending) where
    abbrev q : Timestamp
    q = p.request.timestamp

    abbrev rest : List Request
    rest = requests_of l

    abbrev both : Timestamp
    both = record { 0 = min q.0 (lowest t rest).0 }

    -- one more request, by its timestamp
    sooner : ltb q.0 t.0 ≡ true → {h : Option Head} → Joined q p.arrival l h → Joined t first (p ∷ l) h
    sooner a x =
        let e : (lowest q rest).0 ≡ both.0 = omega (arith, lowest_swap q t rest, lowest_start q rest, ltb-true q.0 t.0 a) in
        let no = ne_eqb t.0 both.0 (λ i. omega (arith, ltb-true q.0 t.0 a)) in
        found_as e (ap (λ (n : ℕ). joined q p.arrival l (record { 0 = n })) e ∙ rw no) x

    later : ltb t.0 q.0 ≡ true → {h : Option Head} → Joined t first l h → Joined t first (p ∷ l) h
    later b x =
        let e : (lowest t rest).0 ≡ both.0 = omega (arith, lowest_start t rest, ltb-true t.0 q.0 b) in
        let no = ne_eqb q.0 both.0 (λ i. omega (arith, lowest_start t rest, ltb-true t.0 q.0 b)) in
        found_as e (ap (λ (n : ℕ). joined t first l (record { 0 = n })) e ∙ rw no) x

    same : q.0 ≡ t.0 → {h : Option Head} → Joined t (earlier first p.arrival) l h → Joined t first (p ∷ l) h
    same i x =
        let e : (lowest t rest).0 ≡ both.0 = omega (arith, lowest_start t rest) in
        let here = eqb t.0 both.0 in
        let here' : eqb q.0 both.0 ≡ here = ap (λ (n : ℕ). eqb n both.0) i in
        found_as e
        (ap (λ (n : ℕ). joined t (earlier first p.arrival) l (record { 0 = n })) e
        ∙ rw (late-earlier first p.arrival, here', and-or_distrib_left here (late first) (late p.arrival))
        (or_assoc (here && late first) (here && late p.arrival) (some_late both l))) x

  fold_lem : (t : Timestamp) (first : LocalTime) (l : List Pending) → Joined t first l (fold meet (Some (at t first)) l)
  fold_lem t first [] = record { first = first; is = refl; lateness = rw (eq-eqb t.0 t.0 refl) (sym (or-false (late first))) }
  fold_lem t first (p ∷ l) =
      let q = p.request.timestamp in
      case (ltb q.0 t.0)
      (λ a. rw a (sooner t first p l a (fold_lem q p.arrival l)))
      (λ a. case (ltb t.0 q.0)
      (λ b. rw (a, b) (later t first p l b (fold_lem t first l)))
      (λ b.
      let i : q.0 ≡ t.0 = omega (arith, ltb-false q.0 t.0 a, ltb-false t.0 q.0 b) in
      rw (a, b) (same t first p l i (fold_lem t (earlier first p.arrival) l))))

  -- a queue that has a request has the rules' head
  head_is : (p : Pending) (l : List Pending) → Found (head_in (p ∷ l)) (head_timestamp (p ∷ l)) (is_stable delta now (batch_of (p ∷ l)))
  head_is p l =
      let with-t : Pending → Bool = λ q. stamped (head_timestamp (p ∷ l)) q.request in
      let stable = stable-late (batch_of (p ∷ l)) ∙ some_keep with-t (λ q. late q.arrival) (p ∷ l) in
      found_as refl (sym stable) (fold_lem p.request.timestamp p.arrival l)

  -- a head that is found late is the queue's, and the batch is stable
  pub late_yes : (l : List Pending) {h : Head} → where_late delta now (head_in l) ≡ Some h
      → (h.timestamp ≡ head_timestamp l) × (is_stable delta now (batch_of l) ≡ true)
  late_yes [] e = absurd (cc)
  late_yes (p ∷ l) {h} e =
      let f = head_is p l in
      case (is_stable delta now (batch_of (p ∷ l)))
      (λ b. let z : Some (at (head_timestamp (p ∷ l)) f.first) ≡ Some h = rw (f.is, f.lateness, b) at e in (cc, b))
      (λ b. let z : ◌≡◌ {A = Option Head} None (Some h) = rw (f.is, f.lateness, b) at e in absurd (cc))

  -- where none is found late, the batch is not stable
  pub late_no : (l : List Pending) → where_late delta now (head_in l) ≡ None → is_stable delta now (batch_of l) ≡ false
  late_no [] e = refl
  late_no (p ∷ l) e =
      let f = head_is p l in
      case (is_stable delta now (batch_of (p ∷ l)))
      (λ b. let z : Some (at (head_timestamp (p ∷ l)) f.first) ≡ None = rw (f.is, f.lateness, b) at e in absurd (cc))
      (λ b. b)
