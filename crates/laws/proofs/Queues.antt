-- Laws of the queues of the groups: one of them replaced, the part that a visit works on, a request that arrives.
use Prim.Native.Nat.{ℕ}
use mathlib.Core.Path.{◌≡◌, refl, sym, ◌∙◌, ap}
use mathlib.Core.Logic.{◌⊎◌, inl, inr, ⊎_elim}
use mathlib.Core.Bool.{true, false}
use mathlib.Core.List.Memᴰ
use mathlib.Core.List.{List, [], ◌∷◌, ◌++◌, Memᴰ}
use lib.Dec.{eqb}
use borrow.Author.Tests.{eqb-true, eq-eqb}
use Rattle.layout.specs.declared.clock.LocalTime.{LocalTime}
use Rattle.record.specs.declared.request.Request.{Request}
use Rattle.rules.specs.Replica.{State, replace, Part, part_of, with_part, arrive}
use Rattle.rules.specs.declared.Pending.{Pending}
use Rattle.question.proofs.Tests.{case}
use Rattle.laws.proofs.Lists.{eqb_swap}

-- two functions are one if they agree everywhere
pub fun_ext : {A B : Type 0} {f g : A → B} → ((x : A) → f x ≡ g x) → f ≡ g
fun_ext h = λ i x. h x i

-- ── one queue replaced ──

module _ (group : ℕ) (queue : List Pending) (pending : ℕ → List Pending) where
  pub replace_same : replace group queue pending group ≡ queue
  replace_same = rw (eq-eqb group group refl)

  pub replace_other : (g : ℕ) → eqb g group ≡ false → replace group queue pending g ≡ pending g
  replace_other g e = rw e

  -- what holds of the new queue, and of all old ones, holds of all
  pub replace_all : (P : ℕ → List Pending → Type 0) → P group queue → ((g : ℕ) → P g (pending g)) → (g : ℕ) → P g (replace group queue pending g)
  replace_all P new old g = case (eqb g group) (λ e. rw (e, eqb-true g group e) new) (λ e. rw e (old g))

  -- of two replacements the second counts
  pub replace_twice : (first : List Pending) → replace group queue (replace group first pending) ≡ replace group queue pending
  replace_twice first = fun_ext (λ g. case (eqb g group) (λ e. rw e) (λ e. rw e))

-- a queue replaced by itself
pub replace_again : (group : ℕ) (pending : ℕ → List Pending) → replace group (pending group) pending ≡ pending
replace_again group pending = fun_ext (λ g. case (eqb g group) (λ e. rw (e, eqb-true g group e)) (λ e. rw e))

-- ── the part that a visit works on ──

module _ (group : ℕ) (s : State) where
  pub part_again : with_part group (part_of group s) s ≡ s
  part_again =
      ap (λ (pending : ℕ → List Pending). record { settings = s.settings; number = s.number; store = s.store; pending = pending; last = s.last })
      (replace_again group s.pending)

  pub part_same : (part : Part) → part_of group (with_part group part s) ≡ part
  part_same part = ap (λ (queue : List Pending). record { store = part.store; queue = queue }) (replace_same group part.queue s.pending)

  pub part_twice : (first second : Part) → with_part group second (with_part group first s) ≡ with_part group second s
  part_twice first second =
      ap (λ (pending : ℕ → List Pending). record { settings = s.settings; number = s.number; store = second.store; pending = pending; last = s.last })
      (replace_twice group second.queue s.pending first.queue)

-- ── a request that arrives ──

module _ (s : State) (r : Request) (now : LocalTime) where
  -- it is the last of its group's queue
  pub arrive-mine : (g : ℕ) → eqb r.group g ≡ true → (arrive s r now).pending g ≡ s.pending g ++ (record { request = r; arrival = now } ∷ [])
  arrive-mine g e =
      let new : List Pending = record { request = r; arrival = now } ∷ [] in
      rw (eqb_swap g r.group ∙ e) (ap (λ x. s.pending x ++ new) (eqb-true r.group g e))

  -- and leaves the other groups' queues
  pub arrive_other : (g : ℕ) → eqb r.group g ≡ false → (arrive s r now).pending g ≡ s.pending g
  arrive_other g e = rw (eqb_swap g r.group ∙ e)

  -- what is pending after an arrival was pending, or is what arrived
  pub arrive_in : (g : ℕ) (p : Pending) → Memᴰ p ((arrive s r now).pending g)
      → Memᴰ p (s.pending g) ⊎ ((p ≡ record { request = r; arrival = now }) × (g ≡ r.group))
  arrive_in g p i = case (eqb g r.group)
      (λ e.
      let same = eqb-true g r.group e in
      ⊎_elim (λ (j : Memᴰ p (s.pending r.group)). inl (rw same j)) (λ j. inr (Memᴰ.eq_of_singleton j, same))
      (Memᴰ.append_cases (s.pending r.group) (rw e at i)))
      (λ e. inl (rw e at i))

-- ── whose requests they are ──

-- all of them name a group
abbrev pub Of : ℕ → List Pending → Type 0
Of group queue = (p : Pending) → Memᴰ p queue → p.request.group ≡ group

-- each group's queue holds requests that name it
abbrev pub Housed : State → Type 0
Housed s = (g : ℕ) → Of g (s.pending g)

-- an arrival keeps it so
pub arrive-housed : (s : State) (r : Request) (now : LocalTime) → Housed s → Housed (arrive s r now)
arrive-housed s r now h g p i = ⊎_elim (h g p) (λ j. ap (λ (x : Pending). x.request.group) j.0 ∙ sym j.1) (arrive_in s r now g p i)
