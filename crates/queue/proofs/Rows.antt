-- A row keeps its request, and what the rows of a queue hold is what stands in its places.
use Prim.Native.Nat.{ℕ, ◌+◌, ◌*◌, ◌/◌, ◌%◌, ◌≤◌, ◌<◌, min}
use mathlib.Core.Path.{◌≡◌, sym, ap, ◌∙◌}
use mathlib.Core.List.{List, ◌++◌}
use lib.ListN.{length, get_or, set, take, drop, length-map, length-take, get_or-map}
use borrow.Rule.Slice.PartMut.{put_mid}
use Rattle.std.proofs.Common.{arith}
use Rattle.std.proofs.lemmas.List.{map-append, map-set, take-append-le, take-map, drop-map, take_min, take_more, take_more_set}
use Rattle.rules.specs.declared.Pending.{Pending}
use Rattle.queue.specs.Row.{row_of, pending_of}
use Rattle.queue.specs.Queue.{places_in, waiting}

-- four numbers in one word
module _ (k g p v : ℕ) (hk : k < 256) (hg : g < 256) (hp : p < 256) (hv : v < 65536) where
  abbrev word : ℕ
  word = k + 256 * g + 65536 * (p + 256 * v)

  word-kind : word % 256 ≡ k
  word-kind = omega arith

  word-group : word / 256 % 256 ≡ g
  word-group = omega arith

  word-process : word / 65536 % 256 ≡ p
  word-process = omega arith

  word-variable : word / 16777216 % 65536 ≡ v
  word-variable = omega arith

pub row_back : (p : Pending) → p.request.kind < 256 → p.request.group < 256 → p.request.process < 256 → p.request.variable < 65536
    → p.request.value < 4294967296 → pending_of (row_of p) ≡ p
unfolding pending_of
row_back p hk hg hp hv hx =
    let r = p.request in
    let a = word-kind r.kind r.group r.process r.variable hk hg hp hv in
    let b = word-group r.kind r.group r.process r.variable hk hg hp hv in
    let c = word-process r.kind r.group r.process r.variable hk hg hp hv in
    let d = word-variable r.kind r.group r.process r.variable hk hg hp hv in
    let e : r.value % 4294967296 ≡ r.value = omega arith in
    rw (a, b, c, d, e)

-- ── the places that rows stand for ──

module _ (rows : List (List ℕ)) where
  pub places-length : length (places_in rows) ≡ length rows
  places-length = length-map rows pending_of

  -- a row holds what stands at its place; past the last there is a free one
  pub place_at : (i : ℕ) (d : List ℕ) → pending_of (get_or rows i d) ≡ get_or (places_in rows) i (pending_of d)
  place_at i d = sym (get_or-map pending_of rows i d)

  pub place_set : (i : ℕ) (row : List ℕ) → places_in (set rows i row) ≡ set (places_in rows) i (pending_of row)
  place_set i row = map-set pending_of rows i row

  -- a part of the rows is that part of the places
  pub places-part : (from size : ℕ) → places_in (take size (drop from rows)) ≡ take size (drop from (places_in rows))
  places-part from size = rw (← take-map pending_of size (drop from rows), ← drop-map pending_of from rows)

  pub waiting-length : (count : ℕ) → length (waiting rows count) ≡ min count (length rows)
  waiting-length count = rw (← places-length) (length-take count (places_in rows))

  -- rows that come back in the place of others
  pub places_put : (from size : ℕ) (part : List (List ℕ)) → places_in (put_mid from size rows part) ≡ put_mid from size (places_in rows) (places_in part)
  places_put from size part = rw (map-append pending_of (take from rows) (part ++ drop size (drop from rows)), map-append pending_of part (drop size (drop from rows)), ← take-map pending_of from rows, ← drop-map pending_of size (drop from rows), ← drop-map pending_of from rows)

-- one more element written from the front
pub written_next : {A : Type 0} (l m : List A) (i : ℕ) (x d : A) → i < length l → i < length m → take i l ≡ take i m → x ≡ get_or m i d
    → take (i + 1) (set l i x) ≡ take (i + 1) m
written_next l m i x d h k e f = take_more_set l i x h ∙ (rw (e, f) (sym (take_more m i d k)))

-- a slice of rows that are all pending, and the first of the rows
pub places-taken : (rows : List (List ℕ)) (n : ℕ) → places_in (take n rows) ≡ waiting rows n
places-taken rows n = sym (take-map pending_of n rows)

-- what waits in the front of the rows
pub waiting_front : (front rest : List (List ℕ)) (n : ℕ) → n ≤ length front → waiting (front ++ rest) n ≡ waiting front n
waiting_front front rest n h =
    sym (places-taken (front ++ rest) n) ∙ (ap places_in (take-append-le n front rest h) ∙ places-taken front n)

-- a count past the rows means all
pub waiting_most : (rows : List (List ℕ)) (count n : ℕ) → n ≡ length (waiting rows count) → waiting rows n ≡ waiting rows count
waiting_most rows count n e = rw (e, length-take count (places_in rows)) (take_min count (places_in rows))
