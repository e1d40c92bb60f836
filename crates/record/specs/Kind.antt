-- The kinds of records, a row for each: what a record of the kind is for, and what it may carry. Document 01, "Records", byte 0.
use Rattle.std.specs.Prelude.{ℕ, Bool, true, false, cond, ◌&&◌, eqb}
use Rattle.question.specs.Question.{within}
use Rattle.record.specs.declared.kind.Family.{Family}
use Rattle.record.specs.declared.kind.Family.TheVariants.{Requests, Messages, Neither}
use Rattle.record.specs.declared.kind.Row.{Row}
use Rattle.record.specs.declared.request.Request.{Request}

abbrev pub read : ℕ
read = 1

abbrev pub write : ℕ
write = 2

abbrev pub reply : ℕ
reply = 3

abbrev pub halt : ℕ
halt = 4

-- ── the family: 1–2 are requests, 3–4 messages ──

abbrev pub family_of : ℕ → Family
family_of kind = cond (within read write kind) Requests (cond (within reply halt kind) Messages Neither)

-- a number for each family, to tell them apart by
abbrev pub family_number : Family → ℕ
family_number Neither = 0
family_number Requests = 1
family_number Messages = 2

abbrev pub is_of : Family → ℕ → Bool
is_of family kind = eqb (family_number (family_of kind)) (family_number family)

-- ── the rows ──

-- the least and the greatest variable; whether the value, bytes 6–7 and bytes 20–23 may be other than zero
abbrev pub row : ℕ → ℕ → Bool → Bool → Bool → Row
row least greatest value bytes6 bytes20 =
    record { least = least; greatest = greatest; value = value; bytes6 = bytes6; bytes20 = bytes20 }

-- a write is never to variable 0, a halt is always of it; a kind that is none carries nothing
abbrev pub row_of : ℕ → Row
row_of kind =
    cond (eqb kind read) (row 0 255 false false false)
    (cond (eqb kind write) (row 1 255 true false false)
    (cond (eqb kind reply) (row 0 255 true false false)
    (cond (eqb kind halt) (row 0 0 false false false)
    (row 0 0 false false false))))

-- ── what a request asks for ──

abbrev pub is_read : Request → Bool
is_read r = eqb r.kind read

abbrev pub is_write : Request → Bool
is_write r = eqb r.kind write

-- two writes are the same: equal in variable and value
abbrev pub same_write : Request → Request → Bool
same_write r q = eqb r.variable q.variable && eqb r.value q.value
