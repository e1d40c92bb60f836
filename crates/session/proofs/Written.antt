-- The records of a session are written: each of its requests passes the request questions. Assumes nothing.
use Prim.Native.Nat.{ℕ, ◌≤◌}
use mathlib.Core.Path.{◌≡◌}
use mathlib.Core.List.{append-nil}
use lib.ListN.{replicate}
use borrow.Author.Tests.{le-leb}
use Rattle.limits.specs.Limits.{record_size}
use Rattle.question.specs.Question.{given, ask, unit_questions}
use Rattle.layout.specs.Layout.{bytes_of}
use Rattle.record.specs.Record.{request_fields, field_questions, write_fields, write_request}
use Rattle.record.specs.declared.request.Request.{Request}
use Rattle.rules.specs.Sample.{asked, wrote_to}

abbrev pub Writes : Request → Type 0
Writes q = write_request 1 1 q (replicate record_size 0) ≡ given (bytes_of (request_fields q))

module _ (process t : ℕ) (low : 1 ≤ process) (high : process ≤ 2) where
  pub read-written : Writes (asked 1 process t 1)
  unfolding ask unit_questions field_questions write_fields
  read-written = rw (le-leb 1 process low, le-leb process 2 high, append-nil (bytes_of (request_fields (asked 1 process t 1))))

  pub write-written : (value : ℕ) → Writes (wrote_to 1 1 process t value)
  unfolding ask unit_questions field_questions write_fields
  write-written value = rw (le-leb 1 process low, le-leb process 2 high, append-nil (bytes_of (request_fields (wrote_to 1 1 process t value))))
