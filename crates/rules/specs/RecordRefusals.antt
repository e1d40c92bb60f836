-- The numbers of records, as rows: each limit and one past it; and for neighbouring questions a record that fails both, which gives
-- the first one's number.
use Rattle.std.specs.Prelude.{ℕ, ◌+◌, List, [], ◌∷◌, ◌++◌, map, take, drop, replicate}
use Rattle.question.specs.Question.{Answer}
use Rattle.layout.specs.Layout.{bytes_of}
use Rattle.record.specs.Record.{read_request, read_message, write_request, write_message}
use Rattle.record.specs.declared.request.Request.{Request}
use Rattle.record.specs.declared.message.Message.{Message}
use Rattle.rules.specs.Refusals.{Row, accepts, refuses}

-- ── reading, in a unit with k = 1 and N = 2: the fields of a record but its timestamp, in their order ──

abbrev bytes_with : ℕ → ℕ → ℕ → ℕ → ℕ → ℕ → ℕ → ℕ → List ℕ
bytes_with kind group process replica variable spare6 value spare20 = bytes_of (record {
  kind = kind;
  group = group;
  process = process;
  replica = replica;
  variable = variable;
  spare6 = spare6;
  timestamp = record { 0 = 10 };
  value = value;
  spare20 = spare20;
})

abbrev request : ℕ → ℕ → ℕ → ℕ → ℕ → ℕ → ℕ → ℕ → Answer Request
request kind group process replica variable spare6 value spare20 =
    read_request 1 2 (bytes_with kind group process replica variable spare6 value spare20)

abbrev message : ℕ → ℕ → ℕ → ℕ → ℕ → ℕ → ℕ → ℕ → Answer Message
message kind group process replica variable spare6 value spare20 =
    read_message 1 2 (bytes_with kind group process replica variable spare6 value spare20)

abbrev read_rows : List Row
read_rows =
    -- a read and a write, at the least and at the greatest
    accepts (request 1 1 1 0 0 0 0 0)
    ∷ accepts (request 1 2 2 0 255 0 0 0)
    ∷ accepts (request 2 1 1 0 1 0 0 0)
    ∷ accepts (request 2 2 2 0 255 0 9 0)
    -- kind; group; process; variable, and 0 in a write
    ∷ refuses 7 (request 0 1 1 0 4 0 0 0)
    ∷ refuses 7 (request 3 1 1 0 4 0 0 0)
    ∷ refuses 8 (request 1 0 1 0 4 0 0 0)
    ∷ refuses 8 (request 1 3 1 0 4 0 0 0)
    ∷ refuses 9 (request 1 1 0 0 4 0 0 0)
    ∷ refuses 9 (request 1 1 3 0 4 0 0 0)
    ∷ refuses 10 (request 1 1 1 0 256 0 0 0)
    ∷ refuses 10 (request 2 1 1 0 0 0 9 0)
    -- 1 before 2, 2 before 6, 6 before 7, 7 before 8, 8 before 9, 9 before 10, 10 before 21 and 22, 21 before 22
    ∷ refuses 1 (read_request 4 0 (replicate 24 0))
    ∷ refuses 2 (read_request 1 5 (replicate 23 0))
    ∷ refuses 6 (read_request 1 2 (replicate 23 0))
    ∷ refuses 6 (read_request 1 2 (replicate 25 0))
    ∷ refuses 7 (request 3 0 1 0 4 0 0 0)
    ∷ refuses 8 (request 1 3 0 0 4 0 0 0)
    ∷ refuses 9 (request 1 1 3 0 256 0 0 0)
    ∷ refuses 10 (request 1 1 1 0 256 1 0 0)
    ∷ refuses 10 (request 1 1 1 0 256 0 1 0)
    ∷ refuses 21 (request 1 1 1 1 4 0 1 0)
    ∷ refuses 21 (request 1 1 1 0 4 1 1 0)
    ∷ refuses 21 (request 1 1 1 0 4 0 1 1)
    -- a reply and a halt, at the least and at the greatest
    ∷ accepts (message 3 1 1 1 0 0 0 0)
    ∷ accepts (message 3 2 2 3 255 0 9 0)
    ∷ accepts (message 4 1 1 1 0 0 0 0)
    ∷ accepts (message 4 2 2 3 0 0 0 0)
    -- kind; group; process; replica; variable, and any but 0 in a halt
    ∷ refuses 7 (message 2 1 1 1 4 0 0 0)
    ∷ refuses 7 (message 5 1 1 1 4 0 0 0)
    ∷ refuses 8 (message 3 0 1 1 4 0 0 0)
    ∷ refuses 8 (message 3 3 1 1 4 0 0 0)
    ∷ refuses 9 (message 3 1 0 1 4 0 0 0)
    ∷ refuses 9 (message 3 1 3 1 4 0 0 0)
    ∷ refuses 5 (message 3 1 1 0 4 0 0 0)
    ∷ refuses 5 (message 3 1 1 4 4 0 0 0)
    ∷ refuses 10 (message 3 1 1 1 256 0 0 0)
    ∷ refuses 10 (message 4 1 1 1 1 0 0 0)
    -- 1 before 2, 2 before 6, 6 before 7, 7 before 8, 8 before 9, 9 before 5, 5 before 10, 10 before 21 and 22, 21 before 22
    ∷ refuses 1 (read_message 4 0 (replicate 24 0))
    ∷ refuses 2 (read_message 1 0 (replicate 23 0))
    ∷ refuses 6 (read_message 1 2 (replicate 23 0))
    ∷ refuses 7 (message 2 3 1 1 4 0 0 0)
    ∷ refuses 8 (message 3 3 3 1 4 0 0 0)
    ∷ refuses 9 (message 3 1 3 4 4 0 0 0)
    ∷ refuses 5 (message 3 1 1 4 256 0 0 0)
    ∷ refuses 10 (message 4 1 1 1 1 1 0 0)
    ∷ refuses 10 (message 4 1 1 1 1 0 1 0)
    ∷ refuses 21 (message 4 1 1 1 0 1 1 0)
    ∷ refuses 21 (message 4 1 1 1 0 0 1 1)
    ∷ []

-- ── reading, with one byte of a record that is accepted set to 1 ──

abbrev spoiled : List ℕ → ℕ → List ℕ
spoiled bytes place = take place bytes ++ (1 ∷ drop (place + 1) bytes)

abbrev spoiled_request : ℕ → ℕ → Answer Request
spoiled_request kind place = read_request 1 2 (spoiled (bytes_with kind 1 1 0 4 0 0 0) place)

abbrev spoiled_message : ℕ → ℕ → ℕ → Answer Message
spoiled_message kind variable place = read_message 1 2 (spoiled (bytes_with kind 1 1 1 variable 0 0 0) place)

-- the bytes of every record in which nothing stands; a request has nothing in byte 3 either
abbrev spare_bytes : List ℕ
spare_bytes = 6 ∷ 7 ∷ 20 ∷ 21 ∷ 22 ∷ 23 ∷ []

abbrev value_bytes : List ℕ
value_bytes = 16 ∷ 17 ∷ 18 ∷ 19 ∷ []

-- a read, a write, a reply, a halt
abbrev byte_rows : List Row
byte_rows =
    map (λ place. refuses 21 (spoiled_request 1 place)) (3 ∷ spare_bytes)
    ++ map (λ place. refuses 22 (spoiled_request 1 place)) value_bytes
    ++ map (λ place. refuses 21 (spoiled_request 2 place)) (3 ∷ spare_bytes)
    ++ map (λ place. accepts (spoiled_request 2 place)) value_bytes
    ++ map (λ place. refuses 21 (spoiled_message 3 4 place)) spare_bytes
    ++ map (λ place. accepts (spoiled_message 3 4 place)) value_bytes
    ++ map (λ place. refuses 21 (spoiled_message 4 0 place)) spare_bytes
    ++ map (λ place. refuses 22 (spoiled_message 4 0 place)) value_bytes

-- ── writing: the fields of a request or a message but its timestamp, and so many bytes of room ──

abbrev put_request : ℕ → ℕ → ℕ → ℕ → ℕ → ℕ → ℕ → ℕ → Answer (List ℕ)
put_request k n kind group process variable value room =
    write_request k n (record { kind = kind; group = group; process = process; variable = variable; timestamp = record { 0 = 10 }; value = value })
    (replicate room 0)

abbrev put_message : ℕ → ℕ → ℕ → ℕ → ℕ → ℕ → ℕ → ℕ → ℕ → Answer (List ℕ)
put_message k n kind group process replica variable value room =
    write_message k n (record { kind = kind; group = group; process = process; replica = replica; variable = variable; timestamp = record { 0 = 10 }; value = value })
    (replicate room 0)

abbrev write_rows : List Row
write_rows =
    accepts (put_request 1 2 1 2 2 255 0 24)
    -- 1 before 2, 2 before 7, 7 before 8, 8 before 9, 9 before 10, 10 before 22, 22 before 15, and 15
    ∷ refuses 1 (put_request 4 5 1 1 1 4 0 24)
    ∷ refuses 2 (put_request 1 5 3 1 1 4 0 24)
    ∷ refuses 7 (put_request 1 2 3 3 1 4 0 24)
    ∷ refuses 8 (put_request 1 2 1 3 3 4 0 24)
    ∷ refuses 9 (put_request 1 2 1 1 3 256 0 24)
    ∷ refuses 10 (put_request 1 2 1 1 1 256 9 24)
    ∷ refuses 22 (put_request 1 2 1 1 1 4 9 23)
    ∷ refuses 15 (put_request 1 2 2 1 1 4 9 23)
    ∷ accepts (put_message 1 2 3 2 2 3 255 9 24)
    -- the same, with 5 between 9 and 10
    ∷ refuses 1 (put_message 4 5 3 1 1 1 4 0 24)
    ∷ refuses 2 (put_message 1 5 2 1 1 1 4 0 24)
    ∷ refuses 7 (put_message 1 2 2 3 1 1 4 0 24)
    ∷ refuses 8 (put_message 1 2 3 3 3 1 4 0 24)
    ∷ refuses 9 (put_message 1 2 3 1 3 4 4 0 24)
    ∷ refuses 5 (put_message 1 2 3 1 1 4 256 0 24)
    ∷ refuses 10 (put_message 1 2 4 1 1 1 1 9 24)
    ∷ refuses 22 (put_message 1 2 4 1 1 1 0 9 23)
    ∷ refuses 15 (put_message 1 2 3 1 1 1 4 9 23)
    ∷ []

abbrev pub rows : List Row
rows = read_rows ++ (byte_rows ++ write_rows)
