-- The numbers of making, of delivery and of a step, as rows: each limit and one past it; and for neighbouring questions a call that
-- fails both, which gives the first one's number.
use Rattle.std.specs.Prelude.{ℕ, ◌+◌, ◌^◌, cond, List, [], ◌∷◌, ◌++◌, eqb, replicate}
use Rattle.question.specs.Question.{Answer, given, refused, Worked, worked, after, bind, verdict}
use Rattle.record.specs.Kind.{read}
use Rattle.layout.specs.Layout.{bytes_of}
use Rattle.record.specs.Record.{request_fields}
use Rattle.record.specs.declared.request.Request.{Request}
use Rattle.rules.specs.Batch.{new_store}
use Rattle.rules.specs.Replica.{State, Stepped, make, deliver, step}
use Rattle.rules.specs.Sample.{settings, asked}

pub record Row : Type 0 where
  pub answer : Answer Worked
  pub expected : Answer Worked

abbrev pub accepts : {A : Type 0} → Answer A → Row
accepts answer = record { answer = verdict answer; expected = given worked }

abbrev pub refuses : {A : Type 0} → ℕ → Answer A → Row
refuses number answer = record { answer = verdict answer; expected = refused number }

-- ── making: k, N, owner, δ; the replica's number ──

abbrev made : ℕ → ℕ → ℕ → ℕ → ℕ → Answer State
made k n owner delta number = make (record { k = k; groups = n; owner = owner; delta = delta }) number

abbrev make_rows : List Row
make_rows =
    -- all at their least, and at their greatest
    accepts (made 0 1 1 0 1)
    ∷ accepts (made 3 4 4 1000000 7)
    -- k; N; owner; δ; number
    ∷ refuses 1 (made 4 4 4 1000000 7)
    ∷ refuses 2 (made 3 0 1 0 1)
    ∷ refuses 2 (made 3 5 1 0 1)
    ∷ refuses 3 (made 1 2 0 5 1)
    ∷ refuses 3 (made 1 2 3 5 1)
    ∷ refuses 4 (made 1 2 1 1000001 1)
    ∷ refuses 5 (made 1 2 1 5 0)
    ∷ accepts (made 1 2 1 5 3)
    ∷ refuses 5 (made 1 2 1 5 4)
    -- 1 before 2, 2 before 3, 3 before 4, 4 before 5
    ∷ refuses 1 (made 4 5 1 5 1)
    ∷ refuses 2 (made 1 0 1 5 1)
    ∷ refuses 3 (made 1 2 3 1000001 1)
    ∷ refuses 4 (made 1 2 1 1000001 4)
    ∷ []

-- ── delivery and step, of a replica with a last local time and so many pending requests of each group ──

abbrev replica : ℕ → (ℕ → ℕ) → State
replica last counts = record {
  settings = settings;
  number = 1;
  store = new_store;
  pending = λ group. replicate (counts group) (record { request = asked group 1 10 4; arrival = record { 0 = last } });
  last = record { 0 = last };
}

-- so many of group 1, and so many of each other group
abbrev waiting : ℕ → ℕ → ℕ → ℕ
waiting own others group = cond (eqb group 1) own others

abbrev idle : ℕ → State
idle last = replica last (waiting 0 0)

-- a read that fails question 22 alone
abbrev valued : Request
valued = record { kind = read; group = 1; process = 1; variable = 4; timestamp = record { 0 = 10 }; value = 9 }

-- of the bytes of a request, at a local time
abbrev handed : State → Request → ℕ → Answer State
handed s r now = deliver s (bytes_of (request_fields r)) (record { 0 = now })

-- of a read of group 1, or of another
abbrev delivered : ℕ → ℕ → Answer State
delivered last now = handed (idle last) (asked 1 1 10 4) now

abbrev sent : ℕ → ℕ → ℕ → Answer State
sent own others group = handed (replica 100 (waiting own others)) (asked group 1 10 4) 100

abbrev turned : ℕ → ℕ → ℕ → Answer Stepped
turned last now room = step (idle last) (record { 0 = now }) (replicate room 0)

abbrev call_rows : List Row
call_rows =
    -- the earliest and the latest local time; the last one again
    accepts (delivered 0 0)
    ∷ accepts (delivered 0 (2 ^ 62))
    ∷ refuses 12 (delivered 0 (2 ^ 62 + 1))
    ∷ accepts (delivered 100 100)
    ∷ refuses 13 (delivered 100 99)
    -- places for 16 of the sender's group, whatever the others have
    ∷ accepts (sent 15 0 1)
    ∷ refuses 14 (sent 16 0 1)
    ∷ accepts (sent 15 16 1)
    ∷ accepts (sent 0 16 1)
    ∷ accepts (sent 16 15 2)
    ∷ refuses 14 (sent 0 16 2)
    -- a step at 106 frees them
    ∷ accepts (bind (step (replica 100 (waiting 16 0)) (record { 0 = 106 }) (replicate 1608 0)) (λ d. handed d.state (asked 1 1 10 4) 106))
    ∷ refuses 14 (bind (step (replica 100 (waiting 16 0)) (record { 0 = 105 }) (replicate 1608 0)) (λ d. handed d.state (asked 1 1 10 4) 105))
    -- the request questions, with the replica's own N and k
    ∷ refuses 8 (handed (idle 0) (asked 3 1 10 4) 100)
    ∷ refuses 9 (handed (idle 0) (asked 1 3 10 4) 100)
    -- and they come before 12, 12 before 13, 13 before 14
    ∷ refuses 22 (handed (idle 0) valued (2 ^ 62 + 1))
    ∷ refuses 12 (delivered (2 ^ 62 + 2) (2 ^ 62 + 1))
    ∷ refuses 13 (handed (replica 100 (waiting 16 0)) (asked 1 1 10 4) 99)
    -- the same of a step; room for 67 records
    ∷ accepts (turned 0 0 1608)
    ∷ accepts (turned 0 (2 ^ 62) 1608)
    ∷ refuses 12 (turned 0 (2 ^ 62 + 1) 1608)
    ∷ accepts (turned 100 100 1608)
    ∷ refuses 13 (turned 100 99 1608)
    ∷ refuses 15 (turned 100 100 1607)
    -- 12 before 13, 13 before 15
    ∷ refuses 12 (turned (2 ^ 62 + 2) (2 ^ 62 + 1) 1608)
    ∷ refuses 13 (turned 100 99 1607)
    -- a delivery and a step leave their local time as the last one, a refused call does not
    ∷ refuses 13 (bind (delivered 0 100) (λ s. handed s (asked 1 1 10 4) 99))
    ∷ refuses 13 (bind (turned 0 100 1608) (λ d. handed d.state (asked 1 1 10 4) 99))
    ∷ accepts (handed (after (idle 0) (handed (idle 0) (asked 3 1 10 4) 100)) (asked 1 1 10 4) 99)
    ∷ []

abbrev pub rows : List Row
rows = make_rows ++ call_rows
