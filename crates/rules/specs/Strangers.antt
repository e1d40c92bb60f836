-- Steps of replicas that no call makes, as rows: the answer counts the records that stand in the output, and no others are written.
use Rattle.std.specs.Prelude.{ℕ, ◌*◌, cond, List, [], ◌∷◌, map, eqb, drop, replicate}
use Rattle.limits.specs.Limits.{record_size, output_size}
use Rattle.question.specs.Question.{Answer, given, map_answer}
use Rattle.record.specs.declared.message.Message.{Message}
use Rattle.record.specs.declared.request.Request.{Request}
use Rattle.rules.specs.Batch.{new_store, reply_with}
use Rattle.rules.specs.Replica.{State, Stepped, step}
use Rattle.rules.specs.Run.{messages_in}
use Rattle.rules.specs.Sample.{wrote, asked}
use Rattle.rules.specs.declared.Settings.{Settings}

-- how many records it counts, the messages in them, and the bytes behind
pub record Seen : Type 0 where
  pub count : ℕ
  pub messages : List Message
  pub rest : List ℕ

pub record Row : Type 0 where
  pub settings : Settings
  pub number : ℕ
  pub requests : List Request
  pub messages : List Message
  pub expected : ℕ

-- group 1's queue holds the requests, which arrived at 100 and are all stable at 106
abbrev stranger : Row → State
stranger row = record {
  settings = row.settings;
  number = row.number;
  store = new_store;
  pending = λ group. map (λ r. record { request = r; arrival = record { 0 = 100 } }) (cond (eqb group 1) row.requests []);
  last = record { 0 = 100 };
}

abbrev look : Row → Stepped → Seen
look row d = record {
  count = d.count;
  messages = messages_in row.settings.k row.settings.groups d.count d.output;
  rest = drop (record_size * row.expected) d.output;
}

abbrev pub see : Row → Answer Seen
see row = map_answer (look row) (step (stranger row) (record { 0 = 106 }) (replicate output_size 170))

abbrev pub expect : Row → Answer Seen
expect row = given (record {
  count = row.expected;
  messages = row.messages;
  rest = drop (record_size * row.expected) (replicate output_size 170);
})

abbrev row : ℕ → ℕ → ℕ → List Request → List Message → ℕ → Row
row k n number requests messages expected =
    record { settings = record { k = k; groups = n; owner = 1; delta = 5 }; number = number; requests = requests; messages = messages; expected = expected }

abbrev pub rows : List Row
rows =
    -- k of 200: 201 halts, of which none can be written
    row 200 2 1 (wrote 1 1 10 7 ∷ []) [] 0
    -- N of 5; a replica with the number 4 of 3
    ∷ row 1 5 1 (asked 1 1 10 4 ∷ []) [] 0
    ∷ row 1 2 4 (asked 1 1 10 4 ∷ []) [] 0
    -- no groups: none is visited
    ∷ row 1 0 1 (asked 1 1 10 4 ∷ []) [] 0
    -- a request of group 2 in group 1's queue counts as the owner's: it writes 7 with one of group 1. The read is answered to the group that it names
    ∷ row 1 2 1 (wrote 2 1 10 7 ∷ wrote 1 2 10 7 ∷ asked 2 1 20 4 ∷ []) (reply_with 7 1 (asked 2 1 20 4) ∷ []) 1
    -- k = 0 has no process 2: its reply leaves no gap
    ∷ row 0 2 1 (asked 1 2 10 4 ∷ asked 1 1 10 4 ∷ asked 1 2 20 4 ∷ asked 1 1 20 4 ∷ []) (reply_with 0 1 (asked 1 1 10 4) ∷ reply_with 0 1 (asked 1 1 20 4) ∷ []) 2
    ∷ []
