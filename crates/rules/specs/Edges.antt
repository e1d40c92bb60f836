-- What the twelve examples leave open, as rows: runs at the edges of the rules. Replica and machine share the rules of a batch, so
-- that the third demand holds of a wrong one too, and figures must show it.
use Rattle.std.specs.Prelude.{ℕ, ◌-◌, ◌^◌, List, [], ◌∷◌, ◌++◌, map, replicate}
use Rattle.question.specs.Question.{Answer, given, map_answer}
use Rattle.record.specs.declared.message.Message.{Message}
use Rattle.rules.specs.Lists.{up_to}
use Rattle.rules.specs.Batch.{Store, value_of}
use Rattle.rules.specs.Replica.{State, make, requests_of}
use Rattle.rules.specs.Run.{Call, run, exchanges, arrivals}
use Rattle.rules.specs.Machine.{machine, signed_by}
use Rattle.rules.specs.Sample.{settings, wrote_to, asked, deliver_at, step_at}
use Rattle.rules.specs.declared.Settings.{Settings}

-- ── what is seen ──

-- of a store: the values of some variables, and the writes performed
pub record Held : Type 0 where
  pub values : List ℕ
  pub writes : ℕ

abbrev held : List ℕ → Store → Held
held variables s = record { values = map (λ v. value_of v s) variables; writes = s.writes }

-- what replica 1 holds after its calls and what it sent; what the machine holds, and its messages as replica 1 sends them
pub record Seen : Type 0 where
  pub copy : Held
  pub sent : List Message
  pub machine : Held
  pub said : List Message

pub record Row : Type 0 where
  pub settings : Settings
  pub calls : List Call
  pub variables : List ℕ
  pub expected : Answer Seen

abbrev look : Row → State → Seen
look row s =
    let done = run s row.calls in
    let ideal = machine row.settings.k row.settings.owner (requests_of (arrivals row.settings (exchanges s row.calls))) in
    record {
      copy = held row.variables done.state.store;
      sent = done.sent;
      machine = held row.variables ideal.state;
      said = map (signed_by 1) ideal.sent;
    }

-- the replica is made, as a run begins
abbrev pub see : Row → Answer Seen
see row = map_answer (look row) (make row.settings 1)

-- ── what is done ──

-- processes 1 to n of a group write a value to a variable at a timestamp
abbrev together : ℕ → ℕ → ℕ → ℕ → ℕ → List Call
together n group t variable value = map (λ process. deliver_at 100 (wrote_to variable group process t value)) (up_to n)

abbrev both : ℕ → ℕ → ℕ → List Call
both t variable value = together 2 1 t variable value

-- a process of a group reads a variable at a timestamp
abbrev reads : ℕ → ℕ → ℕ → ℕ → List Call
reads group process t variable = deliver_at 100 (asked group process t variable) ∷ []

-- the reply of replica 1 with a value, and its halts to some processes, in figures
abbrev told : ℕ → ℕ → ℕ → ℕ → ℕ → Message
told group process t variable value =
    record { kind = 3; group = group; process = process; replica = 1; variable = variable; timestamp = record { 0 = t }; value = value }

abbrev stops : ℕ → ℕ → List ℕ → List Message
stops group t processes =
    map (λ process. record { kind = 4; group = group; process = process; replica = 1; variable = 0; timestamp = record { 0 = t }; value = 0 }) processes

-- the greatest number of so many bits
abbrev most : ℕ → ℕ
most bits = 2 ^ bits - 1

-- a step that finds all of it stable
abbrev handled : List Call → List Call
handled calls = calls ++ (step_at 106 ∷ [])

-- ── the rows: calls; variables and their values; writes; the messages sent to the owner, and to guests after them ──

abbrev row : Settings → List Call → List ℕ → List ℕ → ℕ → List Message → List Message → Row
row u calls variables values writes owners guests =
    let h : Held = record { values = values; writes = writes } in
    record {
      settings = u;
      calls = handled calls;
      variables = variables;
      expected = given (record { copy = h; sent = owners ++ guests; machine = h; said = owners });
    }

-- with another k
abbrev unit : ℕ → Settings
unit k = record { k = k; groups = 2; owner = 1; delta = 5 }

-- with group 2 for the owner
abbrev second : Settings
second = record { k = 1; groups = 2; owner = 2; delta = 5 }

abbrev pub rows : List Row
rows =
    -- six writes, with 7 and 9 written twice and 0 over each: a write of what is held counts, a write of 0 is a write
    row settings
    (both 10 4 7 ++ both 20 4 7 ++ reads 1 1 21 4 ++ both 30 4 0 ++ reads 1 1 31 4 ++ both 40 4 9 ++ both 50 4 9 ++ reads 1 1 51 4 ++ both 60 4 0)
    (0 ∷ 4 ∷ []) (0 ∷ 0 ∷ []) 6 (told 1 1 21 4 7 ∷ told 1 1 31 4 0 ∷ told 1 1 51 4 9 ∷ []) []
    -- the first write of all, of the 0 that is there
    ∷ row settings (both 10 4 0) (0 ∷ 4 ∷ []) (0 ∷ 0 ∷ []) 1 [] []
    -- the last variable, and the one before it
    ∷ row settings (both 10 255 6 ++ reads 1 1 20 255 ++ reads 1 2 20 254) (254 ∷ 255 ∷ []) (0 ∷ 6 ∷ []) 1 (told 1 1 20 255 6 ∷ told 1 2 20 254 0 ∷ []) []
    -- the first variable that is written, the greatest value, the greatest timestamp
    ∷ row settings (both 10 1 (most 32) ++ reads 1 1 (most 64) 1) (0 ∷ 1 ∷ 2 ∷ []) (0 ∷ most 32 ∷ 0 ∷ []) 1 (told 1 1 (most 64) 1 (most 32) ∷ []) []
    -- a freeze keeps what was written; after it the reads of owner and guest are answered, two of a batch in order of arrival
    ∷ row settings
    (both 10 4 7 ++ both 20 5 8 ++ reads 2 2 5 4 ++ reads 2 1 5 0 ++ together 1 1 30 4 9 ++ both 40 4 9 ++ reads 1 2 50 4 ++ reads 1 1 50 0)
    (0 ∷ 4 ∷ 5 ∷ []) (1 ∷ 7 ∷ 8 ∷ []) 2 (stops 1 30 (1 ∷ 2 ∷ []) ++ (told 1 2 50 4 7 ∷ told 1 1 50 0 1 ∷ [])) (told 2 2 5 4 7 ∷ told 2 1 5 0 1 ∷ [])
    -- writes alike but for the variable
    ∷ row settings (together 1 1 10 4 7 ++ (deliver_at 100 (wrote_to 5 1 2 10 7) ∷ [])) (0 ∷ 4 ∷ 5 ∷ []) (1 ∷ 0 ∷ 0 ∷ []) 0 (stops 1 10 (1 ∷ 2 ∷ [])) []
    -- a write of 0 and a read, alike but for the kind
    ∷ row settings (together 1 1 10 4 0 ++ reads 1 2 10 4) (0 ∷ 4 ∷ []) (1 ∷ 0 ∷ []) 0 (stops 1 10 (1 ∷ 2 ∷ [])) []
    -- a guest's dissent, with the timestamp of a write of the owner's
    ∷ row settings (together 1 2 10 4 9 ++ both 10 4 7) (0 ∷ 4 ∷ []) (0 ∷ 7 ∷ []) 1 [] []
    -- one write again, refused for its local time: it has not arrived, neither here nor at the machine
    ∷ row settings (both 10 4 7 ++ (deliver_at 99 (wrote_to 4 1 1 10 7) ∷ [])) (0 ∷ 4 ∷ []) (0 ∷ 7 ∷ []) 1 [] []
    -- group 2 is the owner, and group 1 a guest; the owner's halts
    ∷ row second (together 2 1 5 4 9 ++ together 2 2 10 4 7 ++ reads 2 1 20 4 ++ together 1 2 30 4 8) (0 ∷ 4 ∷ []) (1 ∷ 7 ∷ []) 1 (told 2 1 20 4 7 ∷ stops 2 30 (1 ∷ 2 ∷ [])) []
    -- one process of one; four of four; three of four
    ∷ row (unit 0) (together 1 1 10 4 7) (0 ∷ 4 ∷ []) (0 ∷ 7 ∷ []) 1 [] []
    ∷ row (unit 3) (together 4 1 10 4 7) (0 ∷ 4 ∷ []) (0 ∷ 7 ∷ []) 1 [] []
    ∷ row (unit 3) (together 3 1 10 4 7) (0 ∷ 4 ∷ []) (1 ∷ 0 ∷ []) 0 (stops 1 10 (1 ∷ 2 ∷ 3 ∷ 4 ∷ [])) []
    -- nothing arrived: every variable is 0
    ∷ row settings [] (0 ∷ up_to 255) (replicate 256 0) 0 [] []
    ∷ []
