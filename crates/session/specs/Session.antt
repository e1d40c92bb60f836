-- Document 02, A1: the 256 small sessions, and the figures that the register machine leaves of each.
use Rattle.std.specs.Prelude.{ℕ, zero, suc, ◌+◌, ◌/◌, ◌%◌, cond, List, [], ◌∷◌, ◌++◌, eqb, get_or}
use Rattle.record.specs.declared.request.Request.{Request}
use Rattle.rules.specs.Batch.{Store, value_of}
use Rattle.rules.specs.Machine.{machine}
use Rattle.rules.specs.Sample.{asked, wrote_to}
use Rattle.rules.specs.declared.Settings.{Settings}
use Rattle.session.specs.declared.Figures.{Figures}

-- k = 1, one group, owner 1
abbrev pub unit : ℕ → Settings
unit delta = record { k = 1; groups = 1; owner = 1; delta = delta }

-- ── the session of a place ──

-- what a process sends at a timestamp, by its choice: 0 nothing, 1 a read of variable 1, 2 a write of 1 to it, 3 a write of 2
abbrev pub requests_for : ℕ → ℕ → ℕ → List Request
requests_for process t choice =
    cond (eqb choice 1) (asked 1 process t 1 ∷ [])
    (cond (eqb choice 2) (wrote_to 1 1 process t 1 ∷ [])
    (cond (eqb choice 3) (wrote_to 1 1 process t 2 ∷ [])
    []))

-- the four digits of a place in base 4, the leftmost heaviest
abbrev pub choices : ℕ → List ℕ
choices place = place / 64 % 4 ∷ place / 16 % 4 ∷ place / 4 % 4 ∷ place % 4 ∷ []

-- process 1, then process 2 at timestamp 1, then the same at timestamp 2
abbrev pub session : ℕ → List Request
session place =
    requests_for 1 1 (get_or (choices place) 0 0)
    ++ (requests_for 2 1 (get_or (choices place) 1 0)
    ++ (requests_for 1 2 (get_or (choices place) 2 0)
    ++ requests_for 2 2 (get_or (choices place) 3 0)))

-- numbers from a start on, so many
abbrev pub count_up : ℕ → ℕ → List ℕ
count_up start zero = []
count_up start (suc n) = start ∷ count_up (start + 1) n

-- 0 to 255
abbrev pub all_places : List ℕ
all_places = count_up 0 256

-- ── the figures ──

-- the failed mark, variable 1 and the writes performed
abbrev pub figures_in : Store → Figures
figures_in s = record { failed = value_of 0 s; value = value_of 1 s; writes = s.writes }

-- as the register machine leaves them
unfoldable pub figures_of : ℕ → Figures
figures_of place = figures_in (machine 1 1 (session place)).state
