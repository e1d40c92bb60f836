-- Guests leave the owner untouched, of the code; and on the two runs of crates/rules, as lives of the code.
use mathlib.Core.Path.{◌≡◌, sym, ◌∙◌, ap, subst}
use mathlib.Core.List.{List}
use lib.ListN.{get_or}
use Rattle.rules.specs.Run.{Exchange}
use Rattle.rules.specs.TwoRuns.{three, quiet, loud, Seen, seen, untouched}
use Rattle.rules.specs.declared.Settings.{Settings}
use Rattle.rules.proofs.TwoRuns.{two-runs_hold}
use Rattle.isolation.specs.Isolation.{Supposed}
use Rattle.isolation.proofs.Isolation.{isolation}
use Rattle.isolation.proofs.TwoRuns.{quiet-ran, loud-ran, pair-supposed}
use Rattle.unit.specs.Isolation.{view_in, IsolationOfCode}
use Rattle.unit.proofs.Accounts.{calls_of, life_ran, life_past, life_view}
use Rattle.unit.proofs.Lives.{life_of, life_lived, life_past_is, life_view_is}

passed_same : (u : Settings) {a b c d : List Exchange} → a ≡ c → b ≡ d → Supposed u a b → Supposed u c d
passed_same u {b = b} {c = c} p q h = subst (Supposed u c) q (subst (λ (past : List Exchange). Supposed u past b) p h)

pub isolation_of_code : IsolationOfCode
isolation_of_code u number a b x y h =
    life_view u number a x
    ∙ (isolation u number (calls_of a.events) (calls_of b.events) (life_ran u number a x) (life_ran u number b y)
    (passed_same u (life_past u number a x) (life_past u number b y) h)
    ∙ sym (life_view u number b y))

-- ── the quiet run and the loud one ──

pub pair_of_code : view_in three (life_of three 1 quiet) ≡ view_in three (life_of three 1 loud)
pair_of_code =
    isolation_of_code three 1 (life_of three 1 quiet) (life_of three 1 loud) (life_lived three 1 quiet quiet-ran) (life_lived three 1 loud loud-ran)
    (passed_same three (sym (life_past_is three 1 quiet quiet-ran)) (sym (life_past_is three 1 loud loud-ran)) pair-supposed)

-- and what it is
pub code_untouched : seen (view_in three (life_of three 1 loud)) ≡ untouched
code_untouched = ap seen (life_view_is three 1 loud loud-ran) ∙ ap (λ (l : List Seen). get_or l 1 untouched) two-runs_hold
