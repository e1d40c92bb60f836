-- Every replica that held a session has the register machine's figures. It is the third demand, of a unit in which the two other
-- replicas are fed the session in its order.
use Prim.Native.Nat.{ℕ, ◌≤◌, ◌<◌}
use mathlib.Core.Path.{◌≡◌, refl, sym, ap, subst, ◌∙◌}
use mathlib.Core.Bool.{Bool, false, cond}
use mathlib.Core.List.{List}
use native.Mathlib.Omega.{arith}
use lib.Dec.{eqb}
use borrow.Author.Tests.{eqb-true, eq-eqb, leb-true}
use Rattle.limits.specs.Limits.{max_delta}
use Rattle.question.specs.Question.{given, unit_questions}
use Rattle.question.proofs.Questions.{ask-all_yes}
use Rattle.question.proofs.Tests.{case}
use Rattle.rules.specs.Replica.{new_state, make_questions, make}
use Rattle.rules.specs.Run.{Call, Ran}
use Rattle.laws.proofs.Accepted.{make-made}
use Rattle.failstop.specs.Suppose.{Account, Correct, Orderly, Supposed}
use Rattle.failstop.specs.Runs.{AllRan, account, account_of}
use Rattle.failstop.proofs.Demand3.{demand3}
use Rattle.state.specs.State.{state_of}
use Rattle.unit.specs.Life.{Life}
use Rattle.unit.proofs.Accounts.{calls_of, life_ran, life_account_lem}
use Rattle.unit.proofs.Lives.{life_of, life_lived, life_account_is}
use Rattle.session.specs.Session.{unit, session, figures_in, figures_of}
use Rattle.session.specs.Held.{Held}
use Rattle.session.proofs.Fed.{session_calls, fed_ran, fed_orderly}

-- no replica is faulty
abbrev pub none : ℕ → Bool
none i = false

-- a replica is made only with a δ within its limit
made-delta : (delta number : ℕ) → make (unit delta) number ≡ given (new_state (unit delta) number) → delta ≤ max_delta
unfolding unit_questions make
made-delta delta number e =
    let all = ask-all_yes (make_questions (unit delta) number) (given (new_state (unit delta) number)) e in
    leb-true delta max_delta all.1.1.1.0

-- ── a replica of the rules ──

module _ (delta number place : ℕ) (small : place < 256) (own : List Call) (mine : Ran (unit delta) number own)
    (orderly : Orderly (unit delta) (session place) (account (unit delta) number own)) where
  -- its own calls, and the others'
  abbrev calls : ℕ → List Call
  calls i = cond (eqb i number) own (session_calls delta place)

  short : delta ≤ max_delta
  short = made-delta delta number mine.made

  ran : AllRan (unit delta) none calls
  ran i ok = case (eqb i number)
      (λ e. rw (e, eqb-true i number e) mine)
      (λ e. rw e (fed_ran delta i place short ok.low ok.high small))

  supposed : Supposed (unit delta) none (account_of (unit delta) calls) (session place)
  supposed = record {
    few = omega arith;
    orderly = λ i ok. case (eqb i number)
        (λ e. rw (e, eqb-true i number e) orderly)
        (λ e. rw e (fed_orderly delta i place short small));
  }

  pub run_reaches : figures_in (account (unit delta) number own).store ≡ figures_of place
  unfolding figures_of
  run_reaches =
      let ours = make-made (unit delta) number mine.made in
      let ok : Correct (unit delta) none number = record { low = ours.number-low; high = ours.number-high; faultless = refl } in
      rw (eq-eqb number number refl) at (ap figures_in ((demand3 (unit delta) none calls (session place) ran supposed).holds number ok))

-- ── a replica of the code ──

pub session_reaches : (delta number place : ℕ) (l : Life) → place < 256 → Held delta number place l → figures_in (state_of l.last).store ≡ figures_of place
session_reaches delta number place l small held =
    let u = unit delta in
    let same = life_account_lem u number l held.lived in
    ap (λ (a : Account). figures_in a.store) same
    ∙ run_reaches delta number place small (calls_of l.events) (life_ran u number l held.lived)
    (subst (Orderly u (session place)) same held.orderly)

-- ── there are such replicas ──

-- every run of the rules that is orderly is one
pub run-held : (delta number place : ℕ) (calls : List Call) → Ran (unit delta) number calls
    → Orderly (unit delta) (session place) (account (unit delta) number calls) → Held delta number place (life_of (unit delta) number calls)
run-held delta number place calls ran orderly =
    let u = unit delta in
    record {
      lived = life_lived u number calls ran;
      orderly = subst (Orderly u (session place)) (sym (life_account_is u number calls ran)) orderly;
    }

-- of each number, for each session
pub fed_held : (delta number place : ℕ) → delta ≤ max_delta → 1 ≤ number → number ≤ 3 → place < 256
    → Held delta number place (life_of (unit delta) number (session_calls delta place))
fed_held delta number place short low high small =
    run-held delta number place (session_calls delta place) (fed_ran delta number place short low high small)
    (fed_orderly delta number place short small)
