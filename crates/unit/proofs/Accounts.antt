-- A life of the code is a run of the rules on the same calls: the same passes in it, and it leaves the same.
use Prim.Native.Nat.{ℕ}
use mathlib.Core.Path.{◌≡◌, refl, sym, ap, subst, ◌∙◌}
use mathlib.Core.Logic.{⊎_elim}
use mathlib.Core.List.Memᴰ
use mathlib.Core.List.{List, map, Memᴰ}
use Rattle.question.specs.Question.{Answer, given, refused, after, map_answer}
use Rattle.std.specs.Prelude.{Result}
use Rattle.question.specs.declared.refusal.Refusal.{Refusal}
use Rattle.question.specs.Refusals.{answer_of}
use Rattle.layout.specs.declared.clock.LocalTime.{LocalTime}
use Rattle.question.proofs.Questions.{ask_through, same_given}
use Rattle.rules.specs.Replica.{State, Stepped, new_state, make_questions, make, step}
use Rattle.rules.specs.Run.{Call, delivery, turn, LentTo, Lent, messages_in, call, run, exchange, exchanges, Ran}
use Rattle.rules.specs.Run as rules
use Rattle.rules.specs.Owner.{view, owner_view}
use Rattle.rules.specs.declared.Settings.{Settings}
use Rattle.state.specs.State.{state_of}
use Rattle.state.specs.declared.state.Replica.{Replica}
use Rattle.failstop.specs.Runs.{account}
use Rattle.state.proofs.Called.{makes_mean}
use Rattle.delivery.proofs.Called.{delivers_mean}
use Rattle.step.proofs.Called.{steps_mean}
use Rattle.laws.proofs.Calls.{call-settings}
use Rattle.unit.specs.Life.{Life, Lived, Event, delivered, stepped, Does, delivers, steps, Runs, start, then, exchange_in, past_in}
use Rattle.unit.specs.Unit.{life_account}
use Rattle.unit.specs.Isolation.{view_in}

-- the call without its answer
abbrev pub call_of : Event → Call
call_of (delivered bytes at outcome) = delivery bytes at
call_of (stepped at output answer output') = turn at output

-- ── one call ──

-- a call of the code leaves what the rules' call leaves, and the same passes in it
record Tells (u : Settings) (s t : State) (e : Event) : Type 0 where
  state : t ≡ (call s (call_of e)).state
  passed : exchange_in u e ≡ exchange s (call_of e)

-- a step: its messages are those that stand in the output
step_tells : (u : Settings) (s : State) → s.settings ≡ u → (at : LocalTime) (output output' : List ℕ) (answer : Result ℕ Refusal) (t : State)
    (a : Answer Stepped) → step s at output ≡ a → answer_of answer ≡ map_answer (λ d. d.count) a
    → t ≡ after s (map_answer (λ d. d.state) a) → output' ≡ after output (map_answer (λ d. d.output) a) → Tells u s t (stepped at output answer output')
unfolding call
step_tells u s settings at output output' answer t (given d) e told state content = record {
  state = rw e state;
  passed =
      ap (λ (x : Answer ℕ). rules.turned at (map_answer (λ count. messages_in u.k u.groups count output') x)) told
      ∙ rw (e, content, settings);
}
step_tells u s settings at output output' answer t (refused q) e told state content = record {
  state = rw e state;
  passed = ap (λ (x : Answer ℕ). rules.turned at (map_answer (λ count. messages_in u.k u.groups count output') x)) told ∙ rw e;
}

does_tell : (u : Settings) {r r' : Replica} {e : Event} → (state_of r).settings ≡ u → Does r r' e → Tells u (state_of r) (state_of r') e
unfolding call
does_tell u {r} {r'} settings (delivers {bytes} {at} lent c) =
    let m = delivers_mean c in
    record { state = m.state; passed = ap (rules.delivered bytes at) m.answer }
does_tell u {r} {r'} settings (steps {at} {output} {output'} {answer} c) =
    let m = steps_mean c in
    step_tells u (state_of r) settings at output output' answer (state_of r') (step (state_of r) at output) refl m.answer m.state m.content

-- what is delivered are bytes
does-lent : {r r' : Replica} {e : Event} → Does r r' e → LentTo (call_of e)
does-lent (delivers lent c) = lent
does-lent (steps c) = tt

-- ── all calls ──

abbrev pub calls_of : List Event → List Call
calls_of events = map call_of events

pub runs-lent : {r r' : Replica} {events : List Event} → Runs r events r' → Lent (calls_of events)
runs-lent start c i = absurd (Memᴰ.not-nil i)
runs-lent (then {e = e} {events = events} d rest) c i = ⊎_elim
    (λ (same : c ≡ call_of e). subst LentTo (sym same) (does-lent d))
    (λ (j : Memᴰ c (calls_of events)). runs-lent rest c j)
    (Memᴰ.cases_cons i)

pub record TellsAll (u : Settings) (s t : State) (events : List Event) : Type 0 where
  pub state : t ≡ (run s (calls_of events)).state
  pub passed : map (exchange_in u) events ≡ exchanges s (calls_of events)

-- whatever the replica was at first
pub runs_tell : (u : Settings) {r r' : Replica} {events : List Event} → (state_of r).settings ≡ u → Runs r events r'
    → TellsAll u (state_of r) (state_of r') events
unfolding run exchanges
runs_tell u h start = record { state = refl; passed = refl }
runs_tell u {r} h (then {r' = r'} {e = e} d rest) =
    let one = does_tell u h d in
    let next : (state_of r').settings ≡ u = ap (λ (s : State). s.settings) one.state ∙ (call-settings (state_of r) (call_of e) ∙ h) in
    let others = runs_tell u next rest in
    record {
      state = others.state ∙ rw one.state;
      passed = rw (one.passed, others.passed, one.state);
    }

-- ── a life ──

-- what was made is the rules' new replica
module _ (u : Settings) (number : ℕ) (l : Life) (lived : Lived u number l) where
  life_made : make u number ≡ given (new_state u number)
  unfolding make
  life_made =
      let made = sym (makes_mean lived.makes) ∙ ap (λ (r : Result Replica Refusal). map_answer state_of (answer_of r)) lived.accepted in
      made ∙ sym (ask_through (make_questions u number) (given (new_state u number)) made)

  life_new : state_of l.first ≡ new_state u number
  life_new =
      let made = sym (makes_mean lived.makes) ∙ ap (λ (r : Result Replica Refusal). map_answer state_of (answer_of r)) lived.accepted in
      same_given (sym made ∙ life_made)

  life_told : TellsAll u (new_state u number) (state_of l.last) l.events
  life_told = rw life_new at (runs_tell u (ap (λ (s : State). s.settings) life_new) lived.runs)

  pub life_past : past_in u l ≡ exchanges (new_state u number) (calls_of l.events)
  life_past = life_told.passed

  pub life_account_lem : life_account u l ≡ account u number (calls_of l.events)
  life_account_lem = rw (life_past, ap (λ (s : State). s.store) life_told.state)

  pub life_view : view_in u l ≡ owner_view u number (calls_of l.events)
  life_view = ap (λ (s : State). view u s (past_in u l)) life_told.state ∙ ap (view u (run (new_state u number) (calls_of l.events)).state) life_past

  -- it is one of the rules' runs
  pub life_ran : Ran u number (calls_of l.events)
  life_ran = record { made = life_made; lent = runs-lent lived.runs }
