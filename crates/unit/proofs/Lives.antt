-- What the theorem supposes of the code can be met: every run of the rules is the life of a replica as the contracts describe it.
use Prim.Native.Nat.{ℕ}
use mathlib.Core.Path.{◌≡◌, refl, sym, ap, subst, ◌∙◌}
use mathlib.Core.Bool.{Bool, true}
use mathlib.Core.List.{List, [], ◌∷◌, flat_map, Memᴰ}
use native.Mathlib.Omega.{arith}
use denote.MutBor.{MutBor}
use denote.Ref.{Bor}
use Rattle.question.specs.Question.{Answer, given, refused, Listed, after, map_answer, verdict}
use borrow.Author.Tests.{eqb-true}
use Rattle.std.specs.Prelude.{⊤, Result, Ok, Err}
use Rattle.question.specs.Refusals.{number_of, answer_of}
use Rattle.question.specs.declared.refusal.Refusal.{Refusal}
use Rattle.question.proofs.Refusals.{refusal_of, has_number}
use Rattle.rules.specs.Lists.{every}
use Rattle.rules.specs.Numbers.{deliver_numbers, step_numbers}
use Rattle.rules.proofs.Numbers.{deliver_numbers_lem, step_numbers_lem}
use Rattle.laws.proofs.Lists.{every_in}
use Rattle.layout.specs.declared.clock.LocalTime.{LocalTime}
use Rattle.record.specs.declared.request.Request.{Request}
use Rattle.rules.specs.Replica.{State, Stepped, new_state, deliver, step}
use Rattle.rules.specs.Run.{Call, delivery, turn, LentTo, Lent, sent_by, call, run, exchanges, Ran}
use Rattle.rules.specs.Owner.{owner_view}
use Rattle.rules.specs.declared.Settings.{Settings}
use Rattle.laws.proofs.Accepted.{Made, make-made}
use Rattle.laws.proofs.Sound.{Sound, new_sound}
use Rattle.laws.proofs.Calls.{call-sound}
use Rattle.failstop.specs.Suppose.{Correct, Supposed}
use Rattle.failstop.specs.Runs as rules
use Rattle.state.specs.State.{state_of}
use Rattle.state.specs.Made.{new_replica}
use Rattle.unit.specs.Life.{Life, Lived, past_in, Event, delivered, stepped, Does, delivers, steps, Runs, start, then}
use Rattle.unit.specs.Unit.{life_account, accounts, UnitRan}
use Rattle.unit.specs.Isolation.{view_in}
use Rattle.unit.proofs.Accounts.{call_of, calls_of, life_account_lem, life_past, life_view}
use Rattle.unit.proofs.Same.{supposed_same}
use Rattle.unit.proofs.Structs.{replica_of, state_of_struct}

-- a lent slice
abbrev shown_as : List ℕ → Bor (List ℕ)
shown_as bytes = record { ref_ptr = (0, 0); now = bytes }

abbrev lent_as : List ℕ → MutBor (List ℕ)
lent_as bytes = record { ref_ptr = (0, 0); ghost_name = 0; now = bytes }

-- ── the answers of the rules as the code gives them ──

abbrev outcome_of : Answer State → Result ⊤ Refusal
outcome_of (given s) = Ok tt
outcome_of (refused number) = Err (refusal_of number)

abbrev count_of : Answer Stepped → Result ℕ Refusal
count_of (given d) = Ok d.count
count_of (refused number) = Err (refusal_of number)

abbrev event_of : State → Call → Event
event_of s (delivery bytes at) = delivered bytes at (outcome_of (deliver s bytes at))
event_of s (turn at output) = stepped at output (count_of (step s at output)) (after output (map_answer (λ d. d.output) (step s at output)))

abbrev events_of : State → List Call → List Event
events_of s [] = []
events_of s (c ∷ calls) = event_of s c ∷ events_of (call s c).state calls

-- ── one call ──

-- each number that a call may be refused with has its refusal
numbered : (numbers : List ℕ) → every has_number numbers ≡ true → (n : ℕ) → Memᴰ n numbers → number_of (refusal_of n) ≡ n
numbered numbers all n i = eqb-true (number_of (refusal_of n)) n (every_in has_number numbers all n i)

outcome_is : (a : Answer State) → Listed deliver_numbers a → answer_of (outcome_of a) ≡ verdict a
outcome_is (given s) listed = refl
outcome_is (refused number) listed = ap refused (numbered deliver_numbers refl number (listed number refl))

answer_is : (a : Answer Stepped) → Listed step_numbers a → answer_of (count_of a) ≡ map_answer (λ d. d.count) a
answer_is (given d) listed = refl
answer_is (refused number) listed = ap refused (numbered step_numbers refl number (listed number refl))

-- a refusal leaves the struct
kept_if_refused : (s : State) (a : Answer State) (q : ℕ) → answer_of (outcome_of a) ≡ refused q → replica_of (after s a) ≡ replica_of s
kept_if_refused s (given t) q e = absurd (let z : ◌≡◌ {A = ℕ} 0 1 = cc in omega arith)
kept_if_refused s (refused number) q e = refl

kept_if_not-stepped : (s : State) (a : Answer Stepped) (q : ℕ) → answer_of (count_of a) ≡ refused q
    → replica_of (after s (map_answer (λ d. d.state) a)) ≡ replica_of s
kept_if_not-stepped s (given d) q e = absurd (let z : ◌≡◌ {A = ℕ} 0 1 = cc in omega arith)
kept_if_not-stepped s (refused number) q e = refl

-- what its struct stands for is the state itself
abbrev Fits : State → Type 0
Fits s = state_of (replica_of s) ≡ s

delivery-done : (s : State) (bytes : List ℕ) (at : LocalTime) → LentTo (delivery bytes at) → Fits s → Fits (after s (deliver s bytes at))
    → Does (replica_of s) (replica_of (after s (deliver s bytes at))) (event_of s (delivery bytes at))
delivery-done s bytes at lent before behind =
    let a = deliver s bytes at in
    let same = sym before in
    delivers lent (record {
      lifetimes = ([], tt);
      slice = shown_as bytes;
      lent = refl;
      learnt = (
        outcome_is a (deliver_numbers_lem s bytes at) ∙ ap (λ (t : State). verdict (deliver t bytes at)) same,
        (behind ∙ ap (λ (t : State). after t (deliver t bytes at)) same, kept_if_refused s a),
      );
    })

step-done : (s : State) (at : LocalTime) (output : List ℕ) → Fits s → Fits (after s (map_answer (λ d. d.state) (step s at output)))
    → Does (replica_of s) (replica_of (after s (map_answer (λ d. d.state) (step s at output)))) (event_of s (turn at output))
step-done s at output before behind =
    let a = step s at output in
    let same = sym before in
    steps (record {
      lifetimes = ([], tt);
      slice = lent_as output;
      lent = refl;
      learnt = (
        answer_is a (step_numbers_lem s at output) ∙ ap (λ (t : State). map_answer (λ d. d.count) (step t at output)) same,
        (
          behind ∙ ap (λ (t : State). after t (map_answer (λ d. d.state) (step t at output))) same,
          (ap (λ (t : State). after output (map_answer (λ d. d.output) (step t at output))) same, kept_if_not-stepped s a),
        ),
      );
    })

pub stepped-state : (s : State) (a : Answer Stepped) → after s (map_answer (λ d. d.state) a) ≡ (sent_by s a).state
stepped-state s (given d) = refl
stepped-state s (refused number) = refl

call_of_event : (s : State) (c : Call) → call_of (event_of s c) ≡ c
call_of_event s (delivery bytes at) = refl
call_of_event s (turn at output) = refl

-- ── of a replica that was made ──

module _ (u : Settings) (number : ℕ) (ok : Made u number) where
  call-done : (s : State) (c : Call) → Sound u number s → LentTo c → Does (replica_of s) (replica_of (call s c).state) (event_of s c)
  unfolding call
  call-done s c h lent = go c lent (state_of_struct u number ok s h) (state_of_struct u number ok (call s c).state (call-sound u number ok s c h lent))
    where
      go : (c : Call) → LentTo c → Fits s → Fits (call s c).state → Does (replica_of s) (replica_of (call s c).state) (event_of s c)
      go (delivery bytes at) lent before behind = delivery-done s bytes at lent before behind
      go (turn at output) lent before behind =
          let same = stepped-state s (step s at output) in
          subst (λ (t : State). Does (replica_of s) (replica_of t) (event_of s (turn at output))) same
          (step-done s at output before (subst Fits (sym same) behind))

  calls-done : (calls : List Call) (s : State) → Sound u number s → Lent calls
      → Runs (replica_of s) (events_of s calls) (replica_of (run s calls).state)
  unfolding run
  calls-done [] s h lent = start
  calls-done (c ∷ calls) s h lent =
      let first = lent c (Memᴰ.head refl) in
      then (call-done s c h first) (calls-done calls (call s c).state (call-sound u number ok s c h first) (λ x i. lent x (Memᴰ.tail i)))

-- ── a whole life ──

calls_of-events : (calls : List Call) (s : State) → calls_of (events_of s calls) ≡ calls
calls_of-events [] s = refl
calls_of-events (c ∷ calls) s = rw (call_of_event s c, calls_of-events calls (call s c).state)

abbrev pub life_of : Settings → ℕ → List Call → Life
life_of u number calls =
    let s = new_state u number in
    record {
      made = Ok (new_replica u number);
      first = new_replica u number;
      events = events_of s calls;
      last = replica_of (run s calls).state;
    }

module _ (u : Settings) (number : ℕ) (calls : List Call) (ran : Ran u number calls) where
  pub life_lived : Lived u number (life_of u number calls)
  unfolding flat_map
  life_lived =
      let ok = make-made u number ran.made in
      let new = new_sound u number in
      record {
        makes = record {
          lifetimes = tt;
          learnt = rw ran.made (ap given (state_of_struct u number ok (new_state u number) new));
        };
        accepted = refl;
        runs = calls-done u number ok calls (new_state u number) new ran.lent;
      }

  same_calls : calls_of (life_of u number calls).events ≡ calls
  same_calls = calls_of-events calls (new_state u number)

  -- it gives the account of the run; the same passes in it, and the owner has the same of it
  pub life_account_is : life_account u (life_of u number calls) ≡ rules.account u number calls
  life_account_is = life_account_lem u number (life_of u number calls) life_lived ∙ ap (rules.account u number) same_calls

  pub life_past_is : past_in u (life_of u number calls) ≡ exchanges (new_state u number) calls
  life_past_is = life_past u number (life_of u number calls) life_lived ∙ ap (exchanges (new_state u number)) same_calls

  pub life_view_is : view_in u (life_of u number calls) ≡ owner_view u number calls
  life_view_is = life_view u number (life_of u number calls) life_lived ∙ ap (owner_view u number) same_calls

-- ── a unit ──

abbrev pub lives_of : Settings → (ℕ → List Call) → ℕ → Life
lives_of u calls i = life_of u i (calls i)

-- a unit of the rules that meets what is supposed is one of the code
module _ (u : Settings) (faulty : ℕ → Bool) (calls : ℕ → List Call) (ran : rules.AllRan u faulty calls) where
  pub lives_same : (i : ℕ) → Correct u faulty i → rules.account_of u calls i ≡ accounts u (lives_of u calls) i
  lives_same i ok = sym (life_account_is u i (calls i) (ran i ok))

  pub lives_ran : (bag : List Request) → Supposed u faulty (rules.account_of u calls) bag → UnitRan u faulty (lives_of u calls) bag
  lives_ran bag sup = record {
    lived = λ i ok. life_lived u i (calls i) (ran i ok);
    supposed = supposed_same u faulty (rules.account_of u calls) (accounts u (lives_of u calls)) lives_same bag sup;
  }
