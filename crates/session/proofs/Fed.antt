-- A session that is fed in its order at local time 0 and closed by a step meets all that the third demand supposes of a run.
use Prim.Native.Nat.{ℕ, ◌+◌, ◌≤◌, ◌<◌}
use mathlib.Core.Path.{◌≡◌, refl}
use mathlib.Core.Bool.{true}
use mathlib.Core.Logic.{inl}
use mathlib.Core.List.{List, [], ◌∷◌, ◌++◌, map, flat_map}
use native.Mathlib.Omega.{arith}
use lib.ListN.{replicate}
use borrow.Author.Tests.{le-leb, lt-ltb}
use Rattle.limits.specs.Limits.{max_delta, max_time, output_size}
use Rattle.question.specs.Question.{Answer, given, refused, is_given, ask, after, map_answer, unit_questions}
use Rattle.layout.specs.Number.{number, digits}
use Rattle.layout.specs.Layout.{fields_of, bytes_of}
use Rattle.record.specs.Record.{request_fields, field_questions, read_fields}
use Rattle.record.specs.declared.request.Request.{Request}
use Rattle.rules.specs.Lists.{every}
use Rattle.rules.specs.Replica.{State, new_state, requests_of, make, admit, arrive, deliver, step}
use Rattle.rules.specs.Run.{Call, Lent, call, exchanges, arrivals, step_in, Ran}
use Rattle.rules.specs.Sample.{deliver_at, step_at}
use Rattle.rules.specs.declared.Pending.{Pending}
use Rattle.failstop.specs.Suppose.{closes, Orderly}
use Rattle.failstop.specs.Runs.{account}
use Rattle.laws.proofs.Exchanges.{step-passed}
use Rattle.laws.proofs.Delivered.{delivers_bytes, computed_lent}
use Rattle.laws.proofs.Lists.{map_in}
use Rattle.session.specs.Session.{unit, session}
use Rattle.session.proofs.Places.{at_place}

-- the session's requests in their order at local time 0, and a step more than δ later
abbrev pub session_calls : ℕ → ℕ → List Call
session_calls delta place = map (deliver_at 0) (session place) ++ (step_at (delta + 1) ∷ [])

-- ── what arrives, computed ──

abbrev at_zero : Request → Pending
at_zero r = record { request = r; arrival = record { 0 = 0 } }

fed_arrivals : (delta number place : ℕ) → place < 256
    → arrivals (unit delta) (exchanges (new_state (unit delta) number) (session_calls delta place)) ≡ map at_zero (session place)
unfolding ask unit_questions number digits fields_of bytes_of field_questions read_fields admit deliver call exchanges flat_map
fed_arrivals delta number place small =
    at_place (λ p. arrivals (unit delta) (exchanges (new_state (unit delta) number) (session_calls delta p))) (λ p. map at_zero (session p)) refl place small

fed_lent : (delta place : ℕ) → place < 256 → Lent (session_calls delta place)
unfolding digits bytes_of
fed_lent delta place small =
    computed_lent (session_calls delta place) (at_place (λ p. every delivers_bytes (session_calls delta p)) (λ p. true) refl place small)

-- ── the closing step ──

call_last : (s : State) (r : Request) → s.last.0 ≡ 0 → (call s (deliver_at 0 r)).state.last.0 ≡ 0
unfolding call deliver
call_last s r e = go (admit s (bytes_of (request_fields r)) (record { 0 = 0 }))
  where
    go : (a : Answer Request) → (after s (map_answer (λ q. arrive s q (record { 0 = 0 })) a)).last.0 ≡ 0
    go (given q) = refl
    go (refused number) = e

-- a step is accepted at a time that is not past and not too late
step_given : (s : State) (t : ℕ) → s.last.0 ≡ 0 → t ≤ max_delta + 1 → is_given (step s (record { 0 = t }) (replicate output_size 0)) ≡ true
unfolding ask step
step_given s t e small = rw (e, le-leb t max_time (omega arith), le-leb 0 t (omega arith))

-- after the deliveries only the step counts, and it is accepted
fed_times : (bag : List Request) (s : State) (t : ℕ) → s.last.0 ≡ 0 → t ≤ max_delta + 1
    → flat_map step_in (exchanges s (map (deliver_at 0) bag ++ (step_at t ∷ []))) ≡ record { 0 = t } ∷ []
unfolding exchanges flat_map
fed_times [] s t e small = rw (step-passed s (record { 0 = t }) (replicate output_size 0), step_given s t e small)
fed_times (r ∷ bag) s t e small = fed_times bag (call s (deliver_at 0 r)).state t (call_last s r e) small

-- ── all of it ──

requests_back : (bag : List Request) → requests_of (map at_zero bag) ≡ bag
requests_back [] = refl
requests_back (r ∷ bag) = rw (requests_back bag)

all_past : (delta : ℕ) (bag : List Request) → closes delta (map at_zero bag) (record { 0 = delta + 1 }) ≡ true
all_past delta [] = refl
all_past delta (r ∷ bag) = rw (lt-ltb (0 + delta) (delta + 1) (omega arith), all_past delta bag)

pub fed_orderly : (delta number place : ℕ) → delta ≤ max_delta → place < 256
    → Orderly (unit delta) (session place) (account (unit delta) number (session_calls delta place))
fed_orderly delta number place short small =
    let bag = session place in
    let all = fed_arrivals delta number place small in
    let times = fed_times bag (new_state (unit delta) number) (delta + 1) refl (omega arith) in
    record {
      same = λ q. rw (all, requests_back bag);
      rule = rw all (λ p q i j h. rw (map_in at_zero bag j).2 (omega arith));
      closed = inl (rw (all, times, all_past delta bag));
    }

pub fed_made : (delta number : ℕ) → delta ≤ max_delta → 1 ≤ number → number ≤ 3 → make (unit delta) number ≡ given (new_state (unit delta) number)
unfolding ask unit_questions make
fed_made delta number short low high = rw (le-leb delta max_delta short, le-leb 1 number low, le-leb number 3 high)

pub fed_ran : (delta number place : ℕ) → delta ≤ max_delta → 1 ≤ number → number ≤ 3 → place < 256 → Ran (unit delta) number (session_calls delta place)
fed_ran delta number place short low high small = record { made = fed_made delta number short low high; lent = fed_lent delta place small }
