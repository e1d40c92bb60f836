-- The calls of `session_figures`, one after the other, are those of a session that is fed in its order: so they leave its figures.
use Prim.Native.Nat.{ℕ, ◌+◌, ◌<◌}
use mathlib.Core.Path.{◌≡◌, refl, sym, ap, ◌∙◌}
use mathlib.Core.List.{List, [], ◌∷◌, ◌++◌, map, map-append}
use native.Mathlib.Omega.{arith}
use lib.ListN.{get_or, replicate}
use Rattle.limits.specs.Limits.{output_size}
use Rattle.question.specs.Question.{given, after, map_answer}
use Rattle.record.specs.declared.request.Request.{Request}
use Rattle.rules.specs.Replica.{State, new_state, make, step}
use Rattle.rules.specs.Run.{Call, call, run, Ran}
use Rattle.rules.specs.Sample.{deliver_at, step_at}
use Rattle.unit.proofs.Lives.{stepped-state}
use Rattle.session.specs.Session.{unit, choices, requests_for, session, figures_in, figures_of}
use Rattle.session.proofs.Fed.{session_calls, fed_ran, fed_orderly}
use Rattle.session.proofs.Reached.{run_reaches}

run-append : (a b : List Call) (s : State) → (run s (a ++ b)).state ≡ (run (run s a).state b).state
unfolding run
run-append [] b s = refl
run-append (c ∷ a) b s = run-append a b (call s c).state

-- requests fed one after the other
abbrev feed : List Request → State → State
feed requests s = (run s (map (deliver_at 0) requests)).state

feed-append : (a b : List Request) (s : State) → feed (a ++ b) s ≡ feed b (feed a s)
feed-append a b s = ap (λ calls. (run s calls).state) (map-append (deliver_at 0) a b) ∙ run-append (map (deliver_at 0) a) (map (deliver_at 0) b) s

-- δ of the replica that `session_figures` makes
abbrev pub delta : ℕ
delta = 5

module _ (place : ℕ) (small : place < 256) where
  abbrev new : State
  new = new_state (unit delta) 1

  -- what is asked for by a digit
  abbrev part : ℕ → ℕ → ℕ → List Request
  part process t i = requests_for process t (get_or (choices place) i 0)

  ran : Ran (unit delta) 1 (session_calls delta place)
  ran = fed_ran delta 1 place (omega arith) (omega arith) (omega arith) small

  fed_figures : figures_in (run new (session_calls delta place)).state.store ≡ figures_of place
  fed_figures =
      run_reaches delta 1 place small (session_calls delta place) ran (fed_orderly delta 1 place (omega arith) small)

  parts_fed : feed (part 2 2 3) (feed (part 1 2 2) (feed (part 2 1 1) (feed (part 1 1 0) new))) ≡ feed (session place) new
  parts_fed =
      sym (feed-append (part 1 1 0) (part 2 1 1 ++ (part 1 2 2 ++ part 2 2 3)) new
      ∙ (feed-append (part 2 1 1) (part 1 2 2 ++ part 2 2 3) (feed (part 1 1 0) new)
      ∙ feed-append (part 1 2 2) (part 2 2 3) (feed (part 2 1 1) (feed (part 1 1 0) new))))

  pub made : make (unit delta) 1 ≡ given new
  made = ran.made

  pub brought : {start first second third fourth last : State} → start ≡ new
      → first ≡ feed (part 1 1 0) start → second ≡ feed (part 2 1 1) first → third ≡ feed (part 1 2 2) second → fourth ≡ feed (part 2 2 3) third
      → last ≡ after fourth (map_answer (λ d. d.state) (step fourth (record { 0 = delta + 1 }) (replicate output_size 0)))
      → figures_in last.store ≡ figures_of place
  unfolding call run
  brought {fourth = fourth} {last = last} z a b c d e =
      let from-new = a ∙ ap (feed (part 1 1 0)) z in
      let all : fourth ≡ feed (session place) new =
      d ∙ (ap (feed (part 2 2 3)) (c ∙ ap (feed (part 1 2 2)) (b ∙ ap (feed (part 2 1 1)) from-new)) ∙ parts_fed) in
      let closed : last ≡ (run new (session_calls delta place)).state =
      e ∙ (stepped-state fourth (step fourth (record { 0 = delta + 1 }) (replicate output_size 0))
      ∙ (ap (λ (s : State). (run s (step_at (delta + 1) ∷ [])).state) all ∙ sym (run-append (map (deliver_at 0) (session place)) (step_at (delta + 1) ∷ []) new))) in
      ap (λ (s : State). figures_in s.store) closed ∙ fed_figures
