-- Guests leave the owner untouched. The owner has of a run what it would have if it were alone: if the guests' deliveries were left out, and
-- every step had an output of its own. Of two runs with the same calls of the owner it then has the same.
use Prim.Native.Nat.{ℕ}
use mathlib.Core.Path.{◌≡◌, refl, sym, ◌∙◌, ap}
use mathlib.Core.Bool.{Bool, true, cond}
use mathlib.Core.List.Memᴰ
use mathlib.Core.List.{List, [], ◌∷◌, ◌++◌, flat_map}
use native.Mathlib.Omega.{arith}
use lib.Dec.{leb}
use borrow.Author.Tests.{leb-true}
use Rattle.question.specs.Question.{Answer, Worked, is_given, map_answer, verdict}
use Rattle.layout.specs.declared.clock.LocalTime.{LocalTime}
use Rattle.record.specs.declared.message.Message.{Message}
use Rattle.rules.specs.Batch.{Store}
use Rattle.rules.specs.Lists.{every}
use Rattle.rules.specs.Replica.{State, new_state, deliver, step}
use Rattle.rules.specs.Run.{Call, delivery, turn, Lent, messages_of, to_group, call, run, exchange, exchanges, sent_in}
use Rattle.rules.specs.Owner.{is_owners, View, view_of, owner_view}
use Rattle.rules.specs.declared.Pending.{Pending}
use Rattle.rules.specs.declared.Settings.{Settings}
use Rattle.question.proofs.Tests.{case, both}
use Rattle.laws.proofs.Accepted.{Made, make-made}
use Rattle.laws.proofs.Exchanges.{step-passed}
use Rattle.laws.proofs.Sound.{new_sound}
use Rattle.isolation.specs.Isolation.{never_back, step_accepted, OwnerCall, delivers, steps, owner_calls, Steady, Isolation}
use Rattle.isolation.proofs.Steps.{Alike}
use Rattle.isolation.proofs.Calls.{room, Pair, guest_pair, owner-answered, owner-pair, turn-sent, turn-pair}

-- the owner's calls, as calls
abbrev alone : List OwnerCall → List Call
alone [] = []
alone (delivers bytes now ∷ calls) = delivery bytes now ∷ alone calls
alone (steps now ∷ calls) = turn now room ∷ alone calls

-- a view after one call more at the front
abbrev ahead : List (Answer Worked) → List (List Message) → View → View
ahead answers sent v = record { store = v.store; pending = v.pending; answers = answers ++ v.answers; sent = sent ++ v.sent }

module _ (u : Settings) where
  -- the owner's calls of a run
  abbrev owners_in : State → List Call → List Call
  owners_in s calls = alone (owner_calls u (exchanges s calls))

  -- ── no call, and one more at the front, in the view and in the owner's calls ──

  view_none : (s t : State) → Alike u.owner s t → view_of u s [] ≡ view_of u t (owners_in s [])
  unfolding run exchanges flat_map
  view_none s t h =
      ap (λ (x : Store). record { store = x; pending = s.pending u.owner; answers = []; sent = [] }) h.store
      ∙ ap (λ (x : List Pending). record { store = t.store; pending = x; answers = []; sent = [] }) h.pending

  module _ (s : State) (bytes : List ℕ) (now : LocalTime) (calls : List Call) where
    abbrev next : State
    next = (call s (delivery bytes now)).state

    -- whosever the delivery is
    module _ {b : Bool} (e : is_owners u bytes ≡ b) where
      view-delivery : view_of u s (delivery bytes now ∷ calls) ≡ ahead (cond b (verdict (deliver s bytes now) ∷ []) []) [] (view_of u next calls)
      unfolding run exchanges flat_map
      view-delivery = ap (λ x. ahead (cond x (verdict (deliver s bytes now) ∷ []) []) [] (view_of u next calls)) e

      owners-delivery : owners_in s (delivery bytes now ∷ calls) ≡ alone (cond b (delivers bytes now ∷ []) [] ++ owner_calls u (exchanges next calls))
      unfolding exchanges flat_map
      owners-delivery = ap (λ x. alone (cond x (delivers bytes now ∷ []) [] ++ owner_calls u (exchanges next calls))) e

  view-turn : (s : State) (now : LocalTime) (output : List ℕ) (calls : List Call)
      → view_of u s (turn now output ∷ calls)
      ≡ ahead [] (to_group u.owner (sent_in (exchange s (turn now output))) ∷ []) (view_of u (call s (turn now output)).state calls)
  unfolding run exchanges flat_map
  view-turn s now output calls = refl

  owners-turn : (s : State) (now : LocalTime) (output : List ℕ) (calls : List Call)
      → owners_in s (turn now output ∷ calls) ≡ turn now room ∷ owners_in (call s (turn now output)).state calls
  unfolding exchanges flat_map
  owners-turn s now output calls = refl

-- ── all calls ──

module _ (u : Settings) (me : ℕ) (ok : Made u me) where
  seen-alone : (calls : List Call) (before : LocalTime) (s t : State) → Pair u me before s t → Lent calls
      → never_back before (exchanges s calls) ≡ true → every step_accepted (exchanges s calls) ≡ true
      → view_of u s calls ≡ view_of u t (owners_in u s calls)
  unfolding exchanges
  seen-alone [] before s t h lent forward accepted = view_none u s t h.alike
  seen-alone (delivery bytes now ∷ calls) before s t h lent forward accepted =
      let c = delivery bytes now in
      let next = (call s c).state in
      let f = both (leb before.0 now.0) (never_back now (exchanges next calls)) forward in
      let late = leb-true before.0 now.0 f.0 in
      let here = lent c (Memᴰ.head refl) in
      let rest : Lent calls = λ x i. lent x (Memᴰ.tail i) in
      case (is_owners u bytes)
      (λ e.
      let known = seen-alone calls now next (call t c).state (owner-pair u me ok before s t h bytes now late here e) rest f.1 accepted in
      view-delivery u s bytes now calls e
      ∙ (ap (λ (x : Answer Worked). ahead (x ∷ []) [] (view_of u next calls)) (owner-answered u me ok before s t h bytes now late here e)
      ∙ (ap (ahead (verdict (deliver t bytes now) ∷ []) []) known
      ∙ (sym (view-delivery u t bytes now (owners_in u next calls) e)
      ∙ ap (view_of u t) (sym (owners-delivery u s bytes now calls e))))))
      (λ e.
      let known = seen-alone calls now next t (guest_pair u me ok before s t h bytes now late here e) rest f.1 accepted in
      view-delivery u s bytes now calls e ∙ (known ∙ ap (view_of u t) (sym (owners-delivery u s bytes now calls e))))
  seen-alone (turn now output ∷ calls) before s t h lent forward accepted =
      let next = (call s (turn now output)).state in
      let f = both (leb before.0 now.0) (never_back now (exchanges next calls)) forward in
      let late = leb-true before.0 now.0 f.0 in
      let g = both (is_given (map_answer (messages_of s) (step s now output))) (every step_accepted (exchanges next calls)) accepted in
      let took = sym (step-passed s now output) ∙ g.0 in
      let pair = turn-pair u me ok before s t h now output late took in
      let known = seen-alone calls now next (call t (turn now room)).state pair (λ x i. lent x (Memᴰ.tail i)) f.1 g.1 in
      let sent = to_group u.owner (sent_in (exchange t (turn now room))) in
      view-turn u s now output calls
      ∙ (ap (λ (x : List Message). ahead [] (x ∷ []) (view_of u next calls)) (turn-sent u me ok before s t h now output late took)
      ∙ (ap (ahead [] (sent ∷ [])) known
      ∙ (sym (view-turn u t now room (owners_in u next calls)) ∙ ap (view_of u t) (sym (owners-turn u s now output calls)))))

  -- the owner has of a run what it would have alone
  pub run_alone : (calls : List Call) → Lent calls → Steady (exchanges (new_state u me) calls)
      → owner_view u me calls ≡ owner_view u me (owners_in u (new_state u me) calls)
  run_alone calls lent h =
      let new = new_state u me in
      let start : Pair u me (record { 0 = 0 }) new new = record {
        left = new_sound u me;
        right = new_sound u me;
        alike = record { store = refl; pending = refl };
        left_last = omega arith;
        right_last = omega arith;
      } in
      seen-alone calls (record { 0 = 0 }) new new start lent h.forward h.accepted

pub isolation : Isolation
isolation u number a b x y h =
    let ok = make-made u number x.made in
    run_alone u number ok a x.lent h.left
    ∙ (ap (λ (c : List OwnerCall). owner_view u number (alone c)) h.same ∙ sym (run_alone u number ok b y.lent h.right))
