-- One call, for the owner: of a guest's delivery it has nothing, and its own deliveries and the steps do alike in two states that agree on
-- what is its own.
use Prim.Native.Nat.{ℕ, ◌≤◌}
use mathlib.Core.Path.{◌≡◌, refl, sym, ◌∙◌, ap}
use mathlib.Core.Bool.{true, false}
use mathlib.Core.List.{List, [], ◌∷◌, ◌++◌}
use native.Mathlib.Omega.{arith}
use lib.Dec.{eqb}
use lib.ListN.{length, replicate}
use borrow.Author.Tests.{eqb-true, le-leb}
use Rattle.limits.specs.Limits.{output_size}
use Rattle.question.specs.Question.{Answer, given, refused, ask, bind, verdict, is_given}
use Rattle.layout.specs.declared.clock.LocalTime.{LocalTime}
use Rattle.record.specs.Record.{read_request}
use Rattle.record.specs.declared.request.Request.{Request}
use Rattle.rules.specs.Replica.{State, Stepped, place_questions, step_questions, admit, deliver, at_time, stepped, step}
use Rattle.rules.specs.Run.{delivery, turn, LentTo, to_group, call, exchange, sent_in}
use Rattle.rules.specs.Owner.{is_owners}
use Rattle.rules.specs.declared.Pending.{Pending}
use Rattle.rules.specs.declared.Settings.{Settings}
use Rattle.question.proofs.Questions.{ask-all_yes}
use Rattle.question.proofs.Tests.{true-not-false}
use Rattle.laws.proofs.Queues.{arrive-mine, arrive_other}
use Rattle.laws.proofs.Keeps.{visits-keep}
use Rattle.laws.proofs.Accepted.{Made, read_names}
use Rattle.laws.proofs.Exchanges.{read_with, exchange-sent}
use Rattle.laws.proofs.Sound.{Sound}
use Rattle.laws.proofs.Calls.{at_sound, call_step, call-sound}
use Rattle.isolation.proofs.Steps.{Alike, AlikeEffect, visits-alike}

-- where the bytes are a request, it is the owner's if they are
owners_tells : (u : Settings) (bytes : List ℕ) {r : Request} → read_request u.k u.groups bytes ≡ given r
    → eqb r.group u.owner ≡ is_owners u bytes
owners_tells u bytes e = ap (λ x. eqb x u.owner) (read_names u.k u.groups bytes e)

-- so is one that was admitted
admitted_tells : (u : Settings) (s : State) (bytes : List ℕ) (now : LocalTime) {r : Request} → s.settings ≡ u → admit s bytes now ≡ given r
    → eqb r.group u.owner ≡ is_owners u bytes
admitted_tells u s bytes now settings e = owners_tells u bytes (read_with s bytes now settings e)

-- the output that is lent where the owner is alone
abbrev pub room : List ℕ
room = replicate output_size 0

-- two replicas on the way: they agree on what is the owner's, and neither is past a local time
pub record Pair (u : Settings) (me : ℕ) (before : LocalTime) (s t : State) : Type 0 where
  pub left : Sound u me s
  pub right : Sound u me t
  pub alike : Alike u.owner s t
  pub left_last : s.last.0 ≤ before.0
  pub right_last : t.last.0 ≤ before.0

module _ (u : Settings) (me : ℕ) (ok : Made u me) where
  -- the last accepted local time is not past that of the call
  delivery_last : (s : State) (bytes : List ℕ) (now : LocalTime) → s.last.0 ≤ now.0 → (call s (delivery bytes now)).state.last.0 ≤ now.0
  unfolding call deliver
  delivery_last s bytes now late = go (admit s bytes now) refl
    where
      go : (a : Answer Request) → admit s bytes now ≡ a → (call s (delivery bytes now)).state.last.0 ≤ now.0
      go (refused number) e = rw e late
      go (given r) e = rw e (omega arith)

  -- ── a guest's delivery ──

  deliver-unseen : (s : State) (bytes : List ℕ) (now : LocalTime) → s.settings ≡ u → is_owners u bytes ≡ false
      → Alike u.owner (call s (delivery bytes now)).state s
  unfolding call deliver
  deliver-unseen s bytes now settings e = go (admit s bytes now) refl
    where
      go : (a : Answer Request) → admit s bytes now ≡ a → Alike u.owner (call s (delivery bytes now)).state s
      go (refused number) f = rw f (record { store = refl; pending = refl })
      go (given r) f = rw f (record { store = refl; pending = arrive_other s r now u.owner (admitted_tells u s bytes now settings f ∙ e) })

  pub guest_pair : (before : LocalTime) (s t : State) → Pair u me before s t → (bytes : List ℕ) (now : LocalTime) → before.0 ≤ now.0
      → LentTo (delivery bytes now) → is_owners u bytes ≡ false → Pair u me now (call s (delivery bytes now)).state t
  guest_pair before s t h bytes now late lent e =
      let a = deliver-unseen s bytes now h.left.settings e in
      record {
        left = call-sound u me ok s (delivery bytes now) h.left lent;
        right = h.right;
        alike = record { store = a.store ∙ h.alike.store; pending = a.pending ∙ h.alike.pending };
        left_last = delivery_last s bytes now (omega (arith, h.left_last));
        right_last = omega (arith, h.right_last);
      }

  -- ── one of the owner's ──

  -- it is admitted alike, since no local time goes back
  admit-alike : (s t : State) (bytes : List ℕ) (now : LocalTime) → s.settings ≡ u → t.settings ≡ u → Alike u.owner s t
      → s.last.0 ≤ now.0 → t.last.0 ≤ now.0 → is_owners u bytes ≡ true → admit s bytes now ≡ admit t bytes now
  unfolding admit ask
  admit-alike s t bytes now v w h a b e =
      ap (λ (x : Settings). bind (read_request x.k x.groups bytes) (rest s)) v
      ∙ (go (read_request u.k u.groups bytes) refl ∙ ap (λ (x : Settings). bind (read_request x.k x.groups bytes) (rest t)) (sym w))
    where
      rest : State → Request → Answer Request
      rest x r = ask (place_questions x.last (length (x.pending r.group)) now) (given r)

      go : (x : Answer Request) → read_request u.k u.groups bytes ≡ x → bind x (rest s) ≡ bind x (rest t)
      go (refused number) f = refl
      go (given r) f =
          let mine : r.group ≡ u.owner = eqb-true r.group u.owner (owners_tells u bytes f ∙ e) in
          let long : length (s.pending r.group) ≡ length (t.pending r.group) = rw mine (ap length h.pending) in
          rw (le-leb s.last.0 now.0 a, le-leb t.last.0 now.0 b, long)

  record Delivered (s t : State) (bytes : List ℕ) (now : LocalTime) : Type 0 where
    state : Alike u.owner (call s (delivery bytes now)).state (call t (delivery bytes now)).state
    answer : verdict (deliver s bytes now) ≡ verdict (deliver t bytes now)

  deliver-alike : (s t : State) (bytes : List ℕ) (now : LocalTime) → s.settings ≡ u → Alike u.owner s t → is_owners u bytes ≡ true
      → admit s bytes now ≡ admit t bytes now → Delivered s t bytes now
  unfolding call deliver
  deliver-alike s t bytes now settings h e same = go (admit s bytes now) refl
    where
      go : (a : Answer Request) → admit s bytes now ≡ a → Delivered s t bytes now
      go (refused number) f = record { state = rw (f, sym same ∙ f) h; answer = rw (f, sym same ∙ f) }
      go (given r) f =
          let mine = admitted_tells u s bytes now settings f ∙ e in
          let new : List Pending = record { request = r; arrival = now } ∷ [] in
          record {
            state = rw (f, sym same ∙ f) (record {
              store = h.store;
              pending = arrive-mine s r now u.owner mine
                  ∙ (ap (λ (q : List Pending). q ++ new) h.pending ∙ sym (arrive-mine t r now u.owner mine));
            });
            answer = rw (f, sym same ∙ f);
          }

  module _ (before : LocalTime) (s t : State) (h : Pair u me before s t) (bytes : List ℕ) (now : LocalTime) (late : before.0 ≤ now.0)
      (lent : LentTo (delivery bytes now)) (e : is_owners u bytes ≡ true) where
    owner-delivered : Delivered s t bytes now
    owner-delivered =
        deliver-alike s t bytes now h.left.settings h.alike e
        (admit-alike s t bytes now h.left.settings h.right.settings h.alike (omega (arith, h.left_last)) (omega (arith, h.right_last)) e)

    pub owner-answered : verdict (deliver s bytes now) ≡ verdict (deliver t bytes now)
    owner-answered = owner-delivered.answer

    pub owner-pair : Pair u me now (call s (delivery bytes now)).state (call t (delivery bytes now)).state
    owner-pair = record {
      left = call-sound u me ok s (delivery bytes now) h.left lent;
      right = call-sound u me ok t (delivery bytes now) h.right lent;
      alike = owner-delivered.state;
      left_last = delivery_last s bytes now (omega (arith, h.left_last));
      right_last = delivery_last t bytes now (omega (arith, h.right_last));
    }

  -- ── a step ──

  -- one that is accepted in a state is accepted, with an output of its own, in another that is not past its local time
  step_too : (s t : State) (now : LocalTime) (output : List ℕ) {d : Stepped} → step s now output ≡ given d → t.last.0 ≤ now.0
      → step t now room ≡ given (stepped t now room)
  unfolding step ask
  step_too s t now output e late =
      let all = ask-all_yes (step_questions s.last now (length output)) (given (stepped s now output)) e in
      rw (all.0, le-leb t.last.0 now.0 late)

  module _ (before : LocalTime) (s t : State) (h : Pair u me before s t) (now : LocalTime) (output : List ℕ) (late : before.0 ≤ now.0)
      (accepted : is_given (step s now output) ≡ true) where
    record Turned : Type 0 where
      effect : AlikeEffect u.owner (call s (turn now output)) (call t (turn now room))
      left_last : (call s (turn now output)).state.last.0 ≤ now.0
      right_last : (call t (turn now room)).state.last.0 ≤ now.0

    turned : Turned
    turned = go (step s now output) refl
      where
        go : (a : Answer Stepped) → step s now output ≡ a → Turned
        go (refused number) e = true-not-false (is_given (step s now output)) accepted (ap is_given e)
        go (given d) e =
            let x = call_step u me ok s now output h.left e in
            let y = call_step u me ok t now room h.right (step_too s t now output e (omega (arith, h.right_last))) in
            let there = ap (λ (z : LocalTime). z.0) (visits-keep u.groups now (at_time now s)).last in
            let here = ap (λ (z : LocalTime). z.0) (visits-keep u.groups now (at_time now t)).last in
            record {
              effect = rw (x, y) (visits-alike u me ok now u.groups (at_time now s) (at_time now t)
                  (at_sound u me ok s now h.left) (at_sound u me ok t now h.right) (record { store = h.alike.store; pending = h.alike.pending }));
              left_last = rw x (omega (arith, there));
              right_last = rw y (omega (arith, here));
            }

    pub turn-sent : to_group u.owner (sent_in (exchange s (turn now output))) ≡ to_group u.owner (sent_in (exchange t (turn now room)))
    turn-sent =
        ap (to_group u.owner) (exchange-sent s (turn now output))
        ∙ (turned.effect.sent ∙ ap (to_group u.owner) (sym (exchange-sent t (turn now room))))

    pub turn-pair : Pair u me now (call s (turn now output)).state (call t (turn now room)).state
    turn-pair = record {
      left = call-sound u me ok s (turn now output) h.left tt;
      right = call-sound u me ok t (turn now room) h.right tt;
      alike = turned.effect.state;
      left_last = turned.left_last;
      right_last = turned.right_last;
    }
