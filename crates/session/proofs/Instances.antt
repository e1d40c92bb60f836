-- A replica that had a session in another order, at the edges of what is supposed: place 175, so 2233, backwards to replica 3. Timestamp 2
-- arrives first, timestamp 1 exactly δ later, and the step comes δ + 1 after that. A `Held` that is narrower than it need be is refused here.
use Prim.Native.Nat.{ℕ}
use mathlib.Core.Path.{◌≡◌, refl}
use mathlib.Core.List.Permᴰ
use mathlib.Core.List.{List, [], ◌∷◌, flat_map}
use native.Mathlib.Omega.{arith}
use Rattle.question.specs.Question.{ask, unit_questions}
use Rattle.layout.specs.Number.{number, digits}
use Rattle.layout.specs.Layout.{fields_of, bytes_of}
use Rattle.record.specs.Record.{field_questions, read_fields}
use Rattle.record.specs.declared.message.Message.{Message}
use Rattle.rules.specs.Batch.{verdict_of}
use Rattle.rules.specs.Machine.{react, react_all, machine}
use Rattle.rules.specs.Replica.{admit, deliver, step}
use Rattle.rules.specs.Run.{Call, call, exchanges}
use Rattle.rules.specs.Sample.{wrote_to, deliver_at, step_at}
use Rattle.failstop.specs.Suppose.{Correct}
use Rattle.failstop.specs.Runs.{account_of}
use Rattle.failstop.proofs.Computed.{Computed, computed_ran, computed_supposed}
use Rattle.state.specs.State.{state_of}
use Rattle.unit.proofs.Lives.{life_of}
use Rattle.session.specs.Session.{unit, session, figures_in, figures_of}
use Rattle.session.specs.Held.{Held}
use Rattle.session.proofs.Fed.{fed_made}
use Rattle.session.proofs.Reached.{none, run-held, session_reaches}

abbrev backwards : List Call
backwards =
    deliver_at 100 (wrote_to 1 1 2 2 2) ∷ deliver_at 103 (wrote_to 1 1 1 2 2) ∷ deliver_at 105 (wrote_to 1 1 2 1 1) ∷ deliver_at 105 (wrote_to 1 1 1 1 1)
    ∷ step_at 111 ∷ []

-- whatever the replica
abbrev calls : ℕ → List Call
calls i = backwards

abbrev sent : ℕ → List Message
sent i = (account_of (unit 5) calls i).sent

backwards_computed : (i : ℕ) → Correct (unit 5) none i → Computed (unit 5) calls sent (session 175) i
unfolding ask unit_questions number digits fields_of bytes_of field_questions read_fields admit deliver step call exchanges flat_map
backwards_computed i ok = record {
  makes = fed_made 5 i (omega arith) ok.low ok.high;
  lends = refl;
  same = Permᴰ.reverse (session 175);
  obeys = refl;
  closing = refl;
  sends = refl;
}

last : Correct (unit 5) none 3
last = record { low = omega arith; high = omega arith; faultless = refl }

pub backwards-held : Held 5 3 175 (life_of (unit 5) 3 backwards)
backwards-held =
    let supposed = computed_supposed (unit 5) none calls sent (session 175) backwards_computed (omega arith) in
    let ran = computed_ran (unit 5) none calls sent (session 175) backwards_computed in
    run-held 5 3 175 backwards (ran 3 last) (supposed.orderly 3 last)

-- both writes performed, in the order of their timestamps
pub backwards_reaches : figures_in (state_of (life_of (unit 5) 3 backwards).last).store ≡ record { failed = 0; value = 2; writes = 2 }
unfolding verdict_of react react_all machine figures_of
backwards_reaches = session_reaches 5 3 175 (life_of (unit 5) 3 backwards) (omega arith) backwards-held
