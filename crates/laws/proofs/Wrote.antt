-- What was written, not what was meant: of every state that a run reaches, over the bytes of the output.
use Prim.Native.Nat.{ℕ}
use mathlib.Core.Path.{◌≡◌, subst}
use mathlib.Core.Logic.{◌↔◌}
use mathlib.Core.List.{List, Memᴰ}
use Rattle.question.specs.Question.{given}
use Rattle.layout.specs.declared.clock.LocalTime.{LocalTime}
use Rattle.record.specs.declared.message.Message.{Message}
use Rattle.rules.specs.Replica.{State, Stepped, new_state, make, visits, at_time, step}
use Rattle.rules.specs.Run.{Call, Lent, messages_in, run}
use Rattle.rules.specs.declared.Settings.{Settings}
use Rattle.laws.specs.Handled.{ForHandled}
use Rattle.laws.specs.Output.{HoldsRecords}
use Rattle.laws.proofs.Accepted.{Made, make-made}
use Rattle.laws.proofs.Sound.{Sound, new_sound}
use Rattle.laws.proofs.Values.{sent_exactly}
use Rattle.laws.proofs.Calls.{step-wrote, run_sound}

module _ (u : Settings) (number : ℕ) (made : make u number ≡ given (new_state u number)) (calls : List Call) (lent : Lent calls)
    (now : LocalTime) (output : List ℕ) where
  abbrev reached : State
  reached = (run (new_state u number) calls).state

  ok : Made u number
  ok = make-made u number made

  sound : Sound u number reached
  sound = run_sound u number ok calls (new_state u number) (new_sound u number) lent

  -- as many records as the answer counts, those of the messages that its visits send, and then the bytes that stood there
  pub run-wrote : {d : Stepped} → step reached now output ≡ given d → HoldsRecords u (visits u.groups now (at_time now reached)).sent output d
  run-wrote e = step-wrote u number ok reached now output sound e

  -- the messages that are read from those bytes are exactly those of the handled batches
  pub run-sent_exactly : {d : Stepped} → step reached now output ≡ given d
      → (m : Message) → Memᴰ m (messages_in u.k u.groups d.count d.output) ↔ ForHandled reached now m
  run-sent_exactly e m =
      rw (run-wrote e).read
      (subst (λ (v : Settings). Memᴰ m (visits v.groups now (at_time now reached)).sent ↔ ForHandled reached now m) sound.settings
      (sent_exactly reached now m))
