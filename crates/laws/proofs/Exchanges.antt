-- What passes in a call, and what is told by it: what arrived is what was admitted, and what was sent is what the call sent.
use Prim.Native.Nat.{ℕ}
use mathlib.Core.Path.{◌≡◌, refl, sym, ap, ◌∙◌}
use mathlib.Core.List.{List, [], ◌∷◌, flat_map}
use Rattle.question.specs.Question.{Answer, given, refused, is_given, after, map_answer}
use Rattle.layout.specs.declared.clock.LocalTime.{LocalTime}
use Rattle.record.specs.Record.{read_request}
use Rattle.record.specs.declared.request.Request.{Request}
use Rattle.rules.specs.Replica.{State, Stepped, admit, deliver, step}
use Rattle.rules.specs.Run.{Call, delivery, turn, messages_of, call, run, exchange, exchanges, arrived, arrival_in, sent_in}
use Rattle.rules.specs.declared.Settings.{Settings}
use Rattle.laws.proofs.Accepted.{admit_admitted}

-- what was admitted is what these settings read
pub read_with : {u : Settings} (s : State) (bytes : List ℕ) (now : LocalTime) {r : Request} → s.settings ≡ u → admit s bytes now ≡ given r
    → read_request u.k u.groups bytes ≡ given r
read_with s bytes now settings e = ap (λ (v : Settings). read_request v.k v.groups bytes) (sym settings) ∙ (admit_admitted s bytes now e).reads

-- what arrived is what was admitted
pub arrival_admitted : (u : Settings) (s : State) (bytes : List ℕ) (now : LocalTime) → s.settings ≡ u
    → arrival_in u (exchange s (delivery bytes now)) ≡ arrived u.owner now (admit s bytes now)
unfolding deliver
arrival_admitted u s bytes now settings = go (admit s bytes now) refl
  where
    go : (a : Answer Request) → admit s bytes now ≡ a → arrival_in u (exchange s (delivery bytes now)) ≡ arrived u.owner now (admit s bytes now)
    go (refused number) e = rw e
    go (given r) e = rw (e, read_with s bytes now settings e)

-- what passed in a step is a refusal where its answer is
pub step-passed : (s : State) (now : LocalTime) (output : List ℕ) → is_given (map_answer (messages_of s) (step s now output)) ≡ is_given (step s now output)
step-passed s now output = go (step s now output)
  where
    go : (a : Answer Stepped) → is_given (map_answer (messages_of s) a) ≡ is_given a
    go (given d) = refl
    go (refused number) = refl

-- what was sent is what the call sent
pub exchange-sent : (s : State) (c : Call) → sent_in (exchange s c) ≡ (call s c).sent
unfolding call
exchange-sent s (delivery bytes now) = refl
exchange-sent s (turn now output) = go (step s now output) refl
  where
    go : (a : Answer Stepped) → step s now output ≡ a → after [] (map_answer (messages_of s) (step s now output)) ≡ (call s (turn now output)).sent
    go (given d) e = rw e
    go (refused number) e = rw e

pub exchanges-sent : (s : State) (calls : List Call) → flat_map sent_in (exchanges s calls) ≡ (run s calls).sent
unfolding exchanges run flat_map
exchanges-sent s [] = refl
exchanges-sent s (c ∷ calls) = rw (exchange-sent s c, exchanges-sent (call s c).state calls)
