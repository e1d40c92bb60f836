-- How long the lines are: a message takes at most 132 bytes, a refusal 45, a card 68. Assumes nothing.
use Prim.Native.Nat.{ℕ, zero, suc, ◌+◌, ◌*◌, ◌≤◌}
use mathlib.Core.Path.{◌≡◌, refl}
use mathlib.Core.Bool.{Bool, true, false}
use mathlib.Core.List.{List, [], ◌∷◌, ◌++◌, map}
use lib.Dec.{eqb}
use lib.ListN.{length, take, drop, length-append}
use native.Mathlib.Omega.{arith}
use Rattle.text.specs.Text.{joined}
use Rattle.text.proofs.Lines.{line-short}
use Rattle.question.specs.Question.{Answer, given, refused}
use Rattle.record.specs.Kind.{reply}
use Rattle.record.specs.Record.{read_message}
use Rattle.record.specs.declared.message.Message.{Message}
use Rattle.rules.specs.Batch.{value_of}
use Rattle.rules.specs.Replica.{State}
use Rattle.rules.specs.Run.{accepted, messages_in}
use Rattle.lines.specs.Lines.{reply_word, halt_word, no_word, card_word, first_four, message_line, refusal_line, card_line}

message-short : (m : Message) → length (message_line m) ≤ 132
message-short m = kind (eqb m.kind reply) refl where
  kind : (b : Bool) → eqb m.kind reply ≡ b → length (message_line m) ≤ 132
  kind true e = rw e (omega (arith, line-short reply_word (first_four m ++ (m.variable ∷ m.value ∷ []))))
  kind false e = rw e (omega (arith, line-short halt_word (first_four m)))

accepted-short : (answer : Answer Message) (messages : List Message) →
    length (joined (map message_line (accepted answer ++ messages))) ≤ 132 + length (joined (map message_line messages))
accepted-short (given m) messages =
    omega (arith, length-append (message_line m) (joined (map message_line messages)), message-short m)
accepted-short (refused number) messages = omega arith

pub messages-short : (k n count : ℕ) (sent : List ℕ) →
    length (joined (map message_line (messages_in k n count sent))) ≤ 132 * count
unfolding messages_in
messages-short k n zero sent = omega arith
messages-short k n (suc count) sent =
    omega (arith, accepted-short (read_message k n (take 24 sent)) (messages_in k n count (drop 24 sent)), messages-short k n count (drop 24 sent))

pub refusal_short : (place number : ℕ) → length (refusal_line place number) ≤ 45
refusal_short place number = omega (arith, line-short no_word (place ∷ number ∷ []))

pub cards-short : (replicas : List State) → length (joined (map card_line replicas)) ≤ 68 * length replicas
cards-short [] = omega arith
cards-short (s ∷ replicas) =
    let numbers = s.number ∷ value_of 0 s.store ∷ s.store.writes ∷ [] in
    omega (arith, length-append (card_line s) (joined (map card_line replicas)), line-short card_word numbers, cards-short replicas)
