-- The messages among the records that were sent, and their lines put one behind the other. Assumes nothing.
use Prim.Native.Nat.{ℕ, zero, suc, ◌+◌, ◌<◌}
use mathlib.Core.Path.{◌≡◌, refl}
use mathlib.Core.List.{List, [], ◌++◌, map, map-append}
use lib.ListN.{length, take, drop, length-drop}
use lib.Seq.{take_all, take_at, drop_at}
use native.Mathlib.Numerals.{add-one}
use native.Mathlib.Omega.{arith}
use Rattle.limits.specs.Limits.{record_size}
use Rattle.text.specs.Text.{joined}
use Rattle.text.specs.Writer.{put}
use Rattle.text.specs.declared.Writer.{Writer}
use Rattle.text.proofs.Lines.{joined-append}
use Rattle.text.proofs.Put.{puts}
use Rattle.question.specs.Question.{Answer, given, refused}
use Rattle.question.proofs.Questions.{bind-given}
use Rattle.record.specs.Record.{message_in, read_fields, read_message}
use Rattle.record.specs.declared.kind.Family.TheVariants.{Messages}
use Rattle.record.specs.declared.message.Message.{Message}
use Rattle.record.proofs.Reading.{read_readable}
use Rattle.rules.specs.Run.{accepted, messages_in}
use Rattle.lines.specs.Lines.{message_line}

module _ (k n : ℕ) where
  -- a part of a record is no message
  part-refused : (bytes : List ℕ) → length bytes < record_size → accepted (read_message k n bytes) ≡ []
  part-refused bytes h = none (read_message k n bytes) refl where
    none : (answer : Answer Message) → read_message k n bytes ≡ answer → accepted answer ≡ []
    none (given m) e =
        let read = bind-given (read_fields Messages k n bytes) (λ f. given (message_in f)) e in
        absurd (omega (arith, (read_readable Messages k n bytes read.1).long))
    none (refused number) e = refl

  -- behind the last whole record there is none
  pub no_messages : (count : ℕ) (sent : List ℕ) → length sent < record_size → messages_in k n count sent ≡ []
  unfolding messages_in
  no_messages zero sent h = refl
  no_messages (suc count) sent h =
      rw (
        part-refused (take record_size sent) (rw (take_all record_size sent (omega arith)) h),
        no_messages count (drop record_size sent) (omega (arith, length-drop record_size sent)),
      )

  -- nor where no more are asked for
  pub none_left : (count : ℕ) (sent : List ℕ) → (0 < count → length sent < record_size) → messages_in k n count sent ≡ []
  unfolding messages_in
  none_left zero sent h = refl
  none_left (suc count) sent h = no_messages (suc count) sent (h (omega arith))

  -- one record's line, then those of the records behind it
  pub put_next : (w v : Writer) (count more : ℕ) (sent bytes rest : List ℕ) →
      sent ≡ bytes ++ rest → length bytes ≡ record_size → count + 1 ≡ more →
      v ≡ put w (joined (map message_line (accepted (read_message k n bytes)))) →
      put v (joined (map message_line (messages_in k n count rest))) ≡ put w (joined (map message_line (messages_in k n more sent)))
  unfolding messages_in
  put_next w v count more sent bytes rest cut long counted e =
      let first = accepted (read_message k n bytes) in
      let others = messages_in k n count rest in
      rw (e, ← counted, add-one, cut, take_at bytes rest record_size long, drop_at bytes rest record_size long, map-append message_line first others, joined-append (map message_line first) (map message_line others))
      (puts w (joined (map message_line first)) (joined (map message_line others)))
