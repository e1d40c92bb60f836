-- The output while it is written: each message stands behind those before it, and where it is refused nothing is written.
use Prim.Native.Nat.{ℕ, suc, ◌+◌, ◌*◌, ◌-◌, ◌≤◌, ◌<◌}
use mathlib.Core.Path.{◌≡◌, refl, sym}
use mathlib.Core.List.{List, [], ◌∷◌, ◌++◌, map, append-nil, map-append}
use native.Mathlib.Numerals.{add-one}
use native.Mathlib.Omega.{arith}
use lib.ListN.{length, take, drop, length-drop, take-append-drop, drop_of_length-le}
use lib.Seq.{take_all}
use borrow.Rule.Slice.PartMut.{put_mid}
use Rattle.question.specs.Question.{Answer, given, refused, worked, after, verdict}
use Rattle.record.specs.Record.{message_fields, write_message}
use Rattle.record.specs.declared.kind.Family.TheVariants.{Messages}
use Rattle.record.specs.declared.message.Message.{Message}
use Rattle.rules.specs.Lists.{up_to}
use Rattle.rules.specs.Replica.{Written, written, behind, put, put_all}
use Rattle.question.proofs.Tests.{unit_facts}
use Rattle.record.proofs.Reading.{write_writable}

-- ── one message ──

module _ (k n : ℕ) (m : Message) (count : ℕ) (o : List ℕ) where
  -- the part of the output that begins where the last record ended
  abbrev part : List ℕ
  part = drop (24 * count) o

  abbrev answer : Answer (List ℕ)
  answer = write_message k n m part

  -- as it is lent, and as it comes back
  abbrev lent : List ℕ
  lent = take (length o - count * 24) (drop (count * 24) o)

  abbrev back : List ℕ
  back = put_mid (count * 24) (length o - count * 24) o (after lent (write_message k n m lent))

  part-lent : count * 24 ≤ length o → lent ≡ part
  part-lent h =
      let e : count * 24 ≡ 24 * count = omega arith in
      rw e (take_all (length o - 24 * count) part (rw length-drop (omega arith)))

  part_back : count * 24 ≤ length o → back ≡ take (24 * count) o ++ after part answer
  part_back h =
      let e : count * 24 ≡ 24 * count = omega arith in
      let none : drop (length o - 24 * count) part ≡ [] = drop_of_length-le part {i = length o - 24 * count} (rw length-drop (omega arith)) in
      rw (part-lent h, e, none, append-nil)

  -- a message that was written counts
  pub put-done : count * 24 ≤ length o → verdict (write_message k n m lent) ≡ given worked → written (count + 1) back ≡ put k n (written count o) m
  unfolding put
  put-done h e = rw (part_back h) (go answer (rw (part-lent h) at e))
    where
      go : (a : Answer (List ℕ)) → verdict a ≡ given worked → written (count + 1) (take (24 * count) o ++ after part a) ≡ behind (written count o) a
      go (given rest) e = refl
      go (refused number) e = absurd (let z : ◌≡◌ {A = ℕ} 0 1 = cc in omega arith)

  -- one that was refused changes nothing
  pub put_refused : {number : ℕ} → count * 24 ≤ length o → verdict (write_message k n m lent) ≡ refused number → written count back ≡ put k n (written count o) m
  unfolding put
  put_refused h e = rw (part_back h) (go answer (rw (part-lent h) at e))
    where
      go : (a : Answer (List ℕ)) {number : ℕ} → verdict a ≡ refused number
          → written count (take (24 * count) o ++ after part a) ≡ behind (written count o) a
      go (given rest) e = absurd (let z : ◌≡◌ {A = ℕ} 0 1 = cc in omega arith)
      go (refused number) e = rw (take-append-drop (24 * count) o)

  -- no record has room
  pub put_full : length o < 24 * count + 24 → written count o ≡ put k n (written count o) m
  unfolding put
  put_full h = go answer refl
    where
      go : (a : Answer (List ℕ)) → answer ≡ a → written count o ≡ behind (written count o) answer
      go (given rest) e =
          let room : 24 ≤ length part = (write_writable Messages k n (message_fields m) part e).room in
          absurd (omega (arith, length-drop (24 * count) o, room))
      go (refused number) e = rw e

  -- k is no unit's
  pub put_no_unit : 3 < k → put k n (written count o) m ≡ written count o
  unfolding put
  put_no_unit h = go answer refl
    where
      go : (a : Answer (List ℕ)) → answer ≡ a → behind (written count o) answer ≡ written count o
      go (given rest) e =
          let unit = (write_writable Messages k n (message_fields m) part e).unit in
          absurd (omega (arith, (unit_facts k n unit).k-high))
      go (refused number) e = rw e

-- ── messages, one after the other ──

pub put-append : (k n : ℕ) (w : Written) (a b : List Message) → put_all k n w (a ++ b) ≡ put_all k n (put_all k n w a) b
unfolding put_all
put-append k n w [] b = refl
put-append k n w (m ∷ a) b = put-append k n (put k n w m) a b

-- where k is no unit's, nothing is written
pub none_written : (k n : ℕ) (w : Written) (messages : List Message) → 3 < k → put_all k n w messages ≡ w
unfolding put_all
none_written k n w [] h = refl
none_written k n w (m ∷ messages) h = rw (put_no_unit k n m w.count w.output h) (none_written k n w messages h)

-- to each of 1 to p + 1 a message, ascending
pub put-up_to : (k n : ℕ) (w : Written) (f : ℕ → Message) (p : ℕ)
    → put k n (put_all k n w (map f (up_to p))) (f (p + 1)) ≡ put_all k n w (map f (up_to (p + 1)))
unfolding put_all
put-up_to k n w f p = rw (add-one p, map-append) (sym (put-append k n w (map f (up_to p)) (f (suc p) ∷ [])))
