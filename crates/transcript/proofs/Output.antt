-- What a step writes stands within the output; and it, and what is printed of it, does not depend on what stood there before. Assumes nothing.
use Prim.Native.Nat.{ℕ, zero, suc, ◌+◌, ◌*◌, ◌≤◌}
use mathlib.Core.Path.{◌≡◌, refl, sym, ap, ◌∙◌}
use mathlib.Core.List.{List, [], ◌∷◌, ◌++◌, map}
use native.Mathlib.Nat.{zero-add}
use native.Mathlib.Omega.{arith}
use lib.ListN.{length, take, drop, length-append, length-take, length-drop}
use lib.Seq.{length-take-le, take-nil, take-take, take-append_seam, take-append-add}
use Rattle.limits.specs.Limits.{record_size}
use Rattle.text.specs.Text.{joined}
use Rattle.question.specs.Question.{Answer, given, refused, Worked, worked, ask, map_answer}
use Rattle.question.proofs.Questions.{same_given, ask-map}
use Rattle.layout.specs.Layout.{bytes_of}
use Rattle.layout.proofs.Layouts.{length-bytes_of}
use Rattle.layout.specs.declared.clock.LocalTime.{LocalTime}
use Rattle.record.specs.Record.{message_fields, read_message, write_message}
use Rattle.record.specs.declared.kind.Family.TheVariants.{Messages}
use Rattle.record.specs.declared.message.Message.{Message}
use Rattle.record.proofs.Reading.{Writable, write-given, write_writable}
use Rattle.rules.specs.declared.Settings.{Settings}
use Rattle.rules.specs.Replica.{State, Stepped, Written, written, behind, put, put_all, visits, at_time, stepped, step_questions, step}
use Rattle.rules.specs.Run.{accepted, messages_in}
use Rattle.laws.proofs.Step.{step_accepted_lem}
use Rattle.lines.specs.Lines.{message_line}
use Rattle.transcript.specs.Journal.{lines_of}

-- ── one record ──

module _ (k n : ℕ) (m : Message) where
  abbrev rest : Written → List ℕ
  rest w = drop (record_size * w.count) w.output

  abbrev after : Written → List ℕ
  after w = bytes_of (message_fields m) ++ drop record_size (rest w)

  -- the length stays
  written-length : (w : Written) → Writable Messages k n (message_fields m) (rest w)
      → length (take (record_size * w.count) w.output ++ after w) ≡ length w.output
  written-length w f =
      let start = take (record_size * w.count) w.output in
      omega (
        arith,
        f.room,
        length-append start (after w),
        length-append (bytes_of (message_fields m)) (drop record_size (rest w)),
        length-bytes_of (message_fields m),
        length-take (record_size * w.count) w.output,
        length-drop record_size (rest w),
        length-drop (record_size * w.count) w.output,
      )

-- ── how many there are ──

-- records that stand within an output of so many bytes
abbrev Within : ℕ → Written → Type 0
Within size w = (record_size * w.count ≤ size) × (length w.output ≡ size)

module _ (k n size : ℕ) where
  put-within : (w : Written) (m : Message) → Within size w → Within size (put k n w m)
  unfolding put
  put-within w m h = go (write_message k n m (rest k n m w)) refl
    where
      go : (a : Answer (List ℕ)) → write_message k n m (rest k n m w) ≡ a → Within size (behind w a)
      go (given bytes) e =
          let fits = write_writable Messages k n (message_fields m) (rest k n m w) e in
          let is : bytes ≡ after k n m w = same_given (sym e ∙ write-given Messages k n fits) in
          let room = fits.room in
          let long = length-drop (record_size * w.count) w.output in
          (omega arith, rw is (written-length k n m w fits ∙ h.1))
      go (refused number) e = h

  all_within : (messages : List Message) (w : Written) → Within size w → Within size (put_all k n w messages)
  unfolding put_all
  all_within [] w h = h
  all_within (m ∷ messages) w h = all_within messages (put k n w m) (put-within w m h)

-- whatever the replica, the records that an accepted step counts stand in the output
pub step-within : (s : State) (at : LocalTime) (output : List ℕ) {d : Stepped} → step s at output ≡ given d → record_size * d.count ≤ length output
unfolding stepped
step-within s at output e =
    rw (step_accepted_lem s at output e)
    (all_within s.settings.k s.settings.groups (length output) (visits s.settings.groups at (at_time at s)).sent (written 0 output) (omega arith, refl)).0

-- ── whatever stood there ──

-- as many records, the same ones, in outputs of one length
record Alike (v w : Written) : Type 0 where
  count : v.count ≡ w.count
  long : length v.output ≡ length w.output
  front : take (record_size * v.count) v.output ≡ take (record_size * v.count) w.output

alike_back : (v w : Written) → Alike v w → Alike w v
alike_back v w h = record { count = sym h.count; long = sym h.long; front = sym (rw h.count at h.front) }

module _ (k n : ℕ) (m : Message) where
  -- where one can be written, so can the other
  fits : (v w : Written) → Alike v w → Writable Messages k n (message_fields m) (rest k n m v) → Writable Messages k n (message_fields m) (rest k n m w)
  fits v w h f =
      record {
        unit = f.unit;
        fields = f.fields;
        room = omega (arith, f.room, h.long, h.count, length-drop (record_size * v.count) v.output, length-drop (record_size * w.count) w.output);
      }

  -- what stands in front then
  front_is : (w : Written) → Writable Messages k n (message_fields m) (rest k n m w)
      → take (record_size * (w.count + 1)) (take (record_size * w.count) w.output ++ after k n m w) ≡ take (record_size * w.count) w.output ++ bytes_of (message_fields m)
  front_is w f =
      let start = take (record_size * w.count) w.output in
      let bytes = bytes_of (message_fields m) in
      let long : length start ≡ record_size * w.count = length-take-le (record_size * w.count) w.output (omega (arith, f.room, length-drop (record_size * w.count) w.output)) in
      let end : record_size * (w.count + 1) ≡ length start + length bytes = omega (arith, long, length-bytes_of (message_fields m)) in
      rw end (take-append-add start (after k n m w) (length bytes) ∙ ap (λ l. start ++ l) (take-append_seam bytes (drop record_size (rest k n m w))))

  -- a record that is written stands in both, one that is refused in neither
  put-alike : (v w : Written) → Alike v w → Alike (put k n v m) (put k n w m)
  unfolding put
  put-alike v w h = go (write_message k n m (rest k n m v)) refl (write_message k n m (rest k n m w)) refl
    where
      go : (a : Answer (List ℕ)) → write_message k n m (rest k n m v) ≡ a → (b : Answer (List ℕ)) → write_message k n m (rest k n m w) ≡ b → Alike (behind v a) (behind w b)
      go (given x) e (given y) f =
          let fv = write_writable Messages k n (message_fields m) (rest k n m v) e in
          let fw = write_writable Messages k n (message_fields m) (rest k n m w) f in
          let is_x : x ≡ after k n m v = same_given (sym e ∙ write-given Messages k n fv) in
          let is_y : y ≡ after k n m w = same_given (sym f ∙ write-given Messages k n fw) in
          let same : take (record_size * w.count) v.output ≡ take (record_size * w.count) w.output = rw h.count at h.front in
          rw (is_x, is_y) (record {
            count = omega (arith, h.count);
            long = written-length k n m v fv ∙ (h.long ∙ sym (written-length k n m w fw));
            front = front_is v fv ∙ rw h.count (ap (λ l. l ++ bytes_of (message_fields m)) same ∙ sym (front_is w fw));
          })
      go (given x) e (refused q) f =
          let both = write-given Messages k n (fits v w h (write_writable Messages k n (message_fields m) (rest k n m v) e)) in
          absurd (let z : ◌≡◌ {A = ℕ} 0 1 = cc in omega arith)
      go (refused q) e (given y) f =
          let both = write-given Messages k n (fits w v (alike_back v w h) (write_writable Messages k n (message_fields m) (rest k n m w) f)) in
          absurd (let z : ◌≡◌ {A = ℕ} 0 1 = cc in omega arith)
      go (refused p) e (refused q) f = h

all_alike : (k n : ℕ) (messages : List Message) (v w : Written) → Alike v w → Alike (put_all k n v messages) (put_all k n w messages)
unfolding put_all
all_alike k n [] v w h = h
all_alike k n (m ∷ messages) v w h = all_alike k n messages (put k n v m) (put k n w m) (put-alike k n m v w h)

-- ── what is read of them ──

drop-take : (a b : ℕ) (l : List ℕ) → drop a (take (a + b) l) ≡ take b (drop a l)
drop-take zero b l = rw (zero-add b)
drop-take (suc a) b [] = rw (take-nil (suc a + b), take-nil b)
drop-take (suc a) b (x ∷ l) = let more : suc a + b ≡ suc (a + b) = omega arith in rw more (drop-take a b l)

-- the messages of the first records are those of their bytes
messages-front : (k n count : ℕ) (l : List ℕ) → messages_in k n count l ≡ messages_in k n count (take (record_size * count) l)
unfolding messages_in
messages-front k n zero l = refl
messages-front k n (suc count) l =
    let size : record_size * suc count ≡ record_size + record_size * count = omega arith in
    rw (size, take-take record_size (record_size + record_size * count) l (omega arith), drop-take record_size (record_size * count) l)
    (ap (λ others. accepted (read_message k n (take record_size l)) ++ others) (messages-front k n count (drop record_size l)))

alike-messages : (k n : ℕ) (v w : Written) → Alike v w → messages_in k n v.count v.output ≡ messages_in k n w.count w.output
alike-messages k n v w h =
    messages-front k n v.count v.output
    ∙ (ap (messages_in k n v.count) h.front ∙ (sym (messages-front k n v.count w.output) ∙ ap (λ c. messages_in k n c w.output) h.count))

-- ── a step ──

-- what it gives, where its questions are all answered yes
step_is : (s : State) (at : LocalTime) (output : List ℕ)
    → step s at output ≡ map_answer (λ _. stepped s at output) (ask (step_questions s.last at (length output)) (given worked))
unfolding step
step_is s at output = ask-map (step_questions s.last at (length output)) (λ _. stepped s at output) worked

module _ (s : State) (at : LocalTime) (one other : List ℕ) (same : length one ≡ length other) where
  abbrev first : Stepped
  first = stepped s at one

  abbrev second : Stepped
  second = stepped s at other

  alike : Alike (written first.count first.output) (written second.count second.output)
  unfolding stepped
  alike =
      all_alike s.settings.k s.settings.groups (visits s.settings.groups at (at_time at s)).sent (written 0 one) (written 0 other)
      (record { count = refl; long = same; front = refl })

  same_state : (b : Answer Worked) → map_answer (λ d. d.state) (map_answer (λ _. first) b) ≡ map_answer (λ d. d.state) (map_answer (λ _. second) b)
  unfolding stepped
  same_state (given w) = refl
  same_state (refused q) = refl

  pub step-state : map_answer (λ d. d.state) (step s at one) ≡ map_answer (λ d. d.state) (step s at other)
  step-state = rw (step_is s at one, step_is s at other, same) (same_state (ask (step_questions s.last at (length other)) (given worked)))

  pub step_lines : (u : Settings) (place : ℕ) → lines_of u place (step s at one) ≡ lines_of u place (step s at other)
  step_lines u place = rw (step_is s at one, step_is s at other, same) (go (ask (step_questions s.last at (length other)) (given worked)))
    where
      go : (b : Answer Worked) → lines_of u place (map_answer (λ _. first) b) ≡ lines_of u place (map_answer (λ _. second) b)
      go (given w) =
          ap (λ messages. joined (map message_line messages))
          (alike-messages u.k u.groups (written first.count first.output) (written second.count second.output) alike)
      go (refused q) = refl
