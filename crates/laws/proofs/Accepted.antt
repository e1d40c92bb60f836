-- What the calls accept, by name: the settings and the number of a replica, a request that came in bytes, a delivery, a step.
use Prim.Native.Nat.{ℕ, ◌+◌, ◌*◌, ◌^◌, ◌≤◌, ◌<◌}
use mathlib.Core.Path.{◌≡◌, sym, ap, ◌∙◌, subst}
use mathlib.Core.Bool.{true}
use mathlib.Core.List.{List, [], ◌∷◌}
use native.Mathlib.Omega.{arith}
use lib.Dec.{leb}
use lib.ListN.{length, take, drop, length-take, length-drop, get_or-eq_default}
use lib.Seq.{get_or-take, get_or-drop, length-take-le}
use borrow.Author.Tests.{eqb-true, leb-true, leb-false, ltb-true}
use Rattle.limits.specs.Limits.{max_groups, max_delta, places, output_size}
use Rattle.question.specs.Question.{Question, ◌else◌, given, ask, within, unit_questions}
use Rattle.layout.specs.Number.{Bytes, number as says}
use Rattle.layout.specs.Layout.{field, fields_of}
use Rattle.record.specs.Kind.{write, is_write}
use Rattle.record.specs.Record.{request_in, read_fields, read_request}
use Rattle.record.specs.declared.kind.Family.TheVariants.{Requests}
use Rattle.layout.specs.declared.clock.LocalTime.{LocalTime}
use Rattle.record.specs.declared.request.Request.{Request}
use Rattle.question.proofs.Questions.{AllYes, all_yes_parts, ask-all_yes, ask_through, bind-given, same_given}
use Rattle.layout.proofs.Numbers.{number_below}
use Rattle.record.proofs.Facts.{variable-small, write-variable}
use Rattle.record.proofs.Reading.{Readable, read_readable, read_is}
use Rattle.rules.specs.declared.Settings.{Settings}
use Rattle.rules.specs.Replica.{State, new_state, make, settings_questions, make_questions, place_questions, admit, Stepped, stepped, step_questions, step}
use Rattle.question.proofs.Tests.{case, within-true, unit_facts}

-- ── accepted settings ──

pub record Made (u : Settings) (number : ℕ) : Type 0 where
  pub unit : AllYes (unit_questions u.k u.groups)
  pub k : u.k ≤ 3
  pub groups : u.groups ≤ 4
  pub owner-low : 1 ≤ u.owner
  pub owner-high : u.owner ≤ u.groups
  pub number-low : 1 ≤ number
  pub number-high : number ≤ 2 * u.k + 1

pub make-made : (u : Settings) (number : ℕ) {s : State} → make u number ≡ given s → Made u number
unfolding make
make-made u number e =
    let own = (within 1 (2 * u.k + 1) number else 5) ∷ [] in
    let rest = (within 1 u.groups u.owner else 3) ∷ (leb u.delta max_delta else 4) ∷ [] in
    let all = ask-all_yes (make_questions u number) (given (new_state u number)) e in
    let made = all_yes_parts (settings_questions u) own all in
    let settings = all_yes_parts (unit_questions u.k u.groups) rest made.0 in
    let owner = within-true 1 u.groups u.owner settings.1.0 in
    let number_in = within-true 1 (2 * u.k + 1) number made.1.0 in
    record {
      unit = settings.0;
      k = (unit_facts u.k u.groups settings.0).k-high;
      groups = (unit_facts u.k u.groups settings.0).n-high;
      owner-low = owner.0;
      owner-high = owner.1;
      number-low = number_in.0;
      number-high = number_in.1;
    }

-- ── accepted requests ──

-- a request that passed the questions and came in bytes
pub record Proper (k n : ℕ) (r : Request) : Type 0 where
  pub group-low : 1 ≤ r.group
  pub group-high : r.group ≤ n
  pub process-low : 1 ≤ r.process
  pub process-high : r.process ≤ k + 1
  pub variable : r.variable ≤ 255
  pub written : is_write r ≡ true → 1 ≤ r.variable
  pub timestamp : r.timestamp.0 < 256 ^ 8
  pub value : r.value < 256 ^ 4

bytes-part : (bytes : List ℕ) → Bytes bytes → (at width : ℕ) → Bytes (take width (drop at bytes))
bytes-part bytes h at width i = case (leb width i)
    (λ e.
    let out : length (take width (drop at bytes)) ≤ i = rw length-take (omega (arith, leb-true width i e)) in
    rw (get_or-eq_default (take width (drop at bytes)) 0 out) (omega arith))
    (λ e. rw (get_or-take width (drop at bytes) i 0 (leb-false width i e), get_or-drop at bytes i 0) (h (at + i)))

-- a part of bytes says a number of its width
part_below : (bytes : List ℕ) → Bytes bytes → (at width : ℕ) → at + width ≤ length bytes → says (take width (drop at bytes)) < 256 ^ width
part_below bytes h at width fits =
    let long : length (take width (drop at bytes)) ≡ width = length-take-le width (drop at bytes) (rw length-drop (omega arith)) in
    rw long at (number_below (take width (drop at bytes)) (bytes-part bytes h at width))

-- whatever it came in: what was read passed the questions, and the accepted request is what its fields say
read_asked : (k n : ℕ) (bytes : List ℕ) {r : Request} → read_request k n bytes ≡ given r → Readable Requests k n bytes × (request_in (fields_of bytes) ≡ r)
read_asked k n bytes e =
    let read = bind-given (read_fields Requests k n bytes) (λ f. given (request_in f)) e in
    (read_readable Requests k n bytes read.1, ap request_in (read_is Requests k n bytes read.1) ∙ same_given read.2)

pub read-proper : (k n : ℕ) (bytes : List ℕ) {r : Request} → Bytes bytes → read_request k n bytes ≡ given r → Proper k n r
unfolding fields_of
read-proper k n bytes h e =
    let read = read_asked k n bytes e in
    let f = fields_of bytes in
    let asked = read.0 in
    let long = asked.long in
    let group = within-true 1 n f.group asked.fields.group in
    let process = within-true 1 (k + 1) f.process asked.fields.process in
    subst (Proper k n) read.1 (record {
      group-low = group.0;
      group-high = group.1;
      process-low = process.0;
      process-high = process.1;
      variable = variable-small asked.fields;
      written = λ w. write-variable asked.fields (eqb-true f.kind write w);
      timestamp = part_below bytes h 8 8 (omega arith);
      value = part_below bytes h 16 4 (omega arith);
    })

-- its group is what byte 1 names
pub read_names : (k n : ℕ) (bytes : List ℕ) {r : Request} → read_request k n bytes ≡ given r → r.group ≡ field bytes 1 1
unfolding fields_of
read_names k n bytes e = ap (λ (r : Request). r.group) (sym (read_asked k n bytes e).1)

-- whatever it came in, an accepted request is of a process within 1 to k + 1
pub read-process : (k n : ℕ) (bytes : List ℕ) {r : Request} → read_request k n bytes ≡ given r → (1 ≤ r.process) × (r.process ≤ k + 1)
read-process k n bytes e =
    let read = read_asked k n bytes e in
    subst (λ (r : Request). (1 ≤ r.process) × (r.process ≤ k + 1)) read.1 (within-true 1 (k + 1) (fields_of bytes).process read.0.fields.process)

-- and of a group within 1 to 4
pub read-group : (k n : ℕ) (bytes : List ℕ) {r : Request} → read_request k n bytes ≡ given r → (1 ≤ r.group) × (r.group ≤ max_groups)
read-group k n bytes e =
    let read = read_asked k n bytes e in
    let group = within-true 1 n (fields_of bytes).group read.0.fields.group in
    subst (λ (r : Request). (1 ≤ r.group) × (r.group ≤ max_groups)) read.1 (group.0, omega (arith, group.1, (unit_facts k n read.0.unit).n-high))

-- ── accepted calls ──

-- what an accepted delivery was asked, beside the record
pub record Admitted (s : State) (bytes : List ℕ) (now : LocalTime) (r : Request) : Type 0 where
  pub reads : read_request s.settings.k s.settings.groups bytes ≡ given r
  pub late : s.last.0 ≤ now.0
  pub room : length (s.pending r.group) < places

pub admit_admitted : (s : State) (bytes : List ℕ) (now : LocalTime) {r : Request} → admit s bytes now ≡ given r → Admitted s bytes now r
unfolding admit
admit_admitted s bytes now e =
    let questions : Request → List Question = λ q. place_questions s.last (length (s.pending q.group)) now in
    let read = bind-given (read_request s.settings.k s.settings.groups bytes) (λ q. ask (questions q) (given q)) e in
    let q = read.0 in
    let all = ask-all_yes (questions q) (given q) read.2 in
    let same = ask_through (questions q) (given q) read.2 in
    record {
      reads = read.1 ∙ same;
      late = leb-true s.last.0 now.0 all.1.0;
      room = rw (← same_given same) (ltb-true (length (s.pending q.group)) places all.1.1.0);
    }

module _ (s : State) (now : LocalTime) (output : List ℕ) {d : Stepped} (e : step s now output ≡ given d) where
  step-asked : AllYes (step_questions s.last now (length output))
  unfolding step
  step-asked = ask-all_yes (step_questions s.last now (length output)) (given (stepped s now output)) e

  pub step-late : s.last.0 ≤ now.0
  step-late = leb-true s.last.0 now.0 step-asked.1.0

  pub step_room : output_size ≤ length output
  step_room = leb-true output_size (length output) step-asked.1.1.0
