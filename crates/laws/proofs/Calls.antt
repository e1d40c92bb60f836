-- What a call to a sound replica does: nothing, or one request arrives, or a step's visits; and the messages of a step are those that
-- its visits send, read back from the bytes.
use Prim.Native.Nat.{ℕ, ◌*◌, ◌≤◌, ◌<◌}
use mathlib.Core.Path.{◌≡◌, refl, sym, ◌∙◌, ap, subst}
use mathlib.Core.Logic.{⊎_elim}
use mathlib.Core.List.Memᴰ
use mathlib.Core.List.{List, [], ◌∷◌, ◌++◌}
use native.Mathlib.Omega.{arith}
use lib.ListN.{length, drop, length-append}
use Rattle.limits.specs.Limits.{places, record_size}
use Rattle.question.specs.Question.{Answer, given, refused, after, map_answer}
use Rattle.layout.specs.declared.clock.LocalTime.{LocalTime}
use Rattle.record.specs.declared.request.Request.{Request}
use Rattle.rules.specs.Batch.{Effect, still}
use Rattle.rules.specs.declared.Settings.{Settings}
use Rattle.rules.specs.Replica.{State, Stepped, admit, arrive, deliver, visits, at_time, Written, written, put_all, stepped, step}
use Rattle.rules.specs.Run.{Call, delivery, turn, LentTo, Lent, messages_in, sent_by, call, run, exchange, arrived, arrival_in}
use Rattle.rules.specs.declared.Pending.{Pending}
use Rattle.laws.specs.Output.{record_bytes, HoldsRecords}
use Rattle.laws.proofs.Queues.{replace_all, arrive_in, arrive-housed}
use Rattle.laws.proofs.Step.{step_accepted_lem, step_keeps, step_at_most_67}
use Rattle.laws.proofs.Records.{written-records, read-records}
use Rattle.laws.proofs.Accepted.{Made, Proper, read-proper, admit_admitted, step-late, step_room}
use Rattle.laws.proofs.Exchanges.{read_with, arrival_admitted}
use Rattle.laws.proofs.Sound.{Sound, visits_soundly}

-- ── the settings ──

-- no call changes them, whatever the replica
pub call-settings : (s : State) (c : Call) → (call s c).state.settings ≡ s.settings
unfolding call deliver
call-settings s (delivery bytes now) = go (admit s bytes now)
  where
    go : (a : Answer Request) → (after s (map_answer (λ r. arrive s r now) a)).settings ≡ s.settings
    go (given r) = refl
    go (refused number) = refl
call-settings s (turn now output) = go (step s now output) refl
  where
    go : (a : Answer Stepped) → step s now output ≡ a → (sent_by s a).state.settings ≡ s.settings
    go (given d) e = (step_keeps s now output e).settings
    go (refused number) e = refl

-- ── the three things, of a sound replica ──

-- a call that is refused, a delivery that is accepted, a step that is
pub data Act (u : Settings) (s : State) (c : Call) : Type 0 where
  nothing : call s c ≡ still s → arrival_in u (exchange s c) ≡ [] → Act u s c
  arrives : (r : Request) (now : LocalTime) → Proper u.k u.groups r → s.last.0 ≤ now.0 → length (s.pending r.group) < places
      → call s c ≡ still (arrive s r now) → arrival_in u (exchange s c) ≡ arrived u.owner now (given r) → Act u s c
  steps : (now : LocalTime) → s.last.0 ≤ now.0 → call s c ≡ visits u.groups now (at_time now s) → arrival_in u (exchange s c) ≡ [] → Act u s c

module _ (u : Settings) (me : ℕ) (ok : Made u me) where
  -- the time makes no difference
  pub at_sound : (s : State) (now : LocalTime) → Sound u me s → Sound u me (at_time now s)
  at_sound s now h =
      record { settings = h.settings; number = h.number; pending = h.pending; housed = h.housed; few = h.few; store = h.store }

  -- what an accepted step wrote: its answer counts what its visits send, and the records of that stand before the old bytes
  pub step-wrote : (s : State) (now : LocalTime) (output : List ℕ) {d : Stepped} → Sound u me s → step s now output ≡ given d
      → HoldsRecords u (visits u.groups now (at_time now s)).sent output d
  unfolding stepped
  step-wrote s now output {d} h e =
      let done : Effect State = visits u.groups now (at_time now s) in
      let n = length done.sent in
      let groups : visits s.settings.groups now (at_time now s) ≡ done = ap (λ (v : Settings). visits v.groups now (at_time now s)) h.settings in
      let most : n ≤ 67 =
      rw groups at (step_at_most_67 s now (rw h.settings ok.k) (rw h.settings ok.groups) h.few (omega (arith, h.store.variables))) in
      let sendable = (visits_soundly u me ok u.groups now (at_time now s) (at_sound s now h)).1 in
      let records = written-records u.k u.groups ok.unit done.sent output sendable (omega (arith, step_room s now output e)) in
      let same : written d.count d.output ≡ written n (record_bytes done.sent ++ drop (record_size * n) output) =
      ap (λ (x : Stepped). written x.count x.output) (step_accepted_lem s now output e)
      ∙ (ap (λ (v : Settings). put_all v.k v.groups (written 0 output) (visits v.groups now (at_time now s)).sent) h.settings ∙ records) in
      let count = ap (λ (w : Written). w.count) same in
      let bytes = ap (λ (w : Written). w.output) same in
      record {
        count = count;
        records = bytes;
        read = rw (count, bytes) (read-records u.k u.groups ok.unit done.sent (drop (record_size * n) output) sendable);
      }

  -- an accepted step as a call: the messages whose records it wrote are those that its visits send
  pub call_step : (s : State) (now : LocalTime) (output : List ℕ) {d : Stepped} → Sound u me s → step s now output ≡ given d
      → call s (turn now output) ≡ visits u.groups now (at_time now s)
  unfolding call stepped
  call_step s now output {d} h e =
      let state : d.state ≡ (visits u.groups now (at_time now s)).state =
      ap (λ (x : Stepped). x.state) (step_accepted_lem s now output e)
      ∙ ap (λ (v : Settings). (visits v.groups now (at_time now s)).state) h.settings in
      let sent =
      subst (λ (v : Settings). messages_in v.k v.groups d.count d.output ≡ (visits u.groups now (at_time now s)).sent)
      (sym h.settings) (step-wrote s now output h e).read in
      ap (sent_by s) e ∙ rw (state, sent)

  pub call_act : (s : State) (c : Call) → Sound u me s → LentTo c → Act u s c
  unfolding call deliver
  call_act s (delivery bytes now) h lent = go (admit s bytes now) refl
    where
      go : (a : Answer Request) → admit s bytes now ≡ a → Act u s (delivery bytes now)
      go (refused number) e = nothing (rw e) (rw e)
      go (given r) e =
          let a = admit_admitted s bytes now e in
          let arrival = arrival_admitted u s bytes now h.settings ∙ ap (arrived u.owner now) e in
          arrives r now (read-proper u.k u.groups bytes lent (read_with s bytes now h.settings e)) a.late a.room (rw e) arrival
  call_act s (turn now output) h lent = go (step s now output) refl
    where
      go : (a : Answer Stepped) → step s now output ≡ a → Act u s (turn now output)
      go (refused number) e = nothing (rw e) refl
      go (given d) e = steps now (step-late s now output e) (call_step s now output h e) refl

  -- each keeps the state sound
  pub call-sound : (s : State) (c : Call) → Sound u me s → LentTo c → Sound u me (call s c).state
  call-sound s c h lent = go (call_act s c h lent)
    where
      go : Act u s c → Sound u me (call s c).state
      go (nothing e a) = rw e h
      go (arrives r now p late room e a) = rw e (record {
        settings = h.settings;
        number = h.number;
        pending = λ g x i. ⊎_elim (h.pending g x)
            (λ j. subst (λ (y : Pending). Proper u.k u.groups y.request) (sym j.0) p)
            (arrive_in s r now g x i);
        housed = arrive-housed s r now h.housed;
        few =
            let new : List Pending = record { request = r; arrival = now } ∷ [] in
            replace_all r.group (s.pending r.group ++ new) s.pending (λ g l. length l ≤ places)
            (omega (arith, length-append (s.pending r.group) new)) h.few;
        store = h.store;
      })
      go (steps now late e a) = rw e (visits_soundly u me ok u.groups now (at_time now s) (at_sound s now h)).0

  -- so every state of a run is sound
  pub run_sound : (calls : List Call) (s : State) → Sound u me s → Lent calls → Sound u me (run s calls).state
  unfolding run
  run_sound [] s h lent = h
  run_sound (c ∷ calls) s h lent =
      run_sound calls (call s c).state (call-sound s c h (lent c (Memᴰ.head refl))) (λ x i. lent x (Memᴰ.tail i))
