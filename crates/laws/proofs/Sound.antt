-- What a replica's state keeps: its pending requests passed the questions and stand in the queues of their groups, and its variables
-- are 256 of 32 bits, of which variable 0 is 0 or 1. So each message that a step sends passes the questions of a record.
use Prim.Native.Nat.{ℕ, zero, suc, ◌+◌, ◌*◌, ◌^◌, ◌≤◌, ◌<◌}
use mathlib.Core.Path.{◌≡◌, refl, sym, ◌∙◌, subst}
use mathlib.Core.Logic.{◌≢◌, ⊎_elim}
use mathlib.Core.Bool.{true}
use mathlib.Core.List.Memᴰ
use mathlib.Core.List.{List, [], ◌∷◌, Memᴰ}
use native.Mathlib.Omega.{arith}
use lib.ListN.{length, get_or, set, replicate, length-replicate}
use Rattle.limits.specs.Limits.{places}
use Rattle.record.specs.Kind.{is_of}
use Rattle.record.specs.Record.{message_fields, allows_variable, allows_value, spares_zero}
use Rattle.layout.specs.declared.clock.Timestamp.{Timestamp}
use Rattle.layout.specs.declared.clock.LocalTime.{LocalTime}
use Rattle.record.specs.declared.kind.Family.TheVariants.{Messages}
use Rattle.record.specs.declared.message.Message.{Message}
use Rattle.record.specs.declared.request.Request.{Request}
use Rattle.record.specs.Kind.{is_write}
use Rattle.rules.specs.Batch.{first_of, Store, Effect, follow, new_store, value_of, perform, reply_to, halt_to, handle}
use Rattle.rules.specs.declared.Settings.{Settings}
use Rattle.rules.specs.Replica.{State, new_state, requests_of, head_timestamp, batch_of, is_stable, handle_batch, visits}
use Rattle.rules.specs.declared.Pending.{Pending}
use Rattle.question.proofs.Tests.{in_within}
use Rattle.laws.proofs.Lists.{every_in, map_in, up_to_in}
use Rattle.laws.proofs.Least.{stable-hit, batch_at_in}
use Rattle.laws.proofs.Queues.{Housed}
use Rattle.laws.proofs.Storage.{perform_others, perform-length, fail_marks, fail-length}
use Rattle.laws.proofs.Verdict.{Unanimous, Handled, answered, performed, failing, passed, Said, replied, halted, handled-said, handle-view}
use Rattle.laws.proofs.Visits.{handle_in, visits_all}
use Rattle.laws.proofs.Keeps.{Keeps, batch-keeps}
use Rattle.laws.proofs.Records.{Sendable, AllSendable}
use Rattle.laws.proofs.Accepted.{Made, Proper}

-- ── the store ──

pub record InOrder (s : Store) : Type 0 where
  pub variables : length s.variables ≡ 256
  pub values : (i : ℕ) → value_of i s < 256 ^ 4
  pub mark : value_of 0 s ≤ 1

pub new_in_order : InOrder new_store
new_in_order = record { variables = length-replicate {A = ℕ} 256 0; values = λ i. rw (zeros 256 i) (omega arith); mark = omega arith }
  where
    zeros : (n i : ℕ) → ◌≡◌ {A = ℕ} (get_or (replicate n 0) i 0) 0
    zeros zero i = refl
    zeros (suc n) zero = refl
    zeros (suc n) (suc i) = zeros n i

set_below : (b : ℕ) (l : List ℕ) (j x : ℕ) → x < b → ((i : ℕ) → get_or l i 0 < b) → (i : ℕ) → get_or (set l j x) i 0 < b
set_below b [] j x h k i = k i
set_below b (y ∷ l) zero x h k zero = h
set_below b (y ∷ l) zero x h k (suc i) = k (suc i)
set_below b (y ∷ l) (suc j) x h k zero = k 0
set_below b (y ∷ l) (suc j) x h k (suc i) = set_below b l j x h (λ n. k (suc n)) i

-- a performed write leaves variable 0
pub perform-mark : (k : ℕ) (batch : List Request) (s : Store) → Unanimous k batch
    → ((r : Request) → Memᴰ r batch → is_write r ≡ true → 1 ≤ r.variable) → value_of 0 (perform (first_of batch) s) ≡ value_of 0 s
perform-mark k batch s a h =
    let r = first_of batch in
    let low = h r a.first (every_in is_write batch a.writes r a.first) in
    let apart : 0 ≢ r.variable = omega arith in
    perform_others r s 0 apart

-- handling a batch of accepted requests keeps the store in order
handle_in_order : (u : Settings) (replica group : ℕ) (t : Timestamp) (batch : List Request) (s : Store)
    → ((r : Request) → Memᴰ r batch → Proper u.k u.groups r) → InOrder s → InOrder (handle u replica group t batch s).state
handle_in_order u replica group t batch s proper h = go (handle-view u replica group t batch s)
  where
    go : {e : Effect Store} → Handled u.k u.owner replica group t batch s e → InOrder e.state
    go (answered a) = h
    go (performed a o f) = record {
      variables = perform-length (first_of batch) s ∙ h.variables;
      values = set_below (256 ^ 4) s.variables (first_of batch).variable (first_of batch).value (proper (first_of batch) a.first).value h.values;
      mark = rw (perform-mark u.k batch s a (λ r i. (proper r i).written)) h.mark;
    }
    go (failing o f) = record {
      variables = fail-length s ∙ h.variables;
      values = set_below (256 ^ 4) s.variables 0 1 (omega arith) h.values;
      mark = rw (fail_marks s (omega (arith, h.variables))) (omega arith);
    }
    go passed = h

-- ── the state ──

module _ (u : Settings) (me : ℕ) where
  pub record Sound (s : State) : Type 0 where
    pub settings : s.settings ≡ u
    pub number : s.number ≡ me
    pub pending : (g : ℕ) (p : Pending) → Memᴰ p (s.pending g) → Proper u.k u.groups p.request
    pub housed : Housed s
    pub few : (g : ℕ) → length (s.pending g) ≤ places
    pub store : InOrder s.store

  pub new_sound : Sound (new_state u me)
  new_sound = record {
    settings = refl;
    number = refl;
    pending = λ g p i. absurd (Memᴰ.not-nil i);
    housed = λ g p i. absurd (Memᴰ.not-nil i);
    few = λ g. omega arith;
    store = new_in_order;
  }

  -- what is done keeps the state sound, and sends messages that pass
  abbrev pub Soundly : State → Effect State → Type 0
  Soundly s e = Sound s → Sound e.state × AllSendable u.k u.groups e.sent

  soundly_then : (s : State) (e : Effect State) (next : State → Effect State)
      → Soundly s e → Soundly e.state (next e.state) → Soundly s (follow e next)
  soundly_then s e next a b h =
      let x = a h in
      let y = b x.0 in
      (y.0, λ m i. ⊎_elim (λ j. x.1 m j) (λ j. y.1 m j) (Memᴰ.append_cases e.sent i))

-- ── what a step sends ──

module _ (u : Settings) (me : ℕ) (ok : Made u me) where
  -- a message of this replica to a process of a group, with a variable and a value that its kind admits
  sendable : (m : Message) → is_of Messages m.kind ≡ true → 1 ≤ m.group → m.group ≤ u.groups → 1 ≤ m.process → m.process ≤ u.k + 1
      → m.replica ≡ me → allows_variable (message_fields m) ≡ true → allows_value (message_fields m) ≡ true → spares_zero Messages (message_fields m) ≡ true
      → m.timestamp.0 < 256 ^ 8 → m.value < 256 ^ 4 → Sendable u.k u.groups m
  sendable m kind group-low group-high process-low process-high mine variable value spares timestamp small = record {
    fields = record {
      kind = kind;
      group = in_within 1 u.groups m.group group-low group-high;
      process = in_within 1 (u.k + 1) m.process process-low process-high;
      sender = (rw mine (in_within 1 (2 * u.k + 1) me ok.number-low ok.number-high), tt);
      variable = variable;
      spares = spares;
      value = value;
    };
    timestamp = timestamp;
    value = small;
  }

  reply-sendable : (s : Store) (r : Request) → InOrder s → Proper u.k u.groups r → Sendable u.k u.groups (reply_to s me r)
  reply-sendable s r h p =
      sendable (reply_to s me r) refl p.group-low p.group-high p.process-low p.process-high refl
      (in_within 0 255 r.variable (omega arith) p.variable) refl refl p.timestamp (h.values r.variable)

  halt-sendable : (g : ℕ) (t : Timestamp) (to : ℕ) → 1 ≤ g → g ≤ u.groups → t.0 < 256 ^ 8 → 1 ≤ to → to ≤ u.k + 1
      → Sendable u.k u.groups (halt_to g me t to)
  halt-sendable g t to g-low g-high small low high = sendable (halt_to g me t to) refl g-low g-high low high refl refl refl refl small (omega arith)

  handle-sendable : (group : ℕ) (t : Timestamp) (batch : List Request) (s : Store) → InOrder s → 1 ≤ group → group ≤ u.groups → t.0 < 256 ^ 8
      → ((r : Request) → Memᴰ r batch → Proper u.k u.groups r) → AllSendable u.k u.groups (handle u me group t batch s).sent
  handle-sendable group t batch s h low high small proper m i =
      go (handled-said u.k u.owner me group t batch s (handle-view u me group t batch s) m i)
    where
      go : Said u.k u.owner me group t batch s m → Sendable u.k u.groups m
      go (replied r j e) = rw e (reply-sendable s r h (proper r j))
      go (halted process j e) = let p = up_to_in (u.k + 1) j in rw e (halt-sendable group t process low high small p.0 p.1)

  batch_soundly : (now : LocalTime) (group : ℕ) (s : State) → is_stable s.settings.delta now (batch_of (s.pending group)) ≡ true
      → Soundly u me s (handle_in group s)
  unfolding handle_in handle_batch
  batch_soundly now group s stable h = (after, sent)
    where
      t : Timestamp
      t = head_timestamp (s.pending group)

      batch : List Request
      batch = requests_of (batch_of (s.pending group))

      proper : (r : Request) → Memᴰ r batch → Proper u.k u.groups r
      proper r i =
          let a = map_in (λ (p : Pending). p.request) (batch_of (s.pending group)) i in
          let b = batch_at_in t (s.pending group) a.1 in
          rw a.2 (h.pending group a.0 b.0)

      keeps : Keeps s (handle_in group s).state
      keeps = batch-keeps group s

      after : Sound u me (handle_in group s).state
      after = record {
        settings = h.settings;
        number = h.number;
        pending = λ g p i. h.pending g p (keeps.pending g p i);
        housed = λ g p i. h.housed g p (keeps.pending g p i);
        few = λ g. omega (arith, h.few g, keeps.fewer g);
        store =
            subst (λ (v : Settings). InOrder (handle v s.number group t batch s.store).state) (sym h.settings)
            (handle_in_order u s.number group t batch s.store proper h.store);
      }

      sent : AllSendable u.k u.groups (handle_in group s).sent
      sent =
          let a = stable-hit s.settings.delta now (batch_of (s.pending group)) stable in
          let b = batch_at_in t (s.pending group) a.1 in
          let p = h.pending group a.0 b.0 in
          let of = h.housed group a.0 b.0 in
          let low : 1 ≤ group = omega (arith, p.group-low, of) in
          let high : group ≤ u.groups = omega (arith, p.group-high, of) in
          let small : t.0 < 256 ^ 8 = omega (arith, p.timestamp, b.1) in
          rw (h.settings, h.number) (handle-sendable group t batch s.store h.store low high small proper)

  pub visits_soundly : (n : ℕ) (now : LocalTime) (s : State) → Soundly u me s (visits n now s)
  visits_soundly n now s =
      visits_all now (Soundly u me) (λ s h. (h, λ m i. absurd (Memᴰ.not-nil i))) (soundly_then u me) (batch_soundly now) n s
