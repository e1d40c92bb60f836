-- Over a whole run, faults or not: the store comes about by changes each of which is a failure, or a write that each of the
-- owner's k + 1 processes sent with one timestamp and that arrived.
use Prim.Native.Nat.{ℕ, ◌+◌, ◌≤◌}
use mathlib.Core.Path.{◌≡◌, refl, sym, ◌∙◌, ap, subst}
use mathlib.Core.Logic.{⊎_elim}
use mathlib.Core.List.Memᴰ
use mathlib.Core.List.{List, [], ◌∷◌, Memᴰ, flat_map}
use borrow.Author.Tests.{eq-eqb}
use Rattle.question.specs.Question.{Answer, given, refused, bind, after}
use Rattle.layout.specs.declared.clock.LocalTime.{LocalTime}
use Rattle.record.specs.declared.request.Request.{Request}
use Rattle.rules.specs.Batch.{Store, new_store, handle}
use Rattle.rules.specs.declared.Settings.{Settings}
use Rattle.rules.specs.Replica.{State, Stepped, new_state, admit, arrive, deliver, requests_of, head_timestamp, batch_of, handle_batch, visits, at_time, stepped, step}
use Rattle.rules.specs.Run.{Call, delivery, turn, sent_by, call, run, exchange, exchanges, arrived, arrival_in, arrivals}
use Rattle.rules.specs.declared.Pending.{Pending}
use Rattle.laws.proofs.Lists.{map_in}
use Rattle.laws.proofs.Least.{batch_at_in}
use Rattle.laws.proofs.Queues.{arrive_in, Housed, arrive-housed}
use Rattle.laws.proofs.Accepted.{read-process, admit_admitted}
use Rattle.laws.proofs.Exchanges.{arrival_admitted}
use Rattle.laws.proofs.Visits.{handle_in, visits_all}
use Rattle.laws.proofs.Keeps.{Keeps, batch-keeps}
use Rattle.laws.proofs.Step.{step_accepted_lem}
use Rattle.laws.proofs.Senders.{Change, kept, fails, performs, performed_by_all}

-- ── what is admitted ──

admit-process : (s : State) (bytes : List ℕ) (now : LocalTime) {r : Request} → admit s bytes now ≡ given r
    → (1 ≤ r.process) × (r.process ≤ s.settings.k + 1)
admit-process s bytes now e = read-process s.settings.k s.settings.groups bytes (admit_admitted s bytes now e).reads

-- ── the course of a store ──

-- the requests of the batch that is handled next
abbrev batch_in : ℕ → State → List Request
batch_in group s = requests_of (batch_of (s.pending group))

module _ (u : Settings) (requests : List Request) where
  -- one change after another, each by requests that were sent
  pub data Course (s : Store) : Store → Type 0 where
    start : Course s s
    then : {t r : Store} → Course s t → Change u requests t r → Course s r

  course_then : {s t r : Store} → Course s t → Course t r → Course s r
  course_then a start = a
  course_then a (then b c) = then (course_then a b) c

  change_more : (batch : List Request) {s t : Store} → ((r : Request) → Memᴰ r batch → r.group ≡ u.owner → Memᴰ r requests)
      → Change u batch s t → Change u requests s t
  change_more batch more (kept e) = kept e
  change_more batch more (fails e) = fails e
  change_more batch more (performs t w) = performs t (λ p low high.
      let a = w p low high in
      record {
        request = a.request;
        sent = more a.request a.sent a.group;
        kind = a.kind;
        group = a.group;
        process = a.process;
        timestamp = a.timestamp;
        does = a.does;
      })

  abbrev Within : Request → Type 0
  Within r = (1 ≤ r.process) × (r.process ≤ u.k + 1)

  -- what is pending is of processes within 1 to k + 1, and what is pending of the owner was sent
  record Ready (s : State) : Type 0 where
    settings : s.settings ≡ u
    within : (g : ℕ) (p : Pending) → Memᴰ p (s.pending g) → Within p.request
    housed : Housed s
    known : (p : Pending) → Memᴰ p (s.pending u.owner) → Memᴰ p.request requests

  abbrev Runs : State → State → Type 0
  Runs s t = Ready s → Ready t × Course s.store t.store

  runs_same : (s : State) → Runs s s
  runs_same s r = (r, start)

  runs_then : {s t v : State} → Runs s t → Runs t v → Runs s v
  runs_then a b r = let x = a r in let y = b x.0 in (y.0, course_then x.1 y.1)

  keeps-ready : {s t : State} → Keeps s t → Ready s → Ready t
  keeps-ready k r = record {
    settings = k.settings ∙ r.settings;
    within = λ g p i. r.within g p (k.pending g p i);
    housed = λ g p i. r.housed g p (k.pending g p i);
    known = λ p i. r.known p (k.pending u.owner p i);
  }

  batch-runs : (group : ℕ) (s : State) → Runs s (handle_in group s).state
  unfolding handle_in handle_batch
  batch-runs group s r = (keeps-ready (batch-keeps group s) r, then start (change_more (batch_in group s) more change))
    where
      from : (q : Request) → Memᴰ q (batch_in group s)
          → (p : Pending) × (q ≡ p.request) × Memᴰ p (s.pending group) × (p.request.timestamp.0 ≡ (head_timestamp (s.pending group)).0)
      from q i =
          let a = map_in (λ (p : Pending). p.request) (batch_of (s.pending group)) i in
          let b = batch_at_in (head_timestamp (s.pending group)) (s.pending group) a.1 in
          (a.0, a.2, b.0, b.1)

      more : (q : Request) → Memᴰ q (batch_in group s) → q.group ≡ u.owner → Memᴰ q requests
      more q i e =
          let a = from q i in
          let owned : group ≡ u.owner = sym (r.housed group a.0 a.2) ∙ (ap (λ (x : Request). x.group) (sym a.1) ∙ e) in
          rw a.1 (r.known a.0 (subst (λ g. Memᴰ a.0 (s.pending g)) owned a.2))

      of : (q : Request) → Memᴰ q (batch_in group s)
          → (q.group ≡ group) × (q.timestamp.0 ≡ (head_timestamp (s.pending group)).0) × (1 ≤ q.process) × (q.process ≤ u.k + 1)
      of q i =
          let a = from q i in
          let w = r.within group a.0 a.2 in
          rw a.1 (r.housed group a.0 a.2, a.3, w.0, w.1)

      change : Change u (batch_in group s) s.store (handle_in group s).state.store
      change =
          let t = head_timestamp (s.pending group) in
          let batch = batch_in group s in
          subst (λ (v : Settings). Change u batch s.store (handle v s.number group t batch s.store).state) (sym r.settings)
          (performed_by_all u s.number group t batch s.store of)

  visits-run : (n : ℕ) (now : LocalTime) (s : State) → Runs s (visits n now s).state
  visits-run n now s =
      visits_all now (λ s e. Runs s e.state) runs_same (λ s e next a b. runs_then a b) (λ group s e. batch-runs group s) n s

  step-runs : (s : State) (now : LocalTime) (output : List ℕ) (a : Answer Stepped) → step s now output ≡ a → Runs s (sent_by s a).state
  unfolding stepped
  step-runs s now output (refused number) e = runs_same s
  step-runs s now output (given d) e = λ r. rw (step_accepted_lem s now output e)
      (visits-run s.settings.groups now (at_time now s) (record { settings = r.settings; within = r.within; housed = r.housed; known = r.known }))

  -- the arrivals are among the requests
  abbrev Covers : List Pending → Type 0
  Covers arrivals = (p : Pending) → Memᴰ p arrivals → Memᴰ p.request requests

  deliver-runs : (s : State) (bytes : List ℕ) (now : LocalTime) (a : Answer Request) → admit s bytes now ≡ a
      → Covers (arrived u.owner now a) → Runs s (after s (bind a (λ r. given (arrive s r now))))
  deliver-runs s bytes now (refused number) e all = runs_same s
  deliver-runs s bytes now (given q) e all = λ r.
      (record { settings = r.settings; within = within r; housed = arrive-housed s q now r.housed; known = known r }, start)
    where
      within : Ready s → (g : ℕ) (p : Pending) → Memᴰ p ((arrive s q now).pending g) → Within p.request
      within r g p i =
          let w : Within q = subst (λ (v : Settings). (1 ≤ q.process) × (q.process ≤ v.k + 1)) r.settings (admit-process s bytes now e) in
          ⊎_elim (r.within g p)
          (λ j. subst (λ (x : Pending). Within x.request) (sym j.0) w)
          (arrive_in s q now g p i)

      known : Ready s → (p : Pending) → Memᴰ p ((arrive s q now).pending u.owner) → Memᴰ p.request requests
      known r p i = ⊎_elim (r.known p)
          (λ j.
          let owned : q.group ≡ u.owner = sym j.1 in
          all p (rw (eq-eqb q.group u.owner owned) (Memᴰ.head j.0)))
          (arrive_in s q now u.owner p i)

  call-runs : (s : State) (c : Call) → Covers (arrival_in u (exchange s c)) → Runs s (call s c).state
  unfolding call deliver
  call-runs s (delivery bytes now) all = λ r.
      deliver-runs s bytes now (admit s bytes now) refl (λ p i. all p (subst (Memᴰ p) (sym (arrival_admitted u s bytes now r.settings)) i)) r
  call-runs s (turn now output) all = step-runs s now output (step s now output) refl

  run-runs : (calls : List Call) (s : State) → Covers (arrivals u (exchanges s calls)) → Runs s (run s calls).state
  unfolding run exchanges flat_map
  run-runs [] s all = runs_same s
  run-runs (c ∷ calls) s all =
      runs_then (call-runs s c (λ p i. all p (Memᴰ.append_left (arrivals u (exchanges (call s c).state calls)) i)))
      (run-runs calls (call s c).state (λ p i. all p (Memᴰ.append_right (arrival_in u (exchange s c)) i)))

pub run-performed_by_all : (u : Settings) (number : ℕ) (calls : List Call)
    → Course u (requests_of (arrivals u (exchanges (new_state u number) calls))) new_store (run (new_state u number) calls).state.store
run-performed_by_all u number calls =
    (run-runs u (requests_of (arrivals u (exchanges (new_state u number) calls))) calls (new_state u number) (λ p i. Memᴰ.map (λ (x : Pending). x.request) i)
    (record {
      settings = refl;
      within = λ g p i. absurd (Memᴰ.not-nil i);
      housed = λ g p i. absurd (Memᴰ.not-nil i);
      known = λ p i. absurd (Memᴰ.not-nil i);
    })).1
