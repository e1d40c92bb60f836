-- What a batch amounts to, and what comes of it, at a replica and in the machine: the four cases that every proof on a batch goes by.
-- The owner's comes to the same at both.
use Prim.Native.Nat.{ℕ, ◌+◌}
use mathlib.Core.Path.{◌≡◌, refl, ◌∙◌, ap}
use mathlib.Core.Bool.{true, false, not, ◌&&◌}
use mathlib.Core.List.Memᴰ
use mathlib.Core.List.{List, [], ◌∷◌, map, map-map, Memᴰ}
use native.Mathlib.Omega.{arith}
use lib.Dec.{eqb}
use lib.ListN.{length}
use borrow.Author.Tests.{eqb-true, eq-eqb, not-true}
use Rattle.record.specs.Kind.{is_write, same_write}
use Rattle.layout.specs.declared.clock.Timestamp.{Timestamp}
use Rattle.record.specs.declared.request.Request.{Request}
use Rattle.record.specs.declared.message.Message.{Message}
use Rattle.rules.specs.Lists.{every, up_to}
use Rattle.rules.specs.Batch.{Store, Effect, still, failed, perform, fail, all_reads, all_same, all_senders_differ, unanimous, first_of, Verdict, reads, agreed, dissent, verdict_of, reply_to, halt_to, halt_all, may_change, carry_out, handle}
use Rattle.rules.specs.declared.Settings.{Settings}
use Rattle.rules.specs.Machine.{nobody, decide, react, signed_by}
use Rattle.question.proofs.Tests.{case, both}
use Rattle.laws.proofs.Lists.{map_in}
use Rattle.laws.proofs.Storage.{perform-length, fail-length}

-- ── the verdict ──

-- the parts of unanimity, with the write that is agreed on
pub record Unanimous (k : ℕ) (batch : List Request) : Type 0 where
  pub many : length batch ≡ k + 1
  pub writes : every is_write batch ≡ true
  pub differ : all_senders_differ batch ≡ true
  pub same : all_same batch ≡ true
  pub first : Memᴰ (first_of batch) batch

pub unanimous_parts : (k : ℕ) (batch : List Request) → unanimous k batch ≡ true → Unanimous k batch
unanimous_parts k batch e =
    let a = both (eqb (length batch) (k + 1) && every is_write batch && all_senders_differ batch) (all_same batch) e in
    let b = both (eqb (length batch) (k + 1) && every is_write batch) (all_senders_differ batch) a.0 in
    let c = both (eqb (length batch) (k + 1)) (every is_write batch) b.0 in
    let many = eqb-true (length batch) (k + 1) c.0 in
    record { many = many; writes = c.1; differ = b.1; same = a.1; first = filled batch many }
  where
    filled : (l : List Request) → length l ≡ k + 1 → Memᴰ (first_of l) l
    filled [] h = absurd (omega arith)
    filled (r ∷ l) h = Memᴰ.head refl

-- the same write does the same
pub same_performed : (q r : Request) (s : Store) → same_write q r ≡ true → perform q s ≡ perform r s
same_performed q r s e =
    let a = both (eqb q.variable r.variable) (eqb q.value r.value) e in
    rw (eqb-true q.variable r.variable a.0, eqb-true q.value r.value a.1)

-- what each verdict says of its batch
pub data Judged (k : ℕ) (batch : List Request) : Verdict → Type 0 where
  all_reads_lem : all_reads batch ≡ true → Judged k batch reads
  all_agreed : Unanimous k batch → Judged k batch (agreed (first_of batch))
  no_agreement : Judged k batch dissent

pub judged : (k : ℕ) (batch : List Request) → Judged k batch (verdict_of k batch)
unfolding verdict_of
judged k batch = case (all_reads batch) (λ a. rw a (all_reads_lem a))
    (λ a. case (unanimous k batch) (λ b. rw (a, b) (all_agreed (unanimous_parts k batch b))) (λ b. rw (a, b) no_agreement))

-- ── what comes of it ──

module _ (k owner replica group : ℕ) (t : Timestamp) (batch : List Request) (s : Store) where
  pub data Handled : Effect Store → Type 0 where
    answered : all_reads batch ≡ true → Handled (record { state = s; sent = map (reply_to s replica) batch })
    performed : Unanimous k batch → group ≡ owner → failed s ≡ false → Handled (still (perform (first_of batch) s))
    failing : group ≡ owner → failed s ≡ false → Handled (record { state = fail s; sent = halt_all k group replica t })
    passed : Handled (still s)

  -- each message is a reply to a request of the batch, or one of the halts
  pub data Said (m : Message) : Type 0 where
    replied : (r : Request) → Memᴰ r batch → m ≡ reply_to s replica r → Said m
    halted : (process : ℕ) → Memᴰ process (up_to (k + 1)) → m ≡ halt_to group replica t process → Said m

  pub handled-said : {e : Effect Store} → Handled e → (m : Message) → Memᴰ m e.sent → Said m
  handled-said (answered a) m i = let r = map_in (reply_to s replica) batch i in replied r.0 r.1 r.2
  handled-said (performed a o f) m i = absurd (Memᴰ.not-nil i)
  handled-said (failing o f) m i = let r = map_in (halt_to group replica t) (up_to (k + 1)) i in halted r.0 r.1 r.2
  handled-said passed m i = absurd (Memᴰ.not-nil i)

  -- neither adds nor drops a variable
  pub handled-variables : {e : Effect Store} → Handled e → length e.state.variables ≡ length s.variables
  handled-variables (answered a) = refl
  handled-variables (performed a o f) = perform-length (first_of batch) s
  handled-variables (failing o f) = fail-length s
  handled-variables passed = refl

-- at a replica
pub handle-view : (u : Settings) (replica group : ℕ) (t : Timestamp) (batch : List Request) (s : Store)
    → Handled u.k u.owner replica group t batch s (handle u replica group t batch s)
unfolding handle
handle-view u replica group t batch s = go (judged u.k batch)
  where
    may : may_change u group s ≡ true → (group ≡ u.owner) × (failed s ≡ false)
    may e = let a = both (eqb group u.owner) (not (failed s)) e in (eqb-true group u.owner a.0, not-true (failed s) a.1)

    go : {v : Verdict} → Judged u.k batch v → Handled u.k u.owner replica group t batch s (carry_out u replica group t batch s v)
    go (all_reads_lem a) = answered a
    go (all_agreed a) = case (may_change u group s) (λ c. rw c (performed a (may c).0 (may c).1)) (λ c. rw c passed)
    go no_agreement = case (may_change u group s) (λ c. rw c (failing (may c).0 (may c).1)) (λ c. rw c passed)

-- in the machine
pub react-view : (k owner : ℕ) (t : Timestamp) (batch : List Request) (s : Store) → Handled k owner nobody owner t batch s (react k owner t batch s)
unfolding react
react-view k owner t batch s = go (judged k batch)
  where
    go : {v : Verdict} → Judged k batch v → Handled k owner nobody owner t batch s (decide k owner t batch s v)
    go (all_reads_lem a) = answered a
    go (all_agreed a) = case (failed s) (λ f. rw f passed) (λ f. rw f (performed a refl f))
    go no_agreement = case (failed s) (λ f. rw f passed) (λ f. rw f (failing refl f))

-- ── at a replica as in the machine ──

-- the machine's messages as a replica sends them
abbrev pub signed : {S : Type 0} → ℕ → Effect S → Effect S
signed me e = record { state = e.state; sent = map (signed_by me) e.sent }

-- a replica handles the owner's batch as the machine does
pub handle-owner : (u : Settings) (me : ℕ) (t : Timestamp) (batch : List Request) (s : Store)
    → handle u me u.owner t batch s ≡ signed me (react u.k u.owner t batch s)
unfolding handle react
handle-owner u me t batch s = go (verdict_of u.k batch)
  where
    own : eqb u.owner u.owner ≡ true
    own = eq-eqb u.owner u.owner refl

    go : (v : Verdict) → carry_out u me u.owner t batch s v ≡ signed me (decide u.k u.owner t batch s v)
    go reads = rw (map-map (signed_by me) (reply_to s nobody) batch)
    go (agreed r) = case (failed s) (λ f. rw (own, f)) (λ f. rw (own, f))
    go dissent = case (failed s) (λ f. rw (own, f)) (λ f. rw (own, f, map-map (signed_by me) (halt_to u.owner nobody t) (up_to (u.k + 1))))

-- another group's batch leaves the store
pub handle_guest : (u : Settings) (me group : ℕ) (t : Timestamp) (batch : List Request) (s : Store) → eqb group u.owner ≡ false
    → (handle u me group t batch s).state ≡ s
unfolding handle
handle_guest u me group t batch s e =
    elim (verdict_of u.k batch) as (λ v. (carry_out u me group t batch s v).state ≡ s) [ reads ↦ refl | agreed r ↦ rw e | dissent ↦ rw e ]

-- the messages for a batch have its group and its timestamp
pub handle-sent : (u : Settings) (replica group : ℕ) (t : Timestamp) (batch : List Request) (s : Store)
    → ((r : Request) → Memᴰ r batch → (r.group ≡ group) × (r.timestamp.0 ≡ t.0))
    → (m : Message) → Memᴰ m (handle u replica group t batch s).sent → (m.group ≡ group) × (m.timestamp ≡ t)
handle-sent u replica group t batch s of m i =
    go (handled-said u.k u.owner replica group t batch s (handle-view u replica group t batch s) m i)
  where
    go : Said u.k u.owner replica group t batch s m → (m.group ≡ group) × (m.timestamp ≡ t)
    go (replied r j e) =
        let o = of r j in
        (ap (λ (x : Message). x.group) e ∙ o.0, ap (λ (x : Message). x.timestamp) e ∙ ap (λ (x : ℕ). record { 0 = x }) o.1)
    go (halted process j e) = (ap (λ (x : Message). x.group) e, ap (λ (x : Message). x.timestamp) e)
