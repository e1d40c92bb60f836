-- Every correct replica against the machine on the common bag: it holds the machine's store, and its messages to the owner are the
-- machine's, but for the order of one timestamp's replies.
use Prim.Native.Nat.{ℕ, ◌+◌, ◌*◌}
use mathlib.Core.Path.{◌≡◌, sym, ◌∙◌, ap}
use mathlib.Core.Bool.{Bool, true, not}
use mathlib.Core.List.Memᴰ
use mathlib.Core.List.Permᴰ
use mathlib.Core.List.{List, map, Memᴰ}
use native.Mathlib.Omega.{arith}
use lib.Dec.{eqb}
use borrow.Author.Tests.{eq-eqb, not-true}
use Rattle.question.specs.Question.{unit_questions}
use Rattle.record.specs.Record.{passes}
use Rattle.record.specs.declared.request.Request.{Request}
use Rattle.record.specs.declared.message.Message.{Message}
use Rattle.rules.specs.Batch.{Store, Effect}
use Rattle.rules.specs.declared.Settings.{Settings}
use Rattle.rules.specs.Replica.{new_state, requests_of}
use Rattle.rules.specs.Run.{Call, to_group}
use Rattle.rules.specs.Machine.{signed_by}
use Rattle.failstop.specs.Suppose.{Correct, Supposed}
use Rattle.failstop.specs.Runs.{AllRan, account_of}
use Rattle.rules.specs.declared.Pending.{Pending}
use Rattle.question.proofs.Questions.{AllYes}
use Rattle.laws.proofs.Lists.{keep_in, in_keep, map_in, map-keep, tally-hit}
use Rattle.laws.proofs.Bag.{perm_in, perm_map, bag_perm}
use Rattle.laws.proofs.Machine.{is_halt, Alike, machine-alike}
use Rattle.laws.proofs.Accepted.{Made, make-made}
use Rattle.laws.proofs.Sound.{new_sound}
use Rattle.laws.proofs.Majority.{correct_many}
use Rattle.failstop.specs.Demand3.{machine_of, SameButReplies}
use Rattle.failstop.proofs.Matching.{facts_pass}
use Rattle.laws.proofs.Verdict.{signed}
use Rattle.laws.proofs.Exchanges.{exchanges-sent}
use Rattle.failstop.proofs.Arrivals.{Going, run-sendable, Owned, arrivals-later}
use Rattle.failstop.proofs.Replica.{run_is_machine}
use Rattle.failstop.proofs.Order.{machine_rising, signed_rising}

module _ (u : Settings) (faulty : ℕ → Bool) (calls : ℕ → List Call) (bag : List Request) (ran : AllRan u faulty calls)
    (sup : Supposed u faulty (account_of u calls) bag) where
  -- ── one correct replica ──

  module _ (i : ℕ) (ok : Correct u faulty i) where
    made : Made u i
    made = make-made u i (ran i ok).made

    going : Going u i (new_state u i) (calls i)
    going = record { sound = new_sound u i; lent = (ran i ok).lent }

    -- the machine on its own arrivals
    abbrev own : Effect Store
    own = machine_of u (requests_of (account_of u calls i).arrivals)

    own-machine : record { state = (account_of u calls i).store; sent = to_group u.owner (account_of u calls i).sent } ≡ signed i own
    own-machine =
        ap (λ (sent : List Message). record { state = (account_of u calls i).store; sent = to_group u.owner sent }) (exchanges-sent (new_state u i) (calls i))
        ∙ run_is_machine u i made (calls i) going (sup.orderly i ok).rule (sup.orderly i ok).closed

    common-machine : Alike own (machine_of u bag)
    common-machine = machine-alike u.k u.owner (requests_of (account_of u calls i).arrivals) bag (sup.orderly i ok).same

    pub holds-machine : (account_of u calls i).store ≡ (machine_of u bag).state
    holds-machine = ap (λ (e : Effect Store). e.state) own-machine ∙ common-machine.state

    pub sends-machine : to_group u.owner (account_of u calls i).sent ≡ map (signed_by i) own.sent
    sends-machine = ap (λ (e : Effect Store). e.sent) own-machine

    pub same_but_replies : SameButReplies (to_group u.owner (account_of u calls i).sent) (map (signed_by i) (machine_of u bag).sent)
    same_but_replies = rw sends-machine (record {
      messages = perm_map (signed_by i) common-machine.sent;
      halts = rw (map-keep (signed_by i) is_halt own.sent, common-machine.halts) (sym (map-keep (signed_by i) is_halt (machine_of u bag).sent));
      left = signed_rising i own.sent (machine_rising u.k u.owner (requests_of (account_of u calls i).arrivals));
      right = signed_rising i (machine_of u bag).sent (machine_rising u.k u.owner bag);
    })

    -- what it sends the owner is the machine's, signed
    pub from_machine : (m : Message) → Memᴰ m (account_of u calls i).sent → m.group ≡ u.owner
        → (n : Message) × Memᴰ n (machine_of u bag).sent × (m ≡ signed_by i n)
    from_machine m j g =
        map_in (signed_by i) (machine_of u bag).sent (perm_in same_but_replies.messages m
        (in_keep (λ (x : Message). eqb x.group u.owner) (account_of u calls i).sent j (eq-eqb m.group u.owner g)))

    -- and it sends each of the machine's
    pub to_replica : (n : Message) → Memᴰ n (machine_of u bag).sent → Memᴰ (signed_by i n) (account_of u calls i).sent
    to_replica n j =
        (keep_in (λ (x : Message). eqb x.group u.owner) (account_of u calls i).sent
        (perm_in (Permᴰ.symm same_but_replies.messages) (signed_by i n) (Memᴰ.map (signed_by i) j))).0

    -- all that it sends passes the questions
    pub sent-passes : (m : Message) → Memᴰ m (account_of u calls i).sent → passes u.k u.groups m ≡ true
    sent-passes m j = facts_pass (run-sendable u i made (calls i) (new_state u i) going m (rw (exchanges-sent (new_state u i) (calls i)) at j)).fields

    -- and every request of the bag was accepted by it
    bag-accepted : (r : Request) → Memᴰ r bag → Owned u r
    bag-accepted r j =
        let d = bag_perm (requests_of (account_of u calls i).arrivals) bag (sup.orderly i ok).same in
        let p = map_in (λ (x : Pending). x.request) (account_of u calls i).arrivals (perm_in (Permᴰ.symm d) r j) in
        rw p.2 (arrivals-later u i made (calls i) (new_state u i) going p.0 p.1).1

  -- ── some replica is correct ──

  somebody : (i : ℕ) × Correct u faulty i
  somebody =
      let h = tally-hit (λ i. not (faulty i)) (2 * u.k + 1) (omega (arith, correct_many u.k faulty (omega (arith, sup.few)))) in
      (h.0, record { low = h.1; high = h.2; faultless = not-true (faulty h.0) h.3 })

  pub unit-asked : AllYes (unit_questions u.k u.groups)
  unit-asked = (made somebody.0 somebody.1).unit

  pub bag_owned : (r : Request) → Memᴰ r bag → Owned u r
  bag_owned = bag-accepted somebody.0 somebody.1
