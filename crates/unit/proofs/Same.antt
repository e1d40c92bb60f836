-- What is said of the accounts of correct replicas is said of equal ones.
use Prim.Native.Nat.{ℕ}
use mathlib.Core.Path.{◌≡◌, sym, subst}
use mathlib.Core.Bool.{Bool}
use mathlib.Core.List.{List, Memᴰ, map}
use Rattle.record.specs.declared.message.Message.{Message}
use Rattle.record.specs.declared.request.Request.{Request}
use Rattle.rules.specs.Lists.{some}
use Rattle.rules.specs.Batch.{failed, reply_with}
use Rattle.rules.specs.Replica.{requests_of}
use Rattle.rules.specs.Run.{to_group}
use Rattle.rules.specs.Machine.{signed_by}
use Rattle.rules.specs.Vote.{halts_for}
use Rattle.rules.specs.declared.Settings.{Settings}
use Rattle.failstop.specs.Suppose.{Account, Correct, Orderly, Supposed, Authentic, CompleteForHalts}
use Rattle.failstop.specs.Demand3.{machine_of, value_at, SameButReplies, Demand3}
use mathlib.Core.Bool.{true}
use mathlib.Core.Logic.{◌↔◌}

module _ (u : Settings) (faulty : ℕ → Bool) (a b : ℕ → Account) (same : (i : ℕ) → Correct u faulty i → a i ≡ b i) where
  -- what holds of b's account of a correct replica holds of a's
  carry : (P : Account → Type 0) (i : ℕ) → Correct u faulty i → P (b i) → P (a i)
  carry P i ok p = subst P (sym (same i ok)) p

  pub supposed_same : (bag : List Request) → Supposed u faulty a bag → Supposed u faulty b bag
  supposed_same bag sup = record { few = sup.few; orderly = λ i ok. subst (Orderly u bag) (same i ok) (sup.orderly i ok) }

  pub authentic_same : (list : List Message) → Authentic u faulty a list → Authentic u faulty b list
  authentic_same list h m i ok = subst (λ (x : Account). Memᴰ m x.sent) (same m.replica ok) (h m i ok)

  pub complete_same : (process : ℕ) (list : List Message) → CompleteForHalts u faulty a process list → CompleteForHalts u faulty b process list
  complete_same process list h i ok m j = h i ok m (carry (λ x. Memᴰ m x.sent) i ok j)

  pub claims_same : (bag : List Request) → Demand3 u faulty b bag → Demand3 u faulty a bag
  claims_same bag d = record {
    holds = λ i ok. carry (λ x. x.store ≡ (machine_of u bag).state) i ok (d.holds i ok);
    sends = λ i ok. carry (λ x. to_group u.owner x.sent ≡ map (signed_by i) (machine_of u (requests_of x.arrivals)).sent) i ok (d.sends i ok);
    alike = λ i ok. carry (λ x. SameButReplies (to_group u.owner x.sent) (map (signed_by i) (machine_of u bag).sent)) i ok (d.alike i ok);
    answered = λ i ok r j unmixed. carry (λ x. Memᴰ (reply_with (value_at u bag r) i r) x.sent) i ok (d.answered i ok r j unmixed);
    halted = λ i ok process low high.
        carry (λ x. (some (halts_for u.owner process) x.sent ≡ true) ↔ (failed (machine_of u bag).state ≡ true)) i ok (d.halted i ok process low high);
    elected = λ r j unmixed list short authentic complete. d.elected r j unmixed list short (authentic_same list authentic) complete;
    counted = λ process low high list short authentic complete.
        d.counted process low high list short (authentic_same list authentic) (complete_same process list complete);
  }
