-- The batch that is found by its timestamp is the rules' batch, and each of the four things that may come of it is the rules'.
use Prim.Native.Nat.{ℕ}
use mathlib.Core.Path.{◌≡◌}
use mathlib.Core.Bool.{true, false, not}
use mathlib.Core.List.{List, map}
use Rattle.layout.specs.declared.clock.Timestamp.{Timestamp}
use Rattle.record.specs.declared.request.Request.{Request}
use Rattle.rules.specs.Lists.{keep}
use Rattle.rules.specs.Batch.{Store, Effect, still, perform, fail, all_reads, unanimous, first_of, verdict_of, reply_to, halt_all, may_change, handle}
use Rattle.rules.specs.Replica.{Part, Written, stamped, head_timestamp, handle_batch}
use Rattle.rules.specs.declared.Pending.{Pending}
use Rattle.rules.specs.declared.Settings.{Settings}
use Rattle.question.proofs.Tests.{case}
use Rattle.batch.specs.Head.{requests_at}
use Rattle.step.specs.Output.{Reached, sends}

module _ (u : Settings) (replica group : ℕ) (t : Timestamp) where
  module _ (batch : List Request) (s : Store) where
    abbrev come : Effect Store
    come = handle u replica group t batch s

    pub handled-reads : all_reads batch ≡ true → come ≡ record { state = s; sent = map (reply_to s replica) batch }
    unfolding handle verdict_of
    handled-reads a = rw a

    pub handled-still : all_reads batch ≡ false → may_change u group s ≡ false → come ≡ still s
    unfolding handle verdict_of
    handled-still a b = case (unanimous u.k batch) (λ x. rw (a, x, b)) (λ x. rw (a, x, b))

    pub handled-write : all_reads batch ≡ false → may_change u group s ≡ true → unanimous u.k batch ≡ true → come ≡ still (perform (first_of batch) s)
    unfolding handle verdict_of
    handled-write a b x = rw (a, x, b)

    pub handled-fails : all_reads batch ≡ false → may_change u group s ≡ true → unanimous u.k batch ≡ false
        → come ≡ record { state = fail s; sent = halt_all u.k group replica t }
    unfolding handle verdict_of
    handled-fails a b x = rw (a, x, b)

  -- what comes of the batch, and what is left of the queue
  pub handled_off : (w : Written) (part : Part) → t ≡ head_timestamp part.queue → {x : Reached Store} {left : List Pending}
      → x ≡ sends u w (handle u replica group t (requests_at t part.queue) part.store) → left ≡ keep (λ p. not (stamped t p.request)) part.queue
      → ◌≡◌ {A = Reached Part} (record { state = record { store = x.state; queue = left }; output = x.output }) (sends u w (handle_batch u replica group part))
  unfolding handle_batch
  handled_off w part least e f = rw (e, f, least)
