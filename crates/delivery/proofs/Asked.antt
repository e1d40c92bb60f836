-- As many are pending as are counted, or all places are taken: so asking of the count is asking of the queue.
use Prim.Native.Nat.{ℕ, ◌-◌, ◌≤◌, min}
use mathlib.Core.Path.{◌≡◌, refl}
use mathlib.Core.List.{List}
use native.Mathlib.Omega.{arith}
use lib.Dec.{ltb}
use lib.ListN.{length, get_or, length-take}
use borrow.Author.Tests.{ltb-true, ltb-false, lt-ltb, le-ltb}
use Rattle.question.specs.Question.{Answer, given, refused, ask, bind}
use Rattle.layout.specs.declared.clock.LocalTime.{LocalTime}
use Rattle.record.specs.Record.{read_request}
use Rattle.record.specs.declared.request.Request.{Request}
use Rattle.rules.specs.Replica.{State, place_questions, admit}
use Rattle.rules.specs.declared.Pending.{Pending}
use Rattle.question.proofs.Tests.{case}
use Rattle.laws.proofs.Accepted.{read-group}
use Rattle.state.specs.State.{places_from, queue_of}
use Rattle.state.proofs.Queues.{queue_at}
use Rattle.queue.specs.Queue.{count_of}
use Rattle.queue.proofs.Counts.{count_at, places-long}

module _ (pending : List Pending) (counts : List ℕ) (g : ℕ) (long : length pending ≡ 64) (low : 1 ≤ g) (high : g ≤ 4) where
  -- the group has sixteen places
  pub queue-length : length (queue_of pending counts g) ≡ min (count_of counts g) 16
  queue-length =
      let whole = places-long (g - 1) pending long (omega arith) in
      rw (queue_at pending counts g low, count_at counts g low)
      (omega (arith, whole, length-take (get_or counts (g - 1) 0) (places_from (g - 1) pending)))

  place_counted : ltb (length (queue_of pending counts g)) 16 ≡ ltb (count_of counts g) 16
  place_counted = case (ltb (count_of counts g) 16)
      (λ f. rw f (lt-ltb (length (queue_of pending counts g)) 16 (omega (arith, queue-length, ltb-true (count_of counts g) 16 f))))
      (λ f. rw f (le-ltb (length (queue_of pending counts g)) 16 (omega (arith, queue-length, ltb-false (count_of counts g) 16 f))))

-- a request that was read is of a group that has places
pub admit-counted : (s : State) (pending : List Pending) (counts : List ℕ) → s.pending ≡ queue_of pending counts → length pending ≡ 64
    → (bytes : List ℕ) (at : LocalTime) →
    bind (read_request s.settings.k s.settings.groups bytes) (λ q. ask (place_questions s.last (count_of counts q.group) at) (given q))
    ≡ admit s bytes at
unfolding admit
admit-counted s pending counts same long bytes at = rw same (go (read_request s.settings.k s.settings.groups bytes) refl)
  where
    go : (a : Answer Request) → read_request s.settings.k s.settings.groups bytes ≡ a →
        bind a (λ q. ask (place_questions s.last (count_of counts q.group) at) (given q))
        ≡ bind a (λ q. ask (place_questions s.last (length (queue_of pending counts q.group)) at) (given q))
    go (given q) e =
        let group = read-group s.settings.k s.settings.groups bytes e in
        rw (place_counted pending counts q.group long group.0 group.1)
    go (refused number) e = refl
