-- A group's batches by rising timestamp: what they leave of the store, and what is sent for each.
use Prim.Native.Nat.{ℕ, ◌<◌}
use mathlib.Core.Path.{◌≡◌, ap}
use mathlib.Core.Bool.{cond}
use mathlib.Core.List.{List, [], ◌++◌, flat_map, Memᴰ}
use native.Mathlib.Omega.{arith}
use lib.Dec.{eqb}
use borrow.Author.Tests.{eqb-true}
use Rattle.layout.specs.declared.clock.Timestamp.{Timestamp}
use Rattle.record.specs.declared.request.Request.{Request}
use Rattle.record.specs.declared.message.Message.{Message}
use Rattle.rules.specs.Lists.{keep}
use Rattle.rules.specs.Batch.{Store, Effect, still, follow, handle}
use Rattle.rules.specs.Replica.{stamped, least}
use Rattle.rules.specs.Machine.{occurring}
use Rattle.rules.specs.declared.Settings.{Settings}
use Rattle.question.proofs.Tests.{case}
use Rattle.laws.proofs.Lists.{flat_same}
use Rattle.laws.proofs.Verdict.{handle-owner, handle_guest}
use Rattle.laws.proofs.Occurring.{occurring_in, occurring_least, least_batch, rest_of, rest-later}
use Rattle.laws.proofs.Replies.{before, before_least, before_first}
use Rattle.laws.proofs.Machine.{rest_same, machine_from, machine_none, machine_first}

-- what a group's requests leave of the store: only the owner's change it
unfoldable pub leaves : Settings → ℕ → List Request → Store → Store
leaves u group bag s = cond (eqb group u.owner) (machine_from u.k u.owner bag s).state s

leaves_none : (u : Settings) (group : ℕ) (s : Store) → leaves u group [] s ≡ s
unfolding leaves
leaves_none u group s = case (eqb group u.owner) (λ o. rw (o, machine_none u.k u.owner s)) (λ o. rw o)

module _ (u : Settings) (me group : ℕ) where
  -- what comes of the requests with the least timestamp
  abbrev pub handle_first : List Request → Store → Effect Store
  handle_first bag s = handle u me group (least bag) (least_batch bag) s

  -- what is sent for a timestamp, in the store that the lesser ones leave
  abbrev pub messages_at : List Request → Store → Timestamp → List Message
  messages_at bag s t = (handle u me group t (keep (stamped t) bag) (leaves u group (before t bag) s)).sent

  -- a group's requests, one timestamp after another
  abbrev pub one_by_one : List Request → Store → Effect Store
  one_by_one bag s = record { state = leaves u group bag s; sent = flat_map (messages_at bag s) (occurring bag) }

  pub one_by_one_none : (s : Store) → one_by_one [] s ≡ still s
  unfolding flat_map
  one_by_one_none s = rw (leaves_none u group s)

  module _ (bag : List Request) (s : Store) {q : Request} (m : Memᴰ q bag) where
    leaves_first : leaves u group bag s ≡ leaves u group (rest_of bag) (handle_first bag s).state
    unfolding leaves
    leaves_first = case (eqb group u.owner)
        (λ o. rw (o, eqb-true group u.owner o, handle-owner u me (least bag) (least_batch bag) s, machine_first u.k u.owner bag s m))
        (λ o. rw (o, handle_guest u me group (least bag) (least_batch bag) s o))

    -- past its least timestamp, what comes before t begins with the same batch
    leaves_before : (t : Timestamp) → (least bag).0 < t.0 → leaves u group (before t bag) s ≡ leaves u group (before t (rest_of bag)) (handle_first bag s).state
    unfolding leaves
    leaves_before t late = case (eqb group u.owner)
        (λ o. rw (o, eqb-true group u.owner o, handle-owner u me (least bag) (least_batch bag) s) (before_first u.k u.owner t bag s m late))
        (λ o. rw (o, handle_guest u me group (least bag) (least_batch bag) s o))

    -- the least timestamp, then the rest
    pub one_by_one_first : one_by_one bag s ≡ follow (handle_first bag s) (λ v. one_by_one (rest_of bag) v)
    unfolding flat_map
    one_by_one_first = rw (leaves_first, occurring_least bag m, before_least bag, leaves_none u group s, messages_at)
        (ap (λ l. record { state = leaves u group (rest_of bag) (handle_first bag s).state; sent = (handle_first bag s).sent ++ l })
        (flat_same _ _ (occurring (rest_of bag)) later))
      where
        later : (t : Timestamp) → Memᴰ t (occurring (rest_of bag)) → messages_at bag s t ≡ messages_at (rest_of bag) (handle_first bag s).state t
        later t i =
            let r = occurring_in (rest_of bag) i in
            let late : (least bag).0 < t.0 = omega (arith, (rest-later bag r.1).1, ap (λ (x : Timestamp). x.0) r.2) in
            rw (rest_same bag t late, leaves_before t late, messages_at)
