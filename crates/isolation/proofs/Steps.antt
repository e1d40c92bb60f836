-- A step, for the owner: of the guests' visits it has nothing, and its own visit goes by the store and its own queue alone.
use Prim.Native.Nat.{ℕ, zero, suc}
use mathlib.Core.Path.{◌≡◌, refl, sym, ◌∙◌, ap, subst}
use mathlib.Core.Bool.{false}
use mathlib.Core.List.{List}
use lib.Dec.{eqb}
use lib.ListN.{length}
use borrow.Author.Tests.{eqb-true}
use Rattle.layout.specs.declared.clock.LocalTime.{LocalTime}
use Rattle.rules.specs.Batch.{Effect, Store}
use Rattle.rules.specs.Replica.{State, Part, part_of, visit, visit_group, visits}
use Rattle.rules.specs.Run.{to_group}
use Rattle.rules.specs.declared.Pending.{Pending}
use Rattle.rules.specs.declared.Settings.{Settings}
use Rattle.question.proofs.Tests.{case}
use Rattle.laws.proofs.Queues.{replace_same}
use Rattle.laws.proofs.Guests.{to_append, Untouched, guest_untouched}
use Rattle.laws.proofs.Accepted.{Made}
use Rattle.laws.proofs.Sound.{Sound, visits_soundly}

-- two states with the same store and the same queue of the owner, and what is done to them with the same messages to the owner
pub record Alike (owner : ℕ) (s t : State) : Type 0 where
  pub store : s.store ≡ t.store
  pub pending : s.pending owner ≡ t.pending owner

pub record AlikeEffect (owner : ℕ) (e f : Effect State) : Type 0 where
  pub state : Alike owner e.state f.state
  pub sent : to_group owner e.sent ≡ to_group owner f.sent

module _ (u : Settings) (me : ℕ) (ok : Made u me) (now : LocalTime) where
  -- what the visit of a group makes of its part
  abbrev own : ℕ → Part → Effect Part
  own group part = visit u me group now (length part.queue) part

  untouched : (group : ℕ) → eqb group u.owner ≡ false → (s : State) → Sound u me s → Untouched u.owner s (visit_group group now s)
  untouched group e s h = subst (λ (v : Settings). Untouched v.owner s (visit_group group now s)) h.settings
      (guest_untouched group now s (h.housed group) (ap (λ (v : Settings). eqb group v.owner) h.settings ∙ e))

  module _ (s t : State) (a : Sound u me s) (b : Sound u me t) (h : Alike u.owner s t) where
    abbrev Visited : ℕ → Type 0
    Visited group = AlikeEffect u.owner (visit_group group now s) (visit_group group now t)

    owner-visited : Visited u.owner
    unfolding visit_group
    owner-visited =
        let g = u.owner in
        let part : part_of g s ≡ part_of g t =
        ap (λ (x : Store). record { store = x; queue = s.pending g }) h.store
        ∙ ap (λ (x : List Pending). record { store = t.store; queue = x }) h.pending in
        let there = own g (part_of g s) in
        let here = own g (part_of g t) in
        rw (a.settings, a.number, b.settings, b.number) (record {
          state = record {
            store = ap (λ (x : Part). (own g x).state.store) part;
            pending = replace_same g there.state.queue s.pending
                ∙ (ap (λ (x : Part). (own g x).state.queue) part ∙ sym (replace_same g here.state.queue t.pending));
          };
          sent = ap (λ (x : Part). to_group g (own g x).sent) part;
        })

    guest_visited : (group : ℕ) → eqb group u.owner ≡ false → Visited group
    guest_visited group e =
        let x = untouched group e s a in
        let y = untouched group e t b in
        record {
          state = record { store = x.store ∙ (h.store ∙ sym y.store); pending = x.pending ∙ (h.pending ∙ sym y.pending) };
          sent = x.quiet ∙ sym y.quiet;
        }

    visited : (group : ℕ) → Visited group
    visited group = case (eqb group u.owner) (λ e. rw (eqb-true group u.owner e) owner-visited) (guest_visited group)

  pub visits-alike : (n : ℕ) (s t : State) → Sound u me s → Sound u me t → Alike u.owner s t → AlikeEffect u.owner (visits n now s) (visits n now t)
  unfolding visits
  visits-alike zero s t a b h = record { state = h; sent = refl }
  visits-alike (suc n) s t a b h =
      let e = visits n now s in
      let f = visits n now t in
      let before = visits-alike n s t a b h in
      let last = visited e.state f.state (visits_soundly u me ok n now s a).0 (visits_soundly u me ok n now t b).0 before.state (suc n) in
      record {
        state = last.state;
        sent = rw (
          to_append u.owner e.sent (visit_group (suc n) now e.state).sent,
          to_append u.owner f.sent (visit_group (suc n) now f.state).sent,
          before.sent,
          last.sent,
        );
      }
