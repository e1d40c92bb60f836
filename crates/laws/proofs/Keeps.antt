-- What a step does not change.
use Prim.Native.Nat.{ℕ, ◌≤◌}
use mathlib.Core.Path.{◌≡◌, refl, ◌∙◌}
use mathlib.Core.List.{List, Memᴰ}
use native.Mathlib.Omega.{arith}
use lib.ListN.{length}
use Rattle.layout.specs.declared.clock.Timestamp.{Timestamp}
use Rattle.layout.specs.declared.clock.LocalTime.{LocalTime}
use Rattle.record.specs.declared.request.Request.{Request}
use Rattle.rules.specs.Batch.{Store, handle}
use Rattle.rules.specs.declared.Settings.{Settings}
use Rattle.rules.specs.Replica.{State, requests_of, head_timestamp, batch_of, others, handle_batch, visits}
use Rattle.rules.specs.declared.Pending.{Pending}
use Rattle.laws.proofs.Least.{others_in, others_batch}
use Rattle.laws.proofs.Queues.{replace_all}
use Rattle.laws.proofs.Verdict.{handle-view, handled-variables}
use Rattle.laws.proofs.Visits.{handle_in, visits_all}

-- t is s, but for the variables' values, the writes performed, and requests that are no longer pending
pub record Keeps (s t : State) : Type 0 where
  pub settings : t.settings ≡ s.settings
  pub number : t.number ≡ s.number
  pub last : t.last ≡ s.last
  pub pending : (g : ℕ) (p : Pending) → Memᴰ p (t.pending g) → Memᴰ p (s.pending g)
  pub fewer : (g : ℕ) → length (t.pending g) ≤ length (s.pending g)
  pub variables : length t.store.variables ≡ length s.store.variables

-- handling a batch neither adds nor drops a variable
pub handle-variables : (u : Settings) (replica group : ℕ) (t : Timestamp) (batch : List Request) (s : Store)
    → length (handle u replica group t batch s).state.variables ≡ length s.variables
handle-variables u replica group t batch s = handled-variables u.k u.owner replica group t batch s (handle-view u replica group t batch s)

pub keeps_same : (s : State) → Keeps s s
keeps_same s = record { settings = refl; number = refl; last = refl; pending = λ g p i. i; fewer = λ g. omega arith; variables = refl }

pub keeps_then : {s t u : State} → Keeps s t → Keeps t u → Keeps s u
keeps_then a b = record {
  settings = b.settings ∙ a.settings;
  number = b.number ∙ a.number;
  last = b.last ∙ a.last;
  pending = λ g p i. a.pending g p (b.pending g p i);
  fewer = λ g. omega (arith, a.fewer g, b.fewer g);
  variables = b.variables ∙ a.variables;
}

pub batch-keeps : (group : ℕ) (s : State) → Keeps s (handle_in group s).state
unfolding handle_in handle_batch
batch-keeps group s =
    let queue = s.pending group in
    record {
      settings = refl;
      number = refl;
      last = refl;
      pending =
          replace_all group (others queue) s.pending (λ g l. (p : Pending) → Memᴰ p l → Memᴰ p (s.pending g))
          (λ p i. (others_in queue i).0) (λ g p i. i);
      fewer =
          replace_all group (others queue) s.pending (λ g l. length l ≤ length (s.pending g))
          (omega (arith, others_batch queue)) (λ g. omega arith);
      variables = handle-variables s.settings s.number group (head_timestamp queue) (requests_of (batch_of queue)) s.store;
    }

pub visits-keep : (n : ℕ) (now : LocalTime) (s : State) → Keeps s (visits n now s).state
visits-keep n now s = visits_all now (λ s e. Keeps s e.state) keeps_same (λ s e next a b. keeps_then a b) (λ group s e. batch-keeps group s) n s
