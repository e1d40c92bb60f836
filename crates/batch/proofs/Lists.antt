-- The rules' tests of a list in the words of std, and what stays of the rows is what stays of the requests.
use Rattle.std.proofs.Common.{◌≡◌, refl, ap, arith, ◌≤◌, Bool, List, [], ◌∷◌, ◌&&◌, map, filter, length}
use Rattle.std.specs.List.{list_all}
use Rattle.layout.specs.declared.clock.Timestamp.{Timestamp}
use Rattle.question.proofs.Tests.{case}
use Rattle.rules.specs.Replica.{stamped}
use Rattle.rules.specs.declared.Pending.{Pending}
use Rattle.batch.specs.Head.{requests_at}
use Rattle.rules.specs.Lists.{keep, every}

pub keep-map : {A B : Type 0} (f : A → B) (stays : B → Bool) (l : List A) → keep stays (map f l) ≡ map f (filter (λ x. stays (f x)) l)
keep-map f stays [] = refl
keep-map f stays (x ∷ l) = case (stays (f x)) (λ e. rw (e, keep-map f stays l)) (λ e. rw (e, keep-map f stays l))

pub every_all : {A : Type 0} (test : A → Bool) (l : List A) → every test l ≡ list_all test l
every_all test [] = refl
every_all test (x ∷ l) = ap (λ rest. test x && rest) (every_all test l)

-- a batch has no more requests than its queue
pub batch_few : (t : Timestamp) (l : List Pending) → length (requests_at t l) ≤ length l
batch_few t [] = omega arith
batch_few t (p ∷ l) = case (stamped t p.request) (λ e. rw e (omega (arith, batch_few t l))) (λ e. rw e (omega (arith, batch_few t l)))
