-- Document 02, A1: "the storage card, fed each session and closed by a turn". Any replica of the code, any order, any local times that
-- keep the arrival rule.
use Rattle.std.specs.Prelude.{ℕ}
use Rattle.failstop.specs.Suppose.{Orderly}
use Rattle.unit.specs.Life.{Life, Lived}
use Rattle.unit.specs.Unit.{life_account}
use Rattle.session.specs.Session.{unit, session}

-- the code made it, with any δ and any number that it accepts, so 1 to 3; the owner's requests that it accepted are the session's, the
-- arrival rule was kept, and a step closed it; none is needed where nothing arrived
pub record Held (delta number place : ℕ) (l : Life) : Type 0 where
  pub lived : Lived (unit delta) number l
  pub orderly : Orderly (unit delta) (session place) (life_account (unit delta) l)
