-- The stage of a journal that a player stands for, and the player that a call gives back.
use Rattle.std.specs.Prelude.{ℕ, cond, eqb}
use Rattle.playback.specs.declared.stage.Stage.{Stage}
use Rattle.playback.specs.declared.stage.Stage.TheVariants.{First, Playing, Stopped}
use Rattle.export.specs.declared.units.Player.{Player}

-- 0 before the first record, 1 set up; any other number counts as stopped
abbrev pub stage_of : Player → Stage
stage_of p = cond (eqb p.stage 0) First (cond (eqb p.stage 1) (Playing p.settings p.place) Stopped)

-- where no unit is set up, zeros stand beside the stage
abbrev pub blank_player : ℕ → Player
blank_player stage = record { stage = stage; settings = record { k = 0; groups = 0; owner = 0; delta = 0 }; place = 0 }

-- it stands for the stage: proofs/Stands.antt
abbrev pub player_of : Stage → Player
player_of First = blank_player 0
player_of (Playing u place) = record { stage = 1; settings = u; place = place }
player_of Stopped = blank_player 2
