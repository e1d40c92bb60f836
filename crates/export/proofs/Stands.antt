-- The player of a stage stands for it.
use mathlib.Core.Path.{◌≡◌, refl}
use Rattle.playback.specs.declared.stage.Stage.{Stage}
use Rattle.playback.specs.declared.stage.Stage.TheVariants.{First, Playing, Stopped}
use Rattle.export.specs.Stages.{stage_of, player_of}

pub stands : (s : Stage) → stage_of (player_of s) ≡ s
stands First = refl
stands (Playing u place) = refl
stands Stopped = refl
