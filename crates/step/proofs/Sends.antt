-- What an effect sends, by what the effect is made of.
use mathlib.Core.Path.{◌≡◌, refl, ap}
use Rattle.rules.specs.Batch.{Effect, still, follow}
use Rattle.rules.specs.Replica.{Written, put_all}
use Rattle.rules.specs.declared.Settings.{Settings}
use Rattle.step.specs.Output.{Reached, sends}
use Rattle.step.proofs.Written.{put-append}

module _ {S : Type 0} where
  -- a state, and what is written
  pub reached_is : {s t : S} {w v : Written} → s ≡ t → w ≡ v → ◌≡◌ {A = Reached S} (record { state = s; output = w }) (record { state = t; output = v })
  reached_is e i = rw (e, i)

  -- what an effect sends, by what the effect is
  pub sends_as : (u : Settings) (w : Written) {e d : Effect S} {x : Reached S} → e ≡ d → x ≡ sends u w d → x ≡ sends u w e
  sends_as u w e i = rw e i

  -- nothing more is sent
  pub sends-still : (u : Settings) (w : Written) (s : S) → sends u w (still s) ≡ record { state = s; output = w }
  unfolding put_all
  sends-still u w s = refl

  -- one thing after another: the later messages stand behind the earlier
  pub sends-follow : (u : Settings) (w : Written) (e : Effect S) (next : S → Effect S)
      → sends u w (follow e next) ≡ sends u (sends u w e).output (next e.state)
  sends-follow u w e next =
      ap (λ (v : Written). record { state = (next e.state).state; output = v }) (put-append u.k u.groups w e.sent (next e.state).sent)
