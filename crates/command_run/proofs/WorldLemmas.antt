-- The world in which one script starts: no state is stored in it, and no line is kept.
use Rattle.std.proofs.Common.{◌≡◌, ℕ, List, subst, sym, refl, arith}
use Rattle.saved_state.specs.declared.saved.Saved.{Saved}
use Rattle.world_rules.specs.World.{World}
use Rattle.world_rules.specs.Plays.{Played}
use Rattle.world_core.specs.Calls.{cells_of}
use Rattle.ncs_machine.specs.Settings.{CodeSetting, host_in, scripts_in}
use Rattle.module_player.specs.CodePlays.{code_play}
use Rattle.module_player.specs.Limits.{limits_in}
use Rattle.module_player.specs.declared.limits.PlayLimits.{PlayLimits}
use Rattle.command_plays.specs.Plays.{played_in}
use Rattle.command_plays.specs.Scripts.{run_played}
use Rattle.command_run.specs.Tellings.{default_limits}
use Rattle.play_worlds.specs.Worlds.{first_world}
use Rattle.module_player.specs.Premises.{MayPlay}

first_plays : (s : CodeSetting) (name : List ℕ) → MayPlay s (first_world name)
first_plays s name = record { fit = record { agenda = (tt, tt); queues = tt }; quiet = refl; next = omega arith }

pub may_start : (s : CodeSetting) (name : List ℕ) (w : World Saved) → w ≡ first_world name → MayPlay s w
may_start s name w is = subst (MayPlay s) (sym is) (first_plays s name)

-- ---- by the limits that hold where none is set

pub by_default : (s : CodeSetting) (limits : PlayLimits) (w : World Saved) → limits_in limits ≡ default_limits → (P : Played Saved → Type 0)
    → P (played_in s limits w) → P (run_played (cells_of s.hooks) s.table (scripts_in s) w)
by_default s limits w same P h = subst (λ (n : ℕ × ℕ × ℕ). P (code_play (host_in s) n.0 n.1 n.2 w)) same h
