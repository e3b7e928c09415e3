-- What entries do to worlds that are alike, beside the scripts that they run.
use Rattle.std.specs.Prelude.{◌≡◌}
use Rattle.world_rules.specs.World.{World}
use Rattle.world_rules.specs.Alike.{Alike}
use Rattle.world_rules.specs.AlikeLaws.{NewIsAlike, BeginKeepsAlike, TurnKeepsAlike, TurnDoneKeepsAlike, UnapplyKeepsAlike, FaultKeepsAlike, NoScriptKeepsAlike, DrainedKeepsAlike}
use Rattle.source_meaning.specs.Scripts.{Setting}
use Rattle.source_laws.specs.Carries.{Carries}

-- The worlds of a plan's beginning are alike. Worlds that are alike begin entries that are alike,
-- have told the same lines, and stay alike through what entries do.
pub record EntriesStayAlike {X Y : Type 0} (R : X → Y → Type 0) : Type 0 where
  pub new : NewIsAlike R
  pub begins : BeginKeepsAlike R
  pub turns : TurnKeepsAlike R
  pub turns_done : TurnDoneKeepsAlike R
  pub unapplies : UnapplyKeepsAlike R
  pub faults : FaultKeepsAlike R
  pub unlisted : NoScriptKeepsAlike R
  pub drains : DrainedKeepsAlike R
  pub traces : (w : World X) (v : World Y) → Alike R w v → w.trace ≡ v.trace

-- so of captured states and the deferred calls that they carry
abbrev pub EntriesKeepAlike : Type 0
EntriesKeepAlike = (s : Setting) → EntriesStayAlike (Carries s)
