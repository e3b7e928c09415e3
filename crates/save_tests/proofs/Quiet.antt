-- A world that a state tells keeps no lines.
use Rattle.std.proofs.Common.{◌≡◌, [], ap}
use Rattle.saved_state.specs.declared.saved.Saved.{Saved}
use Rattle.world_rules.specs.World.{World}
use Rattle.state_format.specs.declared.parts.Parts.{Parts}
use Rattle.play_save.specs.States.{IsWorldOf}

pub rests : (s : Parts) (w : World Saved) → IsWorldOf s w → w.trace ≡ []
rests s w told = ap (λ (v : World Saved). v.trace) told.world
