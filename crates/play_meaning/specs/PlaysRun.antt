-- That a play of the code of source texts is the play that the texts mean: in a machine that has
-- their code and the world's own engine, whose answers have the routines' types, and where the
-- texts' units are fine.
use Rattle.std.specs.Prelude.{◌≤◌, ℕ, ◌*◌}
use Rattle.saved_state.specs.declared.saved.Saved.{Saved}
use Rattle.world_rules.specs.World.{World}
use Rattle.world_rules.specs.Alike.{Alike}
use Rattle.world_rules.specs.Plays.{Bounds, unplayed, play_on}
use Rattle.module_player.specs.CodePlays.{code_runner}
use Rattle.source_meaning.specs.Evaluation.{Deferred}
use Rattle.source_meaning.specs.Scripts.{Setting}
use Rattle.source_meaning.specs.Plays.{runner}
use Rattle.source_laws.specs.Ledger.{MachineHost, step_cost}
use Rattle.source_laws.specs.Carries.{Carries}
use Rattle.source_laws.specs.EngineHost.{AnswersAreTyped}
use Rattle.source_laws.specs.Executing.{IsHostOf}
use Rattle.source_laws.specs.Listed.{AreReady}
use Rattle.play_meaning.specs.Together.{PlayEnds, PlayStops}

-- Where each entry of the play of source ends in n steps, the play of code whose entries may take
-- 16 instructions for each of these ends as it does: after as many entries, with the same lines
-- told, in a world that is alike.
abbrev pub SourcePlaysEnd : Type 0
SourcePlaysEnd =
    (s : Setting) (host : MachineHost) → IsHostOf host s → AnswersAreTyped s.table s.tables
    → AreReady s → (n limit : ℕ) (bounds : Bounds) → step_cost * n ≤ limit
    → (w : World Saved) (v : World Deferred) → Alike (Carries s) w v
    → PlayEnds (Carries s) (play_on (code_runner host limit) bounds (unplayed w))
    (play_on (runner s n) bounds (unplayed v))

-- Where no entry of the play of code is stopped by its limit, the play of source whose entries may
-- take as many steps ends as it does. Where one is stopped, exactly as many instructions were made
-- in it, and the lines told are a beginning of those of the play of source.
abbrev pub CodePlaysEnd : Type 0
CodePlaysEnd =
    (s : Setting) (host : MachineHost) → IsHostOf host s → AnswersAreTyped s.table s.tables
    → AreReady s → (limit : ℕ) (bounds : Bounds)
    → (w : World Saved) (v : World Deferred) → Alike (Carries s) w v
    → PlayStops (Carries s) (code_runner host limit) bounds limit (unplayed w)
    (play_on (code_runner host limit) bounds (unplayed w))
    (play_on (runner s limit) bounds (unplayed v))
