-- The plays of listed typed units, of their code and of their source, from worlds that are alike,
-- however far they go.
use Rattle.std.specs.Prelude.{◌≡◌, ◌≤◌, ℕ, ◌*◌, List, map, Some, slice_get}
use Rattle.nwq_value.specs.Engine.{EngineTable, IsTable}
use Rattle.saved_state.specs.declared.saved.Saved.{Saved}
use Rattle.world_rules.specs.World.{World}
use Rattle.world_rules.specs.Alike.{Alike}
use Rattle.world_rules.specs.Plays.{Bounds, Played, unplayed, play_on}
use Rattle.module_player.specs.CodePlays.{code_runner, code_end_text}
use Rattle.source_meaning.specs.Evaluation.{Deferred}
use Rattle.source_meaning.specs.Scripts.{Listed, Setting}
use Rattle.source_meaning.specs.Plays.{runner}
use Rattle.source_laws.specs.Ledger.{MachineHost, step_cost}
use Rattle.source_laws.specs.Carries.{Carries}
use Rattle.source_laws.specs.Executing.{script_of}
use Rattle.play_meaning.specs.Together.{PlayEnds, PlayStops, PlaysAlike}
use Rattle.play_meaning.specs.EndTexts.{source_end_text}
use Rattle.command_plays.specs.Plays.{host_of}
use Rattle.command_meaning.specs.Units.{IsUnitOf}

-- each listed unit is typed under the header
abbrev pub AreUnitsOf : EngineTable → List Listed → Type 0
AreUnitsOf header scripts = (script : ℕ) (l : Listed) → slice_get scripts script ≡ Some l
    → IsUnitOf header l.unit

-- the machine that has the code of all that is listed
abbrev pub machine_of : Setting → MachineHost
machine_of s = host_of s.tables s.table (map script_of s.scripts)

-- Where each entry of the sources ends in n steps, the code ends as they do, with 16 instructions
-- for each of these.
abbrev pub ListedPlaysEnd : Type 0
ListedPlaysEnd =
    (s : Setting) → IsTable s.table → AreUnitsOf s.table s.scripts → (n limit : ℕ) (bounds : Bounds)
    → step_cost * n ≤ limit
    → (w : World Saved) (v : World Deferred) → Alike (Carries s) w v
    → PlayEnds (Carries s) (play_on (code_runner (machine_of s) limit) bounds (unplayed w))
    (play_on (runner s n) bounds (unplayed v))

-- Where no entry of the code is stopped, it ends as the sources do, whose entries may take as many
-- steps. Where one is, it tells a beginning.
abbrev pub ListedPlaysStop : Type 0
ListedPlaysStop =
    (s : Setting) → IsTable s.table → AreUnitsOf s.table s.scripts → (limit : ℕ) (bounds : Bounds)
    → (w : World Saved) (v : World Deferred) → Alike (Carries s) w v
    → PlayStops (Carries s) (code_runner (machine_of s) limit) bounds limit (unplayed w)
    (play_on (code_runner (machine_of s) limit) bounds (unplayed w))
    (play_on (runner s limit) bounds (unplayed v))

-- Plays that are alike have one text of their end, with the number of instructions that the code
-- made.
abbrev pub ListedTextsAgree : Type 0
ListedTextsAgree = (s : Setting) (code : Played Saved) (source : Played Deferred)
    → PlaysAlike (Carries s) code source
    → code_end_text (map script_of s.scripts) code ≡ source_end_text s code.last.count source
