-- That the values of every play have room in the fields of a state.
use Rattle.std.specs.Prelude.{◌<◌, ◌^◌, ◌≤◌, ℕ, List, length}
use Rattle.std.specs.List.{AllByRecursion}
use Rattle.nwq_value.specs.Engine.{EngineTable, IsTable}
use Rattle.ncs_code.specs.File.{IsCode}
use Rattle.gff_tree.specs.Whole.{PlainGff}
use Rattle.gff_read.specs.Stands.{Stands}
use Rattle.nwq_value.specs.Limits.{file_limit, script_limit}
use Rattle.area_rules.specs.Area.{area_of}
use Rattle.plan_text.specs.declared.plan.Plan.{Plan}
use Rattle.plan_text.specs.Plans.{IsPlan}
use Rattle.saved_state.specs.declared.saved.Saved.{Saved}
use Rattle.machine_rules.specs.Machine.{Script}
use Rattle.world_rules.specs.Pure.{CellLookup}
use Rattle.world_rules.specs.World.{World}
use Rattle.ncs_machine.specs.Host.{host}
use Rattle.module_player.specs.CodePlays.{code_play_on}
use Rattle.play_worlds.specs.Worlds.{plan_world}
use Rattle.play_room.specs.Room.{HasRoom}
use Rattle.play_room.specs.Kept.{CellsAreBytes, WorldIsKept}

-- a world that is kept, and in which few entries were posted, has room in a state
abbrev pub KeptHasRoom : Type 0
KeptHasRoom = (w : World Saved) → WorldIsKept w → w.agenda.next < 2 ^ 64 → HasRoom w

-- A play of scripts that files can hold keeps the values of its world, however it goes and ends.
abbrev pub PlaysKeepValues : Type 0
PlaysKeepValues =
    (cell : CellLookup) (table : EngineTable) (scripts : List Script)
    (limit entries until stop taken done : ℕ) (w : World Saved)
    → CellsAreBytes cell → IsTable table → AllByRecursion (λ (s : Script). IsCode s.code) scripts
    → length scripts ≤ script_limit
    → WorldIsKept w
    → WorldIsKept (code_play_on
    (host scripts (record {
      table = table;
      cell = cell;
    })) limit entries until stop taken done w).last.world

-- the values of a plan's world are kept, over the tree that a file stands for
abbrev pub PlanWorldsAreKept : Type 0
PlanWorldsAreKept = (bytes : List ℕ) (tree : PlainGff) (plan : Plan)
    → AllByRecursion (λ (b : ℕ). b < 256) bytes → length bytes ≤ file_limit → Stands bytes tree
    → IsPlan plan → WorldIsKept (plan_world (area_of tree) plan)
