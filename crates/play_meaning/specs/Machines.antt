-- The player's machine as the machine of a setting.
use Rattle.std.specs.Prelude.{◌≡◌, List, map}
use Rattle.hook_table.specs.declared.hook.Known.{Known}
use Rattle.world_core.specs.Calls.{cells_of}
use Rattle.ncs_machine.specs.declared.scripts.Loaded.{Loaded}
use Rattle.ncs_machine.specs.Host.{scripts_of}
use Rattle.module_player.specs.CodePlays.{host_of}
use Rattle.source_meaning.specs.Scripts.{Setting}
use Rattle.source_laws.specs.Executing.{script_of, IsHostOf}

-- Where the loaded scripts are the code of a setting's texts, and the hooks look cells up in its
-- tables, the player runs them in a machine of that setting.
abbrev pub PlayersAreHosts : Type 0
PlayersAreHosts = (s : Setting) (scripts : List Loaded) (hooks : List Known)
    → scripts_of scripts ≡ map script_of s.scripts → s.tables ≡ cells_of hooks
    → IsHostOf (host_of scripts s.table hooks) s
