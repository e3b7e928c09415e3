-- Worlds of the worked examples, and how they are played: stored actions are numbers here.
use Rattle.std.proofs.Common.{ℕ, List, [], Option, None, Some}
use Rattle.std.specs.Prelude.{codes}
use Rattle.std.specs.Option.{option_map}
use Prim.Native.String.{String}
use Rattle.area_rules.specs.Area.{PlainArea}
use Rattle.area_rules.specs.Objects.{AreaObject, Script}
use Rattle.local_variables.specs.Variables.{Variable}
use Rattle.delay_agenda.specs.declared.entry.Entry.{Entry}
use Rattle.nwq_value.specs.HeaderTable.{header_table}
use Rattle.nwq_value.specs.declared.value.Value.{Value}
use Rattle.nwq_value.specs.declared.value.Value.TheVariants.{Text}
use Rattle.world_rules.specs.Pure.{CellLookup}
use Rattle.world_rules.specs.World.{World}
use Rattle.world_rules.specs.Rows.{Answered}
use Rattle.world_rules.specs.Engine.{engine}
use Rattle.world_rules.specs.Turns.{Planned, Begun, begin, turn}

abbrev pub text : String → Value
text s = Text (codes s)

abbrev pub script : String → String → Script
script label name = record { label = codes label; name = codes name }

-- a creature with this tag, these variables and these scripts
abbrev pub creature : String → List Variable → List Script → AreaObject
creature tag vars scripts = record { tag = codes tag; vars = vars; scripts = scripts }

abbrev pub area_of : PlainArea → List AreaObject → PlainArea
area_of area objects = record area { objects = objects }

abbrev pub start : ℕ → ℕ → String → Planned
start due object name = record { due = due; object = object; script = codes name }

-- no table has a cell
abbrev pub no_cell : CellLookup
no_cell name column row = []

-- a call of a routine of the built-in header
abbrev pub call : ℕ → ℕ → List Value → Option ℕ → World ℕ → Answered ℕ
call n caller values action w = engine header_table no_cell n (record { caller = caller; values = values; action = action }) w

abbrev pub does : ℕ → ℕ → List Value → Option ℕ → World ℕ → World ℕ
does n caller values action w = (call n caller values action w).world

abbrev pub answers : ℕ → ℕ → List Value → World ℕ → Option Value
answers n caller values w = (call n caller values None w).value

-- the world in which the next entry runs
abbrev pub next_world : Option (Begun ℕ) → World ℕ → World ℕ
next_world None w = w
next_world (Some b) w = b.world

abbrev pub begins : World ℕ → World ℕ
begins w = next_world (begin 60000 w) w

-- the entry that is next
abbrev pub next_entry : World ℕ → Option (Entry ℕ)
next_entry w = option_map (λ (b : Begun ℕ). b.entry) (begin 60000 w)

-- a Turn that runs no stored action
abbrev pub turns : ℕ → World ℕ → World ℕ
turns o w = (turn o w).world
