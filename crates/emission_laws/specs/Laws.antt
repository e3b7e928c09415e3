-- Emitted code is well stacked, and what typing says of what that asks.
use Rattle.std.specs.Prelude.{◌≡◌, ℕ, Some, slice_get}
use Rattle.nss_tree.specs.Source.{SourceTree}
use Rattle.nwq_value.specs.Engine.{EngineTable}
use Rattle.typing_rules.specs.Typed.{TypedUnit}
use Rattle.typing_rules.specs.Meaning.{TypesUnit}
use Rattle.ncs_emit.specs.Labelled.{program}
use Rattle.emission_rules.specs.Bounds.{IsBounded}
use Rattle.emission_rules.specs.Units.{unit_code}
use Rattle.stack_rules.specs.Rules.{WellStacked}
use Rattle.source_meaning.specs.Scripts.{Function, functions, global_names}
use Rattle.emission_laws.specs.WellTyped.{AllFitSwitches, NamesCallEngine, IsWellTyped}

-- For the code of each unit that keeps the bounds and whose values have their types, some table of
-- shapes meets the rules.
abbrev pub UnitsAreWellStacked : Type 0
UnitsAreWellStacked = (header : EngineTable) (u : TypedUnit) → IsBounded u → IsWellTyped header u
    → WellStacked header (program (unit_code u).lines)

-- The switches of each typed unit fit.
abbrev pub SwitchesFit : Type 0
SwitchesFit = (table : EngineTable) (source : SourceTree) (u : TypedUnit) → TypesUnit table source u
    → (f : ℕ) (fn : Function) → slice_get (functions u.items) f ≡ Some fn → AllFitSwitches fn.body

-- The first values of its globals call no function of the unit.
abbrev pub FirstValuesCallEngine : Type 0
FirstValuesCallEngine = (table : EngineTable) (source : SourceTree) (u : TypedUnit)
    → TypesUnit table source u → NamesCallEngine (global_names u.items)
