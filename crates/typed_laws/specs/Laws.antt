-- What the typed tree of a unit keeps for the laws of its meaning.
use Rattle.std.specs.Prelude.{◌≡◌, ◌⊎◌, ℕ, List, [], Some, slice_get}
use Rattle.nss_tree.specs.Source.{SourceTree}
use Rattle.nss_symbols.specs.Symbols.{Symbol}
use Rattle.nss_parser.specs.Sentence.{Parses}
use Rattle.nwq_value.specs.declared.value.Ty.{Ty}
use Rattle.nwq_value.specs.declared.value.Ty.TheVariants.{Void, Int}
use Rattle.nwq_value.specs.Engine.{EngineTable, IsTable}
use Rattle.typing_rules.specs.declared.places.EntryPoint.TheVariants.{Main, Conditional}
use Rattle.typing_rules.specs.Typed.{TypedUnit}
use Rattle.typing_rules.specs.Meaning.{TypesUnit}
use Rattle.machine_rules.specs.Frames.{Frame}
use Rattle.source_meaning.specs.Scripts.{Function, functions, global_names}
use Rattle.source_laws.specs.Carries.{unit_site}
use Rattle.source_laws.specs.FineStatements.{AreFineNames}
use Rattle.source_laws.specs.FunctionsRun.{IsPlaced}
use Rattle.source_laws.specs.Starts.{making, BeginsWith}

-- Each function of a typed unit stands at its label, and its parameters and statements are fine:
-- whatever tokens the unit has, under the table of any header.
abbrev pub FunctionsArePlaced : Type 0
FunctionsArePlaced =
    (table : EngineTable) (tokens : List Symbol) (tree : SourceTree) (u : TypedUnit) → IsTable table
    → Parses tokens tree → TypesUnit table tree u
    → (script self : ℕ) (waiting : List Frame) (f : ℕ) (fn : Function)
    → slice_get (functions u.items) f ≡ Some fn
    → IsPlaced table (functions u.items) (unit_site script u self waiting) f fn

-- And its globals are fine as declarations, in whose first values no function of the unit is
-- called: while they are made, they are variables of a frame, beneath which nothing lies.
abbrev pub GlobalsAreFine : Type 0
GlobalsAreFine =
    (table : EngineTable) (tokens : List Symbol) (tree : SourceTree) (u : TypedUnit) → IsTable table
    → Parses tokens tree → TypesUnit table tree u
    → (script self : ℕ) (waiting : List Frame)
    → AreFineNames table [] (making (unit_site script u self waiting)) Void 0 []
    (global_names u.items)

-- A script begins with a function that takes nothing, and gives nothing or an int.
pub record HasEntry (fs : List Function) (entry : ℕ) (t : Ty) : Type 0 where
  pub main : Function
  pub is : slice_get fs entry ≡ Some main
  pub parameters : main.parameters ≡ []
  pub result : main.result ≡ t

abbrev pub EntriesArePlain : Type 0
EntriesArePlain =
    (table : EngineTable) (tree : SourceTree) (u : TypedUnit) → TypesUnit table tree u → (entry : ℕ)
    → (u.entry ≡ Main entry → HasEntry (functions u.items) entry Void)
    × (u.entry ≡ Conditional entry → HasEntry (functions u.items) entry Int)

-- So a typed unit is as the laws ask of a script's start: it begins with one of the two entry
-- functions, its globals are fine, and its functions are placed, as a script of any number,
-- whatever object it runs as and whatever waits for it.
abbrev pub UnitsAreReady : Type 0
UnitsAreReady =
    (table : EngineTable) (tokens : List Symbol) (tree : SourceTree) (u : TypedUnit) → IsTable table
    → Parses tokens tree → TypesUnit table tree u
    → (script self : ℕ) (waiting : List Frame)
    → BeginsWith Main Void table u (unit_site script u self waiting)
    ⊎ BeginsWith Conditional Int table u (unit_site script u self waiting)
