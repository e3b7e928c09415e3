-- What the typed unit of a script keeps under the header that it is typed under.
use Rattle.std.specs.Prelude.{◌≤◌, List, length}
use Rattle.std.specs.List.{AllByRecursion}
use Rattle.nwq_value.specs.Limits.{token_limit, file_limit}
use Rattle.nwq_value.specs.Engine.{EngineTable, IsTable}
use Rattle.nss_tree.specs.Source.{SourceTree}
use Rattle.nss_symbols.specs.Symbols.{Symbol, IsLiteral}
use Rattle.nss_parser.specs.Sentence.{Parses}
use Rattle.typing_rules.specs.Typed.{TypedUnit}
use Rattle.typing_rules.specs.Meaning.{TypesUnit}
use Rattle.ncs_code.specs.Plain.{PlainOp}
use Rattle.ncs_code.specs.File.{IsCode}
use Rattle.ncs_emit.specs.Labelled.{program}
use Rattle.emission_rules.specs.Units.{unit_code, unit_file}
use Rattle.stack_rules.specs.Rules.{WellStacked}
use Rattle.world_rules.specs.Pure.{CellLookup}
use Rattle.source_laws.specs.EngineHost.{AnswersAreTyped}
use Rattle.emission_laws.specs.WellTyped.{IsWellTyped}

-- the instructions of a unit's code
abbrev pub code_of : TypedUnit → List PlainOp
code_of u = program (unit_code u).lines

-- A unit that is typed under a header, from a tree that its tokens have: at most 100,000 tokens,
-- each literal of which has a value.
pub record IsUnitOf (header : EngineTable) (u : TypedUnit) : Type 0 where
  pub tokens : List Symbol
  pub tree : SourceTree
  pub few : length tokens ≤ token_limit
  pub literals : AllByRecursion IsLiteral tokens
  pub parses : Parses tokens tree
  pub types : TypesUnit header tree u

-- Its values have the types that stand at their nodes.
abbrev pub UnitsAreWellTyped : Type 0
UnitsAreWellTyped = (header : EngineTable) (u : TypedUnit) → IsTable header → IsUnitOf header u
    → IsWellTyped header u

-- The file of a unit loads, with the instructions of its code, and these are well stacked under the
-- header.
pub record Passes (header : EngineTable) (u : TypedUnit) : Type 0 where
  pub loads : IsCode (code_of u)
  pub stacked : WellStacked header (code_of u)

-- So does every file of a typed unit that is not too large.
abbrev pub UnitsPass : Type 0
UnitsPass = (header : EngineTable) (u : TypedUnit) → IsTable header → IsUnitOf header u
    → length (unit_file u) ≤ file_limit → Passes header u

-- Under the table of a header the engine's answers have the routines' types, whatever tables cells
-- are looked up in.
abbrev pub TablesAnswerInTypes : Type 0
TablesAnswerInTypes = (header : EngineTable) (cell : CellLookup) → IsTable header
    → AnswersAreTyped header cell
