-- What the code of each typed unit keeps, and its file.
use Rattle.std.specs.Prelude.{◌≤◌, List, length}
use Rattle.nwq_value.specs.Limits.{file_limit}
use Rattle.nwq_value.specs.Engine.{EngineTable, IsTable}
use Rattle.nss_tree.specs.Source.{SourceTree}
use Rattle.nss_symbols.specs.Symbols.{Symbol}
use Rattle.nss_parser.specs.Sentence.{Parses}
use Rattle.typing_rules.specs.Typed.{TypedUnit}
use Rattle.typing_rules.specs.Meaning.{TypesUnit}
use Rattle.typing_laws.specs.Laws.{HasCode}
use Rattle.ncs_code.specs.File.{IsCode}
use Rattle.ncs_emit.specs.Labelled.{program}
use Rattle.emission_rules.specs.Units.{unit_code, unit_file}
use Rattle.stack_rules.specs.Rules.{WellStacked}
use Rattle.emission_laws.specs.WellTyped.{IsWellTyped}

-- The values of a unit that is typed under a header, of a tree that some tokens have, have the
-- types that stand at their nodes.
abbrev pub TypedUnitsAreWellTyped : Type 0
TypedUnitsAreWellTyped =
    (header : EngineTable) (tokens : List Symbol) (tree : SourceTree) (u : TypedUnit)
    → IsTable header → Parses tokens tree → TypesUnit header tree u
    → IsWellTyped header u

-- Where it keeps the bounds that its code needs, and its file is not too large, that file loads,
-- with the instructions of its code, and these are well stacked under the header.
abbrev pub TypedUnitsPass : Type 0
TypedUnitsPass =
    (header : EngineTable) (tokens : List Symbol) (tree : SourceTree) (u : TypedUnit)
    → IsTable header → Parses tokens tree → TypesUnit header tree u
    → HasCode u → length (unit_file u) ≤ file_limit
    → IsCode (program (unit_code u).lines) × WellStacked header (program (unit_code u).lines)
