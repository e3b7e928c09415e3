-- Every typed unit keeps the bounds that its code needs.
use Rattle.std.specs.Prelude.{◌^◌, ◌<◌, ◌≤◌, List, length}
use Rattle.std.specs.List.{AllByRecursion}
use Rattle.nwq_value.specs.Limits.{token_limit}
use Rattle.nwq_value.specs.Engine.{EngineTable, IsTable}
use Rattle.nss_symbols.specs.Symbols.{Symbol, IsLiteral}
use Rattle.nss_tree.specs.Source.{SourceTree}
use Rattle.nss_parser.specs.Sentence.{Parses}
use Rattle.typing_rules.specs.Typed.{TypedUnit}
use Rattle.typing_rules.specs.Meaning.{TypesUnit}
use Rattle.emission_rules.specs.Bounds.{IsBounded}
use Rattle.emission_rules.specs.Units.{unit_code}
use Rattle.nss_parser.specs.Sizes.{IsKnownTree}

-- the unit keeps the bounds that its code needs, and its code has fewer labels than a number of 32
-- bits counts
pub record HasCode (t : TypedUnit) : Type 0 where
  pub bounded : IsBounded t
  pub few : (unit_code t).labels < 2 ^ 32

abbrev pub EachTypedTreeHasCode : Type 0
EachTypedTreeHasCode = (table : EngineTable) (u : SourceTree) (t : TypedUnit) → IsTable table
    → IsKnownTree u → u.count ≤ token_limit → TypesUnit table u t
    → HasCode t

-- so does that of any list of at most 100,000 tokens
abbrev pub EachTypedUnitHasCode : Type 0
EachTypedUnitHasCode = (tokens : List Symbol) (table : EngineTable) (u : SourceTree) (t : TypedUnit)
    → length tokens ≤ token_limit → AllByRecursion IsLiteral tokens → IsTable table
    → Parses tokens u → TypesUnit table u t → HasCode t
