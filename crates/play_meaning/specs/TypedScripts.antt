-- Scripts of typed units.
use Rattle.std.specs.Prelude.{◌≡◌, ℕ, List, Some, slice_get}
use Rattle.nss_tree.specs.Source.{SourceTree}
use Rattle.nss_symbols.specs.Symbols.{Symbol}
use Rattle.nss_parser.specs.Sentence.{Parses}
use Rattle.nwq_value.specs.Engine.{EngineTable, IsTable}
use Rattle.typing_rules.specs.Typed.{TypedUnit}
use Rattle.typing_rules.specs.Meaning.{TypesUnit}
use Rattle.source_meaning.specs.Scripts.{Listed, Setting}
use Rattle.source_laws.specs.Listed.{AreReady}

-- a unit that is typed under a header's table, from a tree that its tokens have
pub record IsTyped (table : EngineTable) (u : TypedUnit) : Type 0 where
  pub tokens : List Symbol
  pub tree : SourceTree
  pub parses : Parses tokens tree
  pub types : TypesUnit table tree u

-- Where the unit of each listed script is typed, the scripts are as the laws on plays ask.
abbrev pub TypedScriptsAreReady : Type 0
TypedScriptsAreReady = (s : Setting) → IsTable s.table
    → ((script : ℕ) (l : Listed) → slice_get s.scripts script ≡ Some l → IsTyped s.table l.unit)
    → AreReady s
