-- What clauses say of a file while it is made, whatever the files tell that its script was read
-- from.
use Rattle.std.specs.Prelude.{◌≡◌, ℕ, List}
use Rattle.nwq_value.specs.Engine.{EngineTable}
use Rattle.nss_tree.specs.Source.{SourceTree}
use Rattle.nss_symbols.specs.Symbols.{Symbol}
use Rattle.nss_parser.specs.Sentence.{Parses}
use Rattle.typing_rules.specs.Typed.{TypedUnit}
use Rattle.typing_rules.specs.Meaning.{TypesUnit}
use Rattle.typing_laws.specs.Laws.{HasCode}
use Rattle.emission_rules.specs.Units.{unit_file}

-- These are the bytes of the file of a unit that is typed under a header, from a tree that some
-- tokens have.
pub record IsUnitFile (header : EngineTable) (bytes : List ℕ) : Type 0 where
  pub tokens : List Symbol
  pub tree : SourceTree
  pub unit : TypedUnit
  pub parses : Parses tokens tree
  pub types : TypesUnit header tree unit
  pub code : HasCode unit
  pub is : bytes ≡ unit_file unit

-- So they are where the tree is that of some tokens.
abbrev pub IsTreeFile : EngineTable → SourceTree → List ℕ → Type 0
IsTreeFile header tree bytes = (tokens : List Symbol) → Parses tokens tree → IsUnitFile header bytes
