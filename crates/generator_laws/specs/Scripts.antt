-- The source that is made from a number has a typed unit under the built-in header, and its file is
-- small enough.
use Rattle.std.specs.Prelude.{◌≡◌, ◌≤◌, ℕ, length, Some, codes}
use Rattle.nwq_value.specs.HeaderTable.{header_table}
use Rattle.nwq_value.specs.Limits.{file_limit}
use Rattle.nwq_outside.specs.Outside.{Contents, content}
use Rattle.typing_rules.specs.Typed.{TypedUnit}
use Rattle.typing_rules.specs.Meaning.{TypesUnit}
use Rattle.emission_rules.specs.Units.{unit_file}
use Rattle.play_generator.specs.Made.{number_limit, play_of}
use Rattle.command_sources.specs.Units.{PlainScript, Whole, IsUnitFate}

-- the script `beat` of these files has a unit that is typed under the built-in header, and whose
-- file is not too large
pub record BeatCompiles (c : Contents) : Type 0 where
  pub script : PlainScript
  pub is : IsUnitFate (content c) (codes "beat") (Whole script)
  pub unit : TypedUnit
  pub types : TypesUnit header_table script.tree unit
  pub small : length (unit_file unit) ≤ file_limit

-- So it is of files that have there the source of a number, whatever else they have.
abbrev pub SourcesCompile : Type 0
SourcesCompile = (n : ℕ) (c : Contents) → n ≤ number_limit
    → content c (codes "beat.nss") ≡ Some (play_of n).source → BeatCompiles c
