-- What holds of the code of a unit by itself.
use Rattle.std.specs.Prelude.{◌≡◌, ◌≤◌, ℕ, map, nat_lt, if◌then◌else◌}
use Rattle.std.specs.List.{AllByRecursion}
use Rattle.nwq_value.specs.Limits.{file_limit}
use Rattle.ncs_code.specs.File.{header_size, file_length, IsCode}
use Rattle.ncs_emit.specs.Labelled.{LabelledCode, placements, place_of_label, program}
use Rattle.ncs_emit.specs.Leading.{LineFits, LeadsOn, Closes}
use Rattle.ncs_emit.specs.Standing.{LinesStand}
use Rattle.nss_tree.specs.Source.{SourceTree}
use Rattle.nwq_value.specs.Engine.{EngineTable}
use Rattle.typing_rules.specs.Typed.{TypedUnit}
use Rattle.typing_rules.specs.Meaning.{TypesUnit}
use Rattle.typing_rules.specs.Numbers.{items_numbers}
use Rattle.emission_rules.specs.Layout.{layout_of, position}
use Rattle.emission_rules.specs.Bounds.{IsBounded}
use Rattle.emission_rules.specs.Units.{unit_code, unit_file}

-- labelled code whose finished file loads, if it is not too large
pub record IsWhole (code : LabelledCode) : Type 0 where
  pub fits : AllByRecursion (LineFits code.labels) code.lines
  pub leads : LeadsOn code.lines code.lines
  pub closes : Closes code.lines

-- A unit has one file at most.
abbrev pub OneFile : Type 0
OneFile = (table : EngineTable) (u : SourceTree) (s t : TypedUnit) → TypesUnit table u s
    → TypesUnit table u t → unit_file s ≡ unit_file t

-- In a typed unit the position of each variable, by its number, is the depth at which it is
-- declared or pushed.
abbrev pub PositionsByNumber : Type 0
PositionsByNumber = (table : EngineTable) (u : SourceTree) (t : TypedUnit) → TypesUnit table u t
    → map (position (layout_of t)) (items_numbers t.items) ≡ (layout_of t).positions

-- Each label that a unit takes is placed exactly once, and no other one is.
abbrev pub EachPlacedOnce : Type 0
EachPlacedOnce = (u : TypedUnit) (label : ℕ)
    → placements (unit_code u).lines label ≡ (if nat_lt label (unit_code u).labels then 1 else 0)

-- So each line stands at its place in the program: an instruction begins there, and a jump leads to
-- the place of its label.
abbrev pub CodeStands : Type 0
CodeStands = (u : TypedUnit)
    → LinesStand (program (unit_code u).lines) (place_of_label (unit_code u).lines) header_size
    (unit_code u).lines

-- The code of a unit that keeps the bounds has spellings, leads on and closes.
abbrev pub CodeIsWhole : Type 0
CodeIsWhole = (u : TypedUnit) → IsBounded u → IsWhole (unit_code u)

-- So its file is one that loads, with the same instructions, if it is not too large.
abbrev pub FileIsCode : Type 0
FileIsCode = (u : TypedUnit) → IsBounded u → file_length (program (unit_code u).lines) ≤ file_limit
    → IsCode (program (unit_code u).lines)
