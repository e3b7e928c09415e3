-- What holds of labelled code by itself.
use Rattle.std.specs.Prelude.{◌≡◌, ℕ, ◌+◌, ◌≤◌, List, [], ◌∷◌, ◌++◌}
use Rattle.std.specs.List.{AllByRecursion}
use Rattle.nwq_value.specs.Limits.{file_limit}
use Rattle.ncs_code.specs.Plain.{PlainOp}
use Rattle.ncs_code.specs.File.{header_size, ops_size, file_length, IsCode}
use Rattle.ncs_emit.specs.Labelled.{Line, Instruction, placements, lines_size, place_of_label, program}
use Rattle.ncs_emit.specs.Standing.{LinesStand}
use Rattle.ncs_emit.specs.Leading.{LineFits, IsPlacedOnce, LeadsOn, Closes}

-- ---- of two parts

abbrev pub PlacementsAdd : Type 0
PlacementsAdd = (before behind : List Line) (label : ℕ)
    → placements (before ++ behind) label ≡ placements before label + placements behind label

abbrev pub LinesSizeAdds : Type 0
LinesSizeAdds = (before behind : List Line)
    → lines_size (before ++ behind) ≡ lines_size before + lines_size behind

-- the second part stands behind the first
abbrev pub BothStand : Type 0
BothStand = (ops : List PlainOp) (places : ℕ → ℕ) (at : ℕ) (before behind : List Line)
    → LinesStand ops places at (before ++ behind)
    → LinesStand ops places at before × LinesStand ops places (at + lines_size before) behind

abbrev pub BothLeadOn : Type 0
BothLeadOn = (whole before behind : List Line) → LeadsOn whole before → LeadsOn whole behind
    → LeadsOn whole (before ++ behind)

abbrev pub BothClose : Type 0
BothClose = (before behind : List Line) → Closes before → Closes behind → Closes (before ++ behind)

-- an instruction closes what stands before it
abbrev pub InstructionCloses : Type 0
InstructionCloses = (lines : List Line) (op : PlainOp) → Closes (lines ++ Instruction op ∷ [])

pub record PartLaws : Type 0 where
  pub placements : PlacementsAdd
  pub size : LinesSizeAdds
  pub stand : BothStand
  pub lead : BothLeadOn
  pub close : BothClose
  pub last : InstructionCloses

-- ---- of a whole program

-- the instructions take as many bytes as the lines
abbrev pub ProgramSize : Type 0
ProgramSize = (lines : List Line) → ops_size (program lines) ≡ lines_size lines

-- Where no label is placed twice, each line stands at its place.
abbrev pub ProgramStands : Type 0
ProgramStands = (lines : List Line) → IsPlacedOnce lines
    → LinesStand (program lines) (place_of_label lines) header_size lines

-- The file of code that leads on and closes is one that loads, if it is not too large.
abbrev pub FinishedIsCode : Type 0
FinishedIsCode = (labels : ℕ) (lines : List Line) → AllByRecursion (LineFits labels) lines
    → LeadsOn lines lines → Closes lines
    → file_length (program lines) ≤ file_limit → IsCode (program lines)
