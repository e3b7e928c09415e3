-- What an emitter keeps, as labelled code. Only its own contracts and proofs speak of this.
use Rattle.std.specs.Prelude.{◌≡◌, ℕ, ◌+◌, ◌<◌, ◌≤◌, List, [], ◌∷◌, length, drop, Bool, false, true, ◌^◌, slice_index_or, ◌==◌, if◌then◌else◌}
use Rattle.std.specs.List.{AllByRecursion}
use Rattle.nwq_value.specs.Limits.{file_limit}
use Rattle.ncs_code.specs.File.{header_size}
use Rattle.ncs_code.specs.Spelling.{Spells}
use Rattle.ncs_code.specs.Reading.{op_of}
use Rattle.ncs_emit.specs.declared.line.Kept.{Kept}
use Rattle.ncs_emit.specs.declared.line.Kept.TheVariants as kept
use Rattle.ncs_emit.specs.Labelled.{Line, Instruction, JumpTo, Label, placements, lines_size}
use Rattle.ncs_emit.specs.Leading.{LineFits}

-- the lines that are kept as spellings and what stands between them
abbrev pub lines_of : List ℕ → List Kept → List Line
lines_of bytes [] = []
lines_of bytes (kept.Instruction size ∷ others) = Instruction (op_of bytes) ∷ lines_of
    (drop size bytes) others
lines_of bytes (kept.Jump kind label ∷ others) = JumpTo kind label ∷ lines_of bytes others
lines_of bytes (kept.Label label ∷ others) = Label label ∷ lines_of bytes others

-- The spellings and what is kept of the lines fit each other, and each label was made.
abbrev pub KeptFits : ℕ → List ℕ → List Kept → Type 0
KeptFits labels bytes [] = bytes ≡ []
KeptFits labels bytes (kept.Instruction size ∷ others) = Spells (op_of bytes) size bytes
    × KeptFits labels (drop size bytes) others
KeptFits labels bytes (kept.Jump kind label ∷ others) = (label < labels)
    × KeptFits labels bytes others
KeptFits labels bytes (kept.Label label ∷ others) = (label < labels) × KeptFits labels bytes others

-- how many labels are not placed yet
abbrev pub count_open : List Bool → ℕ
count_open [] = 0
count_open (true ∷ others) = count_open others
count_open (false ∷ others) = count_open others + 1

-- how many times a label is placed, if the table says so
abbrev pub placed_count : Bool → ℕ
placed_count true = 1
placed_count false = 0

-- What is kept stands for all lines, and there is room for the labels that are still to be placed.
pub record IsWhole (lines : List Line) (bytes : List ℕ) (kept : List Kept)
    (capacity labels missing : ℕ) : Type 0 where
  pub fits : KeptFits labels bytes kept
  pub same : lines_of bytes kept ≡ lines
  pub room : length kept + missing ≤ capacity

-- The parts of an emitter agree. What is kept stands for the lines as long as their file is not too
-- large.
pub record IsKept (lines : List Line) (bytes : List ℕ) (kept : List Kept) (capacity : ℕ)
    (placed : List Bool) (missing : ℕ) : Type 0 where
  pub whole : header_size + lines_size lines ≤ file_limit
      → IsWhole lines bytes kept capacity (length placed) missing
  pub fit : AllByRecursion (LineFits (length placed)) lines
  pub table : (label : ℕ) → label < length placed
      → placements lines label ≡ placed_count (slice_index_or placed label false)
  pub left : missing ≡ count_open placed
  pub few : length placed < 2 ^ 32

-- how many bytes what is kept stands for
abbrev pub kept_size : Kept → ℕ
kept_size (kept.Instruction size) = size
kept_size (kept.Jump kind label) = 6
kept_size (kept.Label label) = 0

abbrev pub kept_total : List Kept → ℕ
kept_total [] = 0
kept_total (line ∷ others) = kept_size line + kept_total others

-- where a label stands, if the first line stands at `at`
abbrev pub kept_place : ℕ → List Kept → ℕ → ℕ
kept_place at [] label = at
kept_place at (kept.Instruction size ∷ others) label = kept_place (at + size) others label
kept_place at (kept.Jump kind other ∷ others) label = kept_place (at + 6) others label
kept_place at (kept.Label other ∷ others) label = if other == label then at else kept_place at others label

-- the labels of what is kept were made
abbrev pub HasLabels : ℕ → Kept → Type 0
HasLabels labels (kept.Instruction size) = Unit {0}
HasLabels labels (kept.Jump kind label) = label < labels
HasLabels labels (kept.Label label) = label < labels
