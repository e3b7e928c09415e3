-- What a loaded file keeps: a table that tells at once where instructions begin.
use Rattle.std.specs.Prelude.{ℕ, ◌-◌, ◌≤◌, ◌≡◌, List, ◌∷◌, ◌++◌, length, Bool, true, false, replicate, drop, Option, None, Some}
use Rattle.std.specs.List.{flat_map, AllByRecursion}
use Rattle.nwq_value.specs.Limits.{file_limit}
use Rattle.ncs_code.specs.Plain.{PlainOp}
use Rattle.ncs_code.specs.Spelling.{op_size, IsOp}
use Rattle.ncs_code.specs.File.{file_bytes, begins, AllLeadWell}
use Rattle.ncs_code.specs.Reading.{ops_of}

abbrev pub mark : PlainOp → List Bool
mark op = true ∷ replicate (op_size op - 1) false

-- For each place of the file: does an instruction begin there?
abbrev pub marks : List PlainOp → List Bool
marks ops = replicate 13 false ++ flat_map mark ops

-- Does an instruction begin at a place, if it is told one?
abbrev pub begins_there : List PlainOp → Option ℕ → Bool
begins_there ops None = true
begins_there ops (Some place) = begins ops place

-- the instructions behind the header
abbrev pub listing : List ℕ → List PlainOp
listing bytes = ops_of (length bytes) (drop 13 bytes)

-- Instructions fill the file, the table tells where they begin, and so many there are.
pub record IsScanned (bytes : List ℕ) (starts : List Bool) (count : ℕ) : Type 0 where
  pub each : AllByRecursion IsOp (listing bytes)
  pub spelled : bytes ≡ file_bytes (listing bytes)
  pub table : starts ≡ marks (listing bytes)
  pub number : count ≡ length (listing bytes)

-- The parts of a loaded file agree.
pub record IsLoaded (bytes : List ℕ) (starts : List Bool) (count : ℕ) : Type 0 where
  pub scanned : IsScanned bytes starts count
  pub leads : AllLeadWell (listing bytes)
  pub bounded : length bytes ≤ file_limit
