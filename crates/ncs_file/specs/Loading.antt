-- Why bytes are no file of bytecode.
use Rattle.std.specs.Prelude.{◌≡◌, ◌≢◌, ℕ, ◌<◌, List, ◌++◌, length, take, drop, Some}
use Rattle.std.specs.List.{AllByRecursion}
use Rattle.ncs_code.specs.declared.fault.CodeFault.{CodeFault}
use Rattle.ncs_code.specs.Plain.{PlainOp}
use Rattle.ncs_code.specs.Spelling.{IsOp, four, fault_of}
use Rattle.ncs_code.specs.File.{magic, spellings, file_length, file_bytes, IsFirstBad}
use Rattle.ncs_file.specs.declared.fault.LoadFault.{LoadFault}
use Rattle.ncs_file.specs.declared.fault.LoadFault.TheVariants.{Magic, Length, At, Target, NoMemory}

-- the magic, and the length of the whole
abbrev pub HasHeader : List ℕ → Type 0
HasHeader bytes = take 13 bytes ≡ magic ++ four (length bytes)

-- Instructions fill the file up to this place, where none is spelled, for this reason.
pub record LoadStopsAt (place : ℕ) (fault : CodeFault) (bytes : List ℕ) : Type 0 where
  pub ops : List PlainOp
  pub each : AllByRecursion IsOp ops
  pub header : HasHeader bytes
  pub before : drop 13 bytes ≡ spellings ops ++ drop place bytes
  pub stands : place ≡ file_length ops
  pub inside : place < length bytes
  pub reason : fault_of (drop place bytes) ≡ Some fault

-- Instructions fill the file, and the first that leads to no beginning of one, with some index,
-- stands at this place.
pub record LeadsAstray (place : ℕ) (bytes : List ℕ) : Type 0 where
  pub ops : List PlainOp
  pub each : AllByRecursion IsOp ops
  pub spelled : bytes ≡ file_bytes ops
  pub index : ℕ
  pub first : IsFirstBad ops index place

-- No two of these hold of the same bytes, but for the want of memory, which may come at any time.
abbrev pub LoadFails : LoadFault → List ℕ → Type 0
LoadFails Magic bytes = take 9 bytes ≢ magic
LoadFails Length bytes = (take 9 bytes ≡ magic) × (take 13 bytes ≢ magic ++ four (length bytes))
LoadFails (At place fault) bytes = LoadStopsAt place fault bytes
LoadFails (Target place) bytes = LeadsAstray place bytes
LoadFails NoMemory bytes = Unit {0}
