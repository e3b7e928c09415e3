-- What holds of instructions and of lists of them by themselves.
use Rattle.std.specs.Prelude.{◌≡◌, ◌≤◌, ◌<◌, ◌+◌, List, ℕ, ◌∷◌, ◌++◌, length, None, Some, slice_get, IsTrue}
use Rattle.std.specs.List.{AllByRecursion}
use Rattle.ncs_code.specs.Plain.{PlainOp}
use Rattle.ncs_code.specs.Spelling.{spelling, op_size, is_opcode, opcode, IsOp, fault_of}
use Rattle.ncs_code.specs.Reading.{op_of, ops_of}
use Rattle.ncs_code.specs.File.{header_size, spellings, ops_size, file_bytes, file_length, placed, op_at, jump_place, distance, IsFirstBad}
use Rattle.ncs_code.specs.Names.{name_of}

-- ---- spellings

-- What bytes that begin with a spelling are read as is what is spelled.
abbrev pub ReadAgain : Type 0
ReadAgain = (op : PlainOp) (rest : List ℕ) → IsOp op → op_of (spelling op ++ rest) ≡ op

-- No instruction's spelling begins another's.
abbrev pub NoneBeginsAnother : Type 0
NoneBeginsAnother = (a b : PlainOp) (x y : List ℕ) → IsOp a → IsOp b
    → spelling a ++ x ≡ spelling b ++ y → a ≡ b

-- Where an instruction is spelled, there is no fault, whatever follows.
abbrev pub SpelledIsSound : Type 0
SpelledIsSound = (op : PlainOp) (rest : List ℕ) → IsOp op → fault_of (spelling op ++ rest) ≡ None

-- The instructions that are read from spellings in a row are those that were spelled.
abbrev pub ListedAgain : Type 0
ListedAgain = (n : ℕ) (ops : List PlainOp) → AllByRecursion IsOp ops → length (spellings ops) ≤ n
    → ops_of n (spellings ops) ≡ ops

pub record SpellingLaws : Type 0 where
  pub again : ReadAgain
  pub none : NoneBeginsAnother
  pub sound : SpelledIsSound
  pub listed : ListedAgain

-- ---- sizes

-- An instruction takes as many bytes as its spelling has, which are an opcode and a type byte at
-- least.
abbrev pub SizeIsLength : Type 0
SizeIsLength = (op : PlainOp) → op_size op ≡ length (spelling op)

abbrev pub SizeSome : Type 0
SizeSome = (op : PlainOp) → 2 ≤ op_size op

abbrev pub SizesAreLengths : Type 0
SizesAreLengths = (ops : List PlainOp) → ops_size ops ≡ length (spellings ops)

abbrev pub FileLength : Type 0
FileLength = (ops : List PlainOp) → length (file_bytes ops) ≡ file_length ops

-- the sizes of instructions before others add up
abbrev pub SizesAdd : Type 0
SizesAdd = (before behind : List PlainOp)
    → ops_size (before ++ behind) ≡ ops_size before + ops_size behind

pub record SizeLaws : Type 0 where
  pub op : SizeIsLength
  pub some : SizeSome
  pub ops : SizesAreLengths
  pub file : FileLength
  pub add : SizesAdd

-- ---- places

-- An instruction of a file stands behind some others and before some others, at the length that a
-- file of those before it has.
pub record StandsBehind (ops : List PlainOp) (at : ℕ) (op : PlainOp) : Type 0 where
  pub before : List PlainOp
  pub behind : List PlainOp
  pub both : ops ≡ before ++ op ∷ behind
  pub place : at ≡ file_length before

-- What begins at a place stands behind others.
abbrev pub BegunStands : Type 0
BegunStands = (ops : List PlainOp) (at : ℕ) (op : PlainOp) → op_at ops at ≡ Some op
    → StandsBehind ops at op

-- What stands behind others begins at their file's length.
abbrev pub StoodBegins : Type 0
StoodBegins = (before behind : List PlainOp) (op : PlainOp)
    → op_at (before ++ op ∷ behind) (file_length before) ≡ Some op

-- An instruction lies between the header and the end of the file, and ends before another one
-- begins.
abbrev pub BegunLies : Type 0
BegunLies = (ops : List PlainOp) (at : ℕ) (op : PlainOp) → op_at ops at ≡ Some op
    → (header_size ≤ at) × (at + op_size op ≤ file_length ops)

abbrev pub OpsApart : Type 0
OpsApart = (ops : List PlainOp) (at place : ℕ) (op other : PlainOp) → op_at ops at ≡ Some op
    → op_at ops place ≡ Some other → at < place → at + op_size op ≤ place

-- The list of places tells what begins where.
abbrev pub PlacedBegins : Type 0
PlacedBegins = (ops : List PlainOp) (i at : ℕ) (op : PlainOp)
    → slice_get (placed ops) i ≡ Some (at, op) → op_at ops at ≡ Some op

-- the list of places has each instruction that begins somewhere, with its index
abbrev pub BegunIsPlaced : Type 0
BegunIsPlaced = (ops : List PlainOp) (at : ℕ) (op : PlainOp) → op_at ops at ≡ Some op
    → (i : ℕ) × (slice_get (placed ops) i ≡ Some (at, op))

pub record PlaceLaws : Type 0 where
  pub stands : BegunStands
  pub begins : StoodBegins
  pub lies : BegunLies
  pub apart : OpsApart
  pub placed : PlacedBegins
  pub listed : BegunIsPlaced

-- A file has one first instruction at most that leads badly.
abbrev pub OneFirstBad : Type 0
OneFirstBad = (ops : List PlainOp) (i j at place : ℕ) → IsFirstBad ops i at → IsFirstBad ops j place
    → (i ≡ j) × (at ≡ place)

-- A jump over the distance between two places leads from the one to the other.
abbrev pub DistanceLeads : Type 0
DistanceLeads = (at place : ℕ) → jump_place at (distance at place) ≡ place

-- ---- names

abbrev pub HasOpcode : Type 0
HasOpcode = (op : PlainOp) → IsTrue (is_opcode (opcode op))

-- Instructions with different opcodes have different names.
abbrev pub OneName : Type 0
OneName = (a b : PlainOp) → name_of a ≡ name_of b → opcode a ≡ opcode b
