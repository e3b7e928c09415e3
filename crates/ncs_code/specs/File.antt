-- A whole file of bytecode, as the list of its instructions.
use Rattle.std.specs.Prelude.{◌≡◌, ℕ, ℤ, pos, negsuc, suc, ◌+◌, ◌-◌, ◌-ℤ◌, ◌<◌, ◌≤◌, List, [], ◌∷◌, ◌++◌, Bool, true, false, ◌==◌, if◌then◌else◌, Option, Some, None, is_some, slice_get}
use Rattle.std.specs.List.{flat_map, AllByRecursion}
use Rattle.nwq_value.specs.Limits.{file_limit}
use Rattle.ncs_code.specs.Plain.{PlainOp, Jmp, Jsr, Jz, Jnz, StoreState}
use Rattle.ncs_code.specs.Spelling.{spelling, op_size, four, IsOp}

-- "NCS V1.0" and the byte 0x42
abbrev pub magic : List ℕ
magic = 0x4E ∷ 0x43 ∷ 0x53 ∷ 0x20 ∷ 0x56 ∷ 0x31 ∷ 0x2E ∷ 0x30 ∷ 0x42 ∷ []

-- how many bytes stand before the first instruction
abbrev pub header_size : ℕ
header_size = 13

abbrev pub spellings : List PlainOp → List ℕ
spellings ops = flat_map spelling ops

-- how many bytes instructions take in a row
abbrev pub ops_size : List PlainOp → ℕ
ops_size [] = 0
ops_size (op ∷ ops) = op_size op + ops_size ops

abbrev pub file_length : List PlainOp → ℕ
file_length ops = header_size + ops_size ops

-- the file of these instructions: the magic, the length of the whole, and their spellings
abbrev pub file_bytes : List PlainOp → List ℕ
file_bytes ops = magic ++ (four (file_length ops) ++ spellings ops)

-- ---- places

-- the instructions with their places, the first at this one
abbrev pub placed_from : ℕ → List PlainOp → List (ℕ × PlainOp)
placed_from at [] = []
placed_from at (op ∷ ops) = (at, op) ∷ placed_from (at + op_size op) ops

-- the instructions of a file with their places
abbrev pub placed : List PlainOp → List (ℕ × PlainOp)
placed ops = placed_from header_size ops

-- the instruction that begins at a place, among those of which the first begins at `at`
abbrev pub op_from : ℕ → List PlainOp → ℕ → Option PlainOp
op_from at [] place = None
op_from at (op ∷ ops) place = if place == at then Some op else op_from (at + op_size op) ops place

-- the instruction of a file that begins at a place
unfoldable pub op_at : List PlainOp → ℕ → Option PlainOp
op_at ops place = op_from header_size ops place

-- Does an instruction of the file begin there?
abbrev pub begins : List PlainOp → ℕ → Bool
begins ops place = is_some (op_at ops place)

-- ---- where instructions lead

-- The place that a jump leads to, by its distance from its own start. `-` stops at 0, where no
-- instruction begins: a jump to before the file leads there.
abbrev pub jump_place : ℕ → ℤ → ℕ
jump_place at (pos n) = at + n
jump_place at (negsuc n) = at - suc n

-- the distance of a jump that stands at a place and leads to another
abbrev pub distance : ℕ → ℕ → ℤ
distance at place = pos place -ℤ pos at

-- Where the code begins that a STORE_STATE stores: behind its own 10 bytes and the 6 of the jump
-- over that code.
abbrev pub resume_place : ℕ → ℕ
resume_place at = at + 16

-- Does an instruction that stands there lead to a beginning of an instruction, if it leads anywhere
-- besides the next one?
abbrev pub leads_well : List PlainOp → ℕ → PlainOp → Bool
leads_well ops at (Jmp offset) = begins ops (jump_place at offset)
leads_well ops at (Jsr offset) = begins ops (jump_place at offset)
leads_well ops at (Jz offset) = begins ops (jump_place at offset)
leads_well ops at (Jnz offset) = begins ops (jump_place at offset)
leads_well ops at (StoreState globals locals) = begins ops (resume_place at)
leads_well ops at _ = true

-- Each instruction of a file leads to beginnings of instructions.
abbrev pub AllLeadWell : List PlainOp → Type 0
AllLeadWell ops = (at : ℕ) (op : PlainOp) → op_at ops at ≡ Some op → leads_well ops at op ≡ true

-- The instruction with this index begins at this place and doesn't lead well, and each one before
-- it does.
pub record IsFirstBad (ops : List PlainOp) (index place : ℕ) : Type 0 where
  pub op : PlainOp
  pub stands : slice_get (placed ops) index ≡ Some (place, op)
  pub bad : leads_well ops place op ≡ false
  pub before : (at : ℕ) (other : PlainOp) → at < place → op_at ops at ≡ Some other
      → leads_well ops at other ≡ true

-- The list is that of a file: each instruction has a spelling and leads to beginnings of
-- instructions, and the file is no larger than a file may be.
pub record IsCode (ops : List PlainOp) : Type 0 where
  pub each : AllByRecursion IsOp ops
  pub leads : AllLeadWell ops
  pub bounded : file_length ops ≤ file_limit
