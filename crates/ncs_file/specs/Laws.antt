-- What follows for every loaded file.
use Rattle.std.specs.Prelude.{◌≡◌, ◌≢◌, ℕ, ◌+◌, List, IsTrue, Some, ◌⊎◌}
use Rattle.ncs_code.specs.Plain.{PlainOp}
use Rattle.ncs_code.specs.Spelling.{op_size}
use Rattle.ncs_code.specs.File.{IsCode, begins, file_bytes, file_length, op_at}
use Rattle.ncs_file.specs.declared.fault.LoadFault.{LoadFault}
use Rattle.ncs_file.specs.declared.fault.LoadFault.TheVariants.{NoMemory}
use Rattle.ncs_file.specs.Loading.{LoadFails}

-- Behind an instruction the next one begins, or the file ends.
abbrev pub NextBegins : Type 0
NextBegins = (ops : List PlainOp) (at : ℕ) (op : PlainOp) → op_at ops at ≡ Some op
    → IsTrue (begins ops (at + op_size op)) ⊎ (at + op_size op ≡ file_length ops)

-- Bytes fail for one reason at most, but for the want of memory, which may come at any time.
abbrev pub OneFault : Type 0
OneFault = (bytes : List ℕ) (one other : LoadFault) → LoadFails one bytes → LoadFails other bytes
    → one ≢ NoMemory → other ≢ NoMemory → one ≡ other

-- The bytes of a file fail for no other reason than want of memory.
abbrev pub NoFaultInCode : Type 0
NoFaultInCode = (ops : List PlainOp) (fault : LoadFault) → IsCode ops
    → LoadFails fault (file_bytes ops) → fault ≡ NoMemory
