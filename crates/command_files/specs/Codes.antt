-- The instructions of the file of bytecode that a command names.
use Rattle.std.specs.Prelude.{◌≡◌, ℕ, List, Option, Some, None}
use Rattle.nwq_outside.specs.Outside.{Contents}
use Rattle.ncs_code.specs.declared.fault.CodeFault.TheVariants as op
use Rattle.ncs_code.specs.Plain.{PlainOp}
use Rattle.ncs_code.specs.File.{IsCode, file_bytes}
use Rattle.ncs_file.specs.declared.fault.LoadFault.{LoadFault}
use Rattle.ncs_file.specs.declared.fault.LoadFault.TheVariants as fault
use Rattle.ncs_file.specs.Loading.{LoadFails}
use Rattle.command_work.specs.declared.flaw.CodeFlaw.{CodeFlaw}
use Rattle.command_work.specs.declared.flaw.CodeFlaw.TheVariants as flaw
use Rattle.command_work.specs.Refusal.{BadCode}
use Rattle.command_work.specs.Work.{Work, Gives, Refused, Finds, then, file_named}

-- what is wrong with bytes that are no file of bytecode
abbrev pub load_flaw : LoadFault → Option CodeFlaw
load_flaw fault.Magic = Some flaw.Magic
load_flaw fault.Length = Some flaw.Length
load_flaw (fault.At at op.Opcode) = Some (flaw.Opcode at)
load_flaw (fault.At at op.TypeByte) = Some (flaw.TypeByte at)
load_flaw (fault.At at op.Short) = Some (flaw.Short at)
load_flaw (fault.Target at) = Some (flaw.Target at)
load_flaw fault.NoMemory = None

-- what comes of a file's bytes: the instructions that they are the file of, or what is wrong with
-- them
pub data CodeFate : Type 0 where
  Whole : (ops : List PlainOp) → CodeFate
  Faulty : (why : CodeFlaw) → CodeFate

pub data IsCodeFate (bytes : List ℕ) : CodeFate → Type 0 where
  whole : (ops : List PlainOp) → IsCode ops → bytes ≡ file_bytes ops → IsCodeFate bytes (Whole ops)
  broken : (fails : LoadFault) (why : CodeFlaw) → LoadFails fails bytes → load_flaw fails ≡ Some why
      → IsCodeFate bytes (Faulty why)

abbrev pub code_by : List ℕ → CodeFate → Work (List PlainOp)
code_by name (Whole ops) = Gives ops
code_by name (Faulty why) = Refused (BadCode name why)

-- the instructions in the bytes of the file of this name
unfoldable pub code_in : List ℕ → List ℕ → Work (List PlainOp)
code_in name bytes = Finds (λ (c : Contents) fate. IsCodeFate bytes fate) (code_by name)

-- the instructions of the file of bytecode of this name
unfoldable pub code_named : List ℕ → Work (List PlainOp)
code_named name = then (file_named name) (code_in name)
