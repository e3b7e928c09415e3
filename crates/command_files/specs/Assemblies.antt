-- The file that the assembler text which a command names stands for.
use Rattle.std.specs.Prelude.{◌≡◌, ℕ, List, Option, Some, None}
use Rattle.nwq_outside.specs.Outside.{Contents}
use Rattle.ncs_text.specs.declared.fault.AsmFault.{AsmFault}
use Rattle.ncs_text.specs.declared.fault.AsmFault.TheVariants as fault
use Rattle.ncs_text.specs.Assembly.{IsAssembled, AssemblyFails}
use Rattle.command_work.specs.declared.flaw.CodeFlaw.{CodeFlaw}
use Rattle.command_work.specs.declared.flaw.CodeFlaw.TheVariants as flaw
use Rattle.command_work.specs.Refusal.{BadCode}
use Rattle.command_work.specs.Work.{Work, Gives, Refused, Finds, then, file_named}

-- what is wrong with a text that has no file
abbrev pub asm_flaw : AsmFault → Option CodeFlaw
asm_flaw (fault.Line number) = Some (flaw.Line number)
asm_flaw (fault.Large size) = Some (flaw.Large size)
asm_flaw (fault.Target number) = Some (flaw.LineTarget number)
asm_flaw fault.NoMemory = None

-- what comes of a text: its file, or what is wrong with it
pub data AssemblyFate : Type 0 where
  Whole : (file : List ℕ) → AssemblyFate
  Faulty : (why : CodeFlaw) → AssemblyFate

pub data IsAssemblyFate (text : List ℕ) : AssemblyFate → Type 0 where
  whole : (file : List ℕ) → IsAssembled text file → IsAssemblyFate text (Whole file)
  broken : (fails : AsmFault) (why : CodeFlaw) → AssemblyFails fails text
      → asm_flaw fails ≡ Some why → IsAssemblyFate text (Faulty why)

abbrev pub assembly_by : List ℕ → AssemblyFate → Work (List ℕ)
assembly_by name (Whole file) = Gives file
assembly_by name (Faulty why) = Refused (BadCode name why)

-- the file of a text, which is that of the file of this name
unfoldable pub assembly_in : List ℕ → List ℕ → Work (List ℕ)
assembly_in name text = Finds (λ (c : Contents) fate. IsAssemblyFate text fate) (assembly_by name)

-- the file that the assembler text of this name stands for
unfoldable pub assembly_named : List ℕ → Work (List ℕ)
assembly_named name = then (file_named name) (assembly_in name)
