-- What holds of assembler texts by themselves.
use Rattle.std.specs.Prelude.{◌≡◌, ◌≢◌, ℕ, ◌≤◌, List, Result, Err}
use Rattle.nwq_value.specs.Limits.{file_limit}
use Rattle.ncs_code.specs.Plain.{PlainOp}
use Rattle.ncs_code.specs.File.{IsCode, begins, jump_place, file_bytes, file_length}
use Rattle.ncs_text.specs.declared.fault.AsmFault.{AsmFault}
use Rattle.ncs_text.specs.declared.fault.AsmFault.TheVariants.{NoMemory}
use Rattle.ncs_text.specs.Arguments.{offset_to}
use Rattle.ncs_text.specs.Assembly.{IsAssembled, Answers}
use Rattle.ncs_text.specs.Listing.{listing}

-- Assembling the text of a file gives the file again.
abbrev pub ListedAgain : Type 0
ListedAgain = (ops : List PlainOp) → IsCode ops → IsAssembled (listing ops) (file_bytes ops)

-- A text has one answer, but for the want of memory, which may come at any time.
abbrev pub OneAnswer : Type 0
OneAnswer = (text : List ℕ) (a b : Result (List ℕ) AsmFault) → Answers text a → Answers text b
    → a ≢ Err NoMemory → b ≢ Err NoMemory → a ≡ b

-- A jump leads to a beginning of an instruction exactly where one begins at the place that its line
-- names.
abbrev pub TargetIsMeant : Type 0
TargetIsMeant = (ops : List PlainOp) (at place : ℕ) → at ≤ file_limit → file_length ops ≤ file_limit
    → begins ops (jump_place at (offset_to at place)) ≡ begins ops place
