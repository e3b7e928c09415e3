-- The file of bytecode that a command names, checked under a header.
use Rattle.std.specs.Prelude.{◌≡◌, ℕ, List, length, ◌++◌, codes, decimal, Result, Ok, Err}
use Rattle.nwq_value.specs.Engine.{EngineTable}
use Rattle.nwq_outside.specs.Outside.{Contents}
use Rattle.ncs_code.specs.Plain.{PlainOp}
use Rattle.ncs_code.specs.File.{IsCode, file_bytes}
use Rattle.stack_rules.specs.Rules.{WellStacked}
use Rattle.stack_check.specs.Checked.{CheckedCode, IsKeptTable, kept_table}
use Rattle.command_work.specs.declared.flaw.CodeFlaw.TheVariants as flaw
use Rattle.command_work.specs.declared.status.Status.{Status}
use Rattle.command_work.specs.declared.status.Status.TheVariants.{Code}
use Rattle.command_work.specs.Counts.{StopsSource}
use Rattle.command_work.specs.Refusal.{BadCode}
use Rattle.command_work.specs.Work.{Work, Gives, Refused, Finds, then, Finished, puts}
use Rattle.command_sources.specs.Headers.{table_of_word}
use Rattle.command_files.specs.Codes.{code_in, code_named}

-- what comes of a check: some table of shapes meets the rules, or none does
pub data CheckFate : Type 0 where
  Passes : CheckFate
  Unstacked : CheckFate

pub data IsCheckFate (header : EngineTable) (ops : List PlainOp) : CheckFate → Type 0 where
  passes : WellStacked header ops → IsCheckFate header ops Passes
  unstacked : (WellStacked header ops → ⊥) → IsCheckFate header ops Unstacked

abbrev pub check_by : List ℕ → List PlainOp → CheckFate → Work (List PlainOp)
check_by name ops Passes = Gives ops
check_by name ops Unstacked = Refused (BadCode name flaw.Unstacked)

-- instructions, which are those of the file of this name, are checked under a header
unfoldable pub checked_in : EngineTable → List ℕ → List PlainOp → Work (List PlainOp)
checked_in header name ops = Finds (λ (c : Contents) fate. IsCheckFate header ops fate)
    (check_by name ops)

-- the instructions of the file of this name, checked under a header
unfoldable pub checked_named : EngineTable → List ℕ → Work (List PlainOp)
checked_named header name = then (code_named name) (checked_in header name)

-- the bytes of the file of this name are its instructions, which are checked under a header
unfoldable pub loaded_in : EngineTable → List ℕ → List ℕ → Work (List PlainOp)
loaded_in header name bytes = then (code_in name bytes) (checked_in header name)

-- the table that checked code keeps meets the rules, and stands in every table that does
abbrev pub KeepsTable : EngineTable → CheckedCode → Type 0
KeepsTable header c = IsKeptTable header c.code (kept_table c)

-- these are the bytes of a file whose instructions are well stacked under a header
pub record IsStackedFile (header : EngineTable) (bytes : List ℕ) : Type 0 where
  pub ops : List PlainOp
  pub code : IsCode ops
  pub is : bytes ≡ file_bytes ops
  pub stacked : WellStacked header ops

-- ---- the command

abbrev pub passed_line : ℕ → List ℕ
passed_line count = codes "passed " ++ decimal count ++ codes "\n"

abbrev pub puts_passed : List PlainOp → Work Finished
puts_passed ops = puts (passed_line (length ops))

unfoldable pub checks_under : List ℕ → EngineTable → Work Finished
checks_under name header = then (checked_named header name) puts_passed

-- a header is read, and a file checked under it
unfoldable pub checks : List ℕ → List ℕ → Work Finished
checks header name = then (table_of_word header) (checks_under name)

-- an answer, its checked code seen as instructions
abbrev pub plain_checked_answer : Result CheckedCode Status → Result (List PlainOp) Status
plain_checked_answer (Ok checked) = Ok checked.code
plain_checked_answer (Err status) = Err status

-- what stops a check: the header or the file isn't there, is too long or refused, or the work is
-- cut
abbrev pub StopsCheck : Status → Type 0
StopsCheck Code = Unit {0}
StopsCheck status = StopsSource status
