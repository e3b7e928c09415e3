-- A script that is compiled: its file of bytecode, and the command that writes it.
use Rattle.std.specs.Prelude.{◌<◌, ℕ, Bool, true, false, nat_lt, List, length, ◌++◌, None, codes}
use Rattle.nwq_value.specs.Limits.{file_limit}
use Rattle.nwq_value.specs.Engine.{EngineTable}
use Rattle.typing_rules.specs.Typed.{TypedUnit}
use Rattle.nss_include.specs.declared.file.Source.{Source}
use Rattle.emission_rules.specs.Units.{unit_file}
use Rattle.ncs_emit.specs.declared.fault.EmitFault.{EmitFault}
use Rattle.ncs_emit.specs.declared.fault.EmitFault.TheVariants.{Large, NoMemory}
use Rattle.command_work.specs.declared.cause.Cause.TheVariants as cause
use Rattle.command_work.specs.Work.{Work, Refused, then, makes, Finished}
use Rattle.command_sources.specs.Headers.{table_of_word}
use Rattle.command_sources.specs.Units.{PlainScript, at_spot, spot_of, unit_of}
use Rattle.command_files.specs.Commands.{writes_and_puts}
use Rattle.command_files.specs.Texts.{done_line}
use Rattle.command_compile.specs.Typings.{typed_in}

-- why a file isn't made: it would be larger than a file may be, or memory was wanted
abbrev pub IsTooLarge : List ℕ → EmitFault → Type 0
IsTooLarge file (Large size) = file_limit < length file
IsTooLarge file NoMemory = Unit {0}

-- a unit whose file would be too large is refused at the end of the script's own file
abbrev pub file_by : List Source → Bool → List ℕ → Work (List ℕ)
file_by files true file = Refused (at_spot cause.Large (spot_of files None))
file_by files false file = makes file

-- the file of a typed unit, whose tokens stand in these files
unfoldable pub file_in : List Source → TypedUnit → Work (List ℕ)
file_in files unit = file_by files (nat_lt file_limit (length (unit_file unit))) (unit_file unit)

-- the file of a script under a header
unfoldable pub compiled_in : EngineTable → PlainScript → Work (List ℕ)
compiled_in header script = then (typed_in header script) (file_in script.files)

unfoldable pub compiled_named : EngineTable → List ℕ → Work (List ℕ)
compiled_named header name = then (unit_of name) (compiled_in header)

-- ---- the command

-- the name of a script's file of bytecode
abbrev pub code_name : List ℕ → List ℕ
code_name script = script ++ codes ".ncs"

abbrev pub compiled_line : List ℕ → ℕ → List ℕ
compiled_line name size = done_line (codes "compiled ") name size

abbrev pub writes_code : List ℕ → List ℕ → Work Finished
writes_code script file = writes_and_puts (code_name script) file
    (compiled_line (code_name script) (length file))

unfoldable pub compiles_under : List ℕ → EngineTable → Work Finished
compiles_under script header = then (compiled_named header script) (writes_code script)

-- a header is read, a script compiled under it, and its file written
unfoldable pub compiles : List ℕ → List ℕ → Work Finished
compiles header script = then (table_of_word header) (compiles_under script)
