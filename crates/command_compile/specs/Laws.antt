-- Statements about the parts that read scripts. Each stands on the contract of a function of
-- `laws`.
use Rattle.std.specs.Prelude.{ℕ, List}
use Rattle.nwq_value.specs.Engine.{EngineTable}
use Rattle.command_work.specs.Outcomes.{IsSure}
use Rattle.command_sources.specs.Units.{PlainScript}
use Rattle.command_compile.specs.Typings.{typed_in}
use Rattle.command_compile.specs.Files.{compiled_named, compiles}

-- what the files hold decides which typed unit a script has, and which file
abbrev pub SureTyped : Type 0
SureTyped = (header : EngineTable) (script : PlainScript) → IsSure (typed_in header script)

abbrev pub SureCompiled : Type 0
SureCompiled = (header : EngineTable) (name : List ℕ) → IsSure (compiled_named header name)

-- and what comes of the command
abbrev pub SureCompiles : Type 0
SureCompiles = (header script : List ℕ) → IsSure (compiles header script)
