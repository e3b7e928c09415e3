-- Statements about checks. Each stands on the contract of a function of `laws`.
use Rattle.std.specs.Prelude.{ℕ, List}
use Rattle.nwq_value.specs.Engine.{EngineTable}
use Rattle.ncs_code.specs.Plain.{PlainOp}
use Rattle.command_work.specs.Outcomes.{IsSure}
use Rattle.command_files.specs.Checks.{checked_in, checked_named, loaded_in, checks}

-- a header and instructions decide whether these are well stacked
abbrev pub SureOps : Type 0
SureOps = (header : EngineTable) (name : List ℕ) (ops : List PlainOp)
    → IsSure (checked_in header name ops)

-- the bytes of a file decide which instructions it has that pass the check, or why there are none
abbrev pub SureLoaded : Type 0
SureLoaded = (header : EngineTable) (name bytes : List ℕ) → IsSure (loaded_in header name bytes)

-- what the files hold decides what comes of a check under a header
abbrev pub SureChecked : Type 0
SureChecked = (header : EngineTable) (name : List ℕ) → IsSure (checked_named header name)

abbrev pub SureChecks : Type 0
SureChecks = (header name : List ℕ) → IsSure (checks header name)
