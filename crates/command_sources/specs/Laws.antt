-- Statements about the parts that read sources. Each stands on the contract of a function of
-- `laws`.
use Rattle.std.specs.Prelude.{ℕ, List}
use Rattle.command_work.specs.Outcomes.{IsSure}
use Rattle.command_sources.specs.Headers.{table_of_word}
use Rattle.command_sources.specs.Units.{unit_of}

-- what the files hold decides what comes of a header, and of a script
abbrev pub SureTables : Type 0
SureTables = (word : List ℕ) → IsSure (table_of_word word)

abbrev pub SureUnits : Type 0
SureUnits = (name : List ℕ) → IsSure (unit_of name)
