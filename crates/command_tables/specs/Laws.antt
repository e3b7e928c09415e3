-- A statement about tables, which stands on the contract of a function of `laws`.
use Rattle.std.specs.Prelude.{ℕ, List, Option}
use Rattle.command_work.specs.Outcomes.{IsSure}
use Rattle.command_tables.specs.Tables.{tables_given}

-- what the files hold decides which tables a command is given
abbrev pub SureTables : Type 0
SureTables = (list : Option (List ℕ)) → IsSure (tables_given list)
