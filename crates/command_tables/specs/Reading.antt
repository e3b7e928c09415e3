-- What private clauses say of tables while they are read.
use Rattle.std.specs.Prelude.{List, Result, Ok, Err}
use Rattle.table_2da.specs.declared.tables.Named.{Named}
use Rattle.command_work.specs.declared.status.Status.{Status}
use Rattle.command_work.specs.Work.{Finished}

-- an answer, with the tables that are there after it
abbrev pub with_tables : List Named → Result Finished Status → Result (List Named) Status
with_tables tables (Ok done) = Ok tables
with_tables tables (Err status) = Err status
