-- What the tables of headers keep. Each statement stands on the contract of a function of `laws`.
use Rattle.std.specs.Prelude.{◌<◌, ℕ, All, List}
use Rattle.nwq_value.specs.Engine.{EngineTable, IsTable}
use Rattle.nwq_value.specs.HeaderTable.{header_table}
use Rattle.engine_table.specs.Headers.{HasTable}

-- the table of a text of bytes that is a header keeps what every table keeps
abbrev pub HeadersHaveTables : Type 0
HeadersHaveTables = (bytes : List ℕ) (table : EngineTable) → All (λ b. b < 256) bytes
    → HasTable bytes table → IsTable table

-- so does the table of the built-in header
abbrev pub BuiltInIsTable : Type 0
BuiltInIsTable = IsTable header_table
