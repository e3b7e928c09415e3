-- The table of the header that a command names.
use Rattle.std.specs.Prelude.{ℕ, Bool, true, false, List, codes, bytes_eq}
use Rattle.nwq_value.specs.Engine.{EngineTable}
use Rattle.nwq_value.specs.HeaderTable.{header_table}
use Rattle.nwq_text.specs.Line.{line_number}
use Rattle.nwq_outside.specs.Outside.{Contents}
use Rattle.engine_table.specs.declared.fault.HeaderFault.TheVariants as fault
use Rattle.engine_table.specs.Headers.{HasTable, IsRefused}
use Rattle.command_work.specs.declared.cause.Cause.{Cause}
use Rattle.command_work.specs.declared.cause.Cause.TheVariants as cause
use Rattle.command_work.specs.Refusal.{At}
use Rattle.command_work.specs.Work.{Work, Gives, Refused, Finds, then, makes, file_named}

-- what comes of a header's text: its table, or why it is refused and at which byte
pub data HeaderFate : Type 0 where
  Whole : (table : EngineTable) → HeaderFate
  Faulty : (why : Cause) (place : ℕ) → HeaderFate

pub data IsHeaderFate (bytes : List ℕ) : HeaderFate → Type 0 where
  whole : (table : EngineTable) → HasTable bytes table → IsHeaderFate bytes (Whole table)
  bad : (place : ℕ) → IsRefused bytes (fault.Bad place)
      → IsHeaderFate bytes (Faulty cause.Bad place)
  header : (place : ℕ) → IsRefused bytes (fault.Header place)
      → IsHeaderFate bytes (Faulty cause.Header place)
  twice : (place : ℕ) → IsRefused bytes (fault.Twice place)
      → IsHeaderFate bytes (Faulty cause.Twice place)
  many : (place : ℕ) → IsRefused bytes (fault.Many place)
      → IsHeaderFate bytes (Faulty cause.Many place)

abbrev pub table_by : List ℕ → List ℕ → HeaderFate → Work EngineTable
table_by name bytes (Whole table) = Gives table
table_by name bytes (Faulty why place) = Refused (At name (line_number bytes place) place why)

-- the table of a header's text, which is that of the file of this name
unfoldable pub table_in : List ℕ → List ℕ → Work EngineTable
table_in name bytes = Finds (λ (c : Contents) fate. IsHeaderFate bytes fate) (table_by name bytes)

unfoldable pub table_named : List ℕ → Work EngineTable
table_named name = then (file_named name) (table_in name)

abbrev pub table_unless : Bool → List ℕ → Work EngineTable
table_unless true name = makes header_table
table_unless false name = table_named name

-- the table of the header that a word names: `-` is the built-in one, every other word a file
unfoldable pub table_of_word : List ℕ → Work EngineTable
table_of_word word = table_unless (bytes_eq word (codes "-")) word
