-- The header and the area of a play that may be saved: beside what a play needs of them, the bytes
-- of their files, as they were read.
use Rattle.std.specs.Prelude.{ℕ, Bool, true, false, List, codes, bytes_eq, None, Some}
use Rattle.nwq_value.specs.Engine.{EngineTable}
use Rattle.nwq_value.specs.HeaderTable.{header_table}
use Rattle.area_rules.specs.Area.{PlainArea}
use Rattle.command_work.specs.Work.{Work, Gives, then, makes, file_named}
use Rattle.command_sources.specs.Headers.{table_in}
use Rattle.play_inputs.specs.Areas.{area_of_bytes}
use Rattle.command_save.specs.declared.inputs.HeaderFile.{HeaderFile}
use Rattle.command_save.specs.declared.inputs.AreaFile.{AreaFile}

-- ---- the header

-- the built-in one has no file
abbrev pub built_in : HeaderFile
built_in = record { text = None; table = header_table }

abbrev pub header_file : List ℕ → EngineTable → HeaderFile
header_file text table = record { text = Some text; table = table }

unfoldable pub header_in : List ℕ → List ℕ → Work HeaderFile
header_in name text = then (table_in name text) (λ table. Gives (header_file text table))

unfoldable pub header_named : List ℕ → Work HeaderFile
header_named name = then (file_named name) (header_in name)

abbrev pub header_unless : Bool → List ℕ → Work HeaderFile
header_unless true name = makes built_in
header_unless false name = header_named name

-- the header that a word names: `-` is the built-in one, every other word a file
unfoldable pub header_of : List ℕ → Work HeaderFile
header_of word = header_unless (bytes_eq word (codes "-")) word

-- ---- the area

abbrev pub area_file : List ℕ → PlainArea → AreaFile
area_file bytes area = record { bytes = bytes; area = area }

unfoldable pub area_in : List ℕ → List ℕ → Work AreaFile
area_in name bytes = then (area_of_bytes name bytes) (λ area. Gives (area_file bytes area))

-- the area in the file of this name
unfoldable pub area_named : List ℕ → Work AreaFile
area_named name = then (file_named name) (area_in name)
