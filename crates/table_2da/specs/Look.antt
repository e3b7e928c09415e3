-- The cell of a table that a name, a column and a row mean.
use Rattle.std.specs.Prelude.{ℕ, ℤ, pos, negsuc, Bool, List, [], Option, None, Some, map, take, position, slice_get, unwrap_or}
use Rattle.std.specs.Char.{to_ascii_lowercase}
use Rattle.std.specs.List.{find}
use Rattle.std.specs.Str.{bytes_eq}
use Rattle.nwq_value.specs.Limits.{text_limit}
use Rattle.table_2da.specs.Table.{PlainTable}
use Rattle.table_2da.specs.declared.tables.Named.{Named}

-- a name with A to Z as a to z
abbrev pub folded : List ℕ → List ℕ
folded name = map to_ascii_lowercase name

-- whether names are equal when both are folded
unfoldable pub same_name : List ℕ → List ℕ → Bool
same_name a b = bytes_eq (folded a) (folded b)

-- the place of the column of this name
abbrev pub column_named : List ℕ → List (List ℕ) → Option ℕ
column_named name columns = position (λ column. same_name column name) columns

-- the cells of the row of this number; a row that isn't there has none
abbrev pub row_numbered : ℤ → List (List (List ℕ)) → List (List ℕ)
row_numbered (pos n) rows = unwrap_or (slice_get rows n) []
row_numbered (negsuc n) rows = []

-- the cell in the column of this place; one that isn't there is empty
abbrev pub cell_at : Option ℕ → List (List ℕ) → List ℕ
cell_at None cells = []
cell_at (Some place) cells = unwrap_or (slice_get cells place) []

-- the cell of a table in the column of this name and the row of this number, counted from 0
abbrev pub cell_in : List ℕ → ℤ → PlainTable → List ℕ
cell_in column row table = cell_at (column_named column table.columns) (row_numbered row table.rows)

-- the table of this name
abbrev pub table_named : List ℕ → List Named → Option Named
table_named name tables = find (λ t. same_name t.name name) tables

abbrev pub cell_in_named : List ℕ → ℤ → Option Named → List ℕ
cell_in_named column row None = []
cell_in_named column row (Some t) = cell_in column row t.table

-- the whole cell of a table's column and row, empty where there is no such table, column or row
unfoldable pub cell_of : List Named → List ℕ → List ℕ → ℤ → List ℕ
cell_of tables name column row = cell_in_named column row (table_named name tables)

-- what a look-up gives: as much of the cell as a text has
abbrev pub look : List Named → List ℕ → List ℕ → ℤ → List ℕ
look tables name column row = take text_limit (cell_of tables name column row)
