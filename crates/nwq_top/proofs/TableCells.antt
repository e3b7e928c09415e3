-- The cells of tables that are read from files of bytes are bytes.
use Rattle.std.proofs.Common.{◌==◌, ◌<◌, ℕ, zero, suc, ◌+◌, Bool, true, false, cond, List, [], ◌∷◌, ◌++◌, map, Option, Some, None, Result, Ok, Err, bytes_eq, codes, sym, subst}
use Rattle.std.specs.Prelude.{ℤ, pos, negsuc, if◌then◌else◌, slice_get, unwrap_or}
use Rattle.std.specs.List.{AllByRecursion, onto_first, slice_split}
use Rattle.nwq_text.specs.Lines.{without_return, lines_in, lines_of}
use Rattle.state_format.specs.Parts.{AreStateBytes}
use Rattle.table_2da.specs.declared.tables.Named.{Named}
use Rattle.table_2da.specs.declared.words.Part.TheVariants.{Row}
use Rattle.table_2da.specs.Grammar.{Adds, nothing, row, Follow, whole, goes, stops, with_columns, Gives, headless, no_second, no_columns, headed, HasTable}
use Rattle.table_2da.specs.Look.{same_name, column_named, row_numbered, cell_at, table_named, cell_in_named, cell_of}
use Rattle.table_2da.specs.Table.{PlainTable}
use Rattle.table_2da.specs.Words.{PlainWord, Bare, Quoted, BeginsWith, Words, none, more, text_in}
use Rattle.play_room.specs.Kept.{CellsAreBytes}

-- ---- parts of a text

front_bytes : (x y : List ℕ) → AreStateBytes (x ++ y) → AreStateBytes x
front_bytes [] y are = tt
front_bytes (b ∷ x) y are = (are.0, front_bytes x y are.1)

back_bytes : (x y : List ℕ) → AreStateBytes (x ++ y) → AreStateBytes y
back_bytes [] y are = are
back_bytes (b ∷ x) y are = back_bytes x y are.1

abbrev AreTexts : List (List ℕ) → Type 0
AreTexts texts = AllByRecursion AreStateBytes texts

first_more : (b : ℕ) (parts : List (List ℕ)) → b < 256 → AreTexts parts → AreTexts (onto_first b parts)
first_more b [] is are = ((is, tt), tt)
first_more b (part ∷ parts) is are = ((is, are.0), are.1)

split_by : (b : ℕ) (ends : Bool) (parts : List (List ℕ)) → b < 256 → AreTexts parts → AreTexts (cond ends ([] ∷ parts) (onto_first b parts))
split_by b true parts is are = (tt, are)
split_by b false parts is are = first_more b parts is are

split_bytes : (text : List ℕ) → AreStateBytes text → AreTexts (slice_split (λ b. b == 10) text)
split_bytes [] are = (tt, tt)
split_bytes (b ∷ text) are = split_by b (b == 10) (slice_split (λ b. b == 10) text) are.0 (split_bytes text are.1)

last_bytes : (ends : Bool) (b : ℕ) → b < 256 → AreStateBytes (if ends then [] else b ∷ [])
last_bytes true b is = tt
last_bytes false b is = (is, tt)

return_bytes : (line : List ℕ) → AreStateBytes line → AreStateBytes (without_return line)
return_bytes [] are = tt
return_bytes (b ∷ []) are = last_bytes (b == 13) b are.0
return_bytes (b ∷ c ∷ bs) are = (are.0, return_bytes (c ∷ bs) are.1)

parts_bytes : (parts : List (List ℕ)) → AreTexts parts → AreTexts (lines_in parts)
parts_bytes [] are = tt
parts_bytes ([] ∷ []) are = tt
parts_bytes ((b ∷ bs) ∷ []) are = are
parts_bytes (part ∷ next ∷ parts) are = (return_bytes part are.0, parts_bytes (next ∷ parts) are.1)

lines_bytes : (text : List ℕ) → AreStateBytes text → AreTexts (lines_of text)
unfolding lines_of
lines_bytes text are = parts_bytes (slice_split (λ b. b == 10) text) (split_bytes text are)

-- ---- words of a line

starred_bytes : (stars : Bool) (bytes : List ℕ) → AreStateBytes bytes → AreStateBytes (if stars then [] else bytes)
starred_bytes true bytes are = tt
starred_bytes false bytes are = are

word_bytes : (line : List ℕ) (word : PlainWord) (rest : List ℕ) → BeginsWith line word rest → AreStateBytes line → AreStateBytes (text_in Row word) × AreStateBytes rest
word_bytes line (Bare bytes) rest begins are =
    let behind : AreStateBytes (bytes ++ rest) = back_bytes begins.blanks (bytes ++ rest) (subst AreStateBytes begins.is are) in
    (starred_bytes (bytes_eq bytes (codes "****")) bytes (front_bytes bytes rest behind), back_bytes bytes rest behind)
word_bytes line (Quoted bytes) rest begins are =
    let quoted : AreStateBytes (34 ∷ (bytes ++ 34 ∷ rest)) = back_bytes begins.blanks (34 ∷ (bytes ++ 34 ∷ rest)) (subst AreStateBytes begins.is are) in
    (front_bytes bytes (34 ∷ rest) quoted.1, (back_bytes bytes (34 ∷ rest) quoted.1).1)

words_bytes : (line : List ℕ) (words : List PlainWord) → Words line words → AreStateBytes line → AreTexts (map (text_in Row) words)
words_bytes line [] (none _ blank) are = tt
words_bytes line (word ∷ words) (more _ rest _ _ begins others) are =
    let both = word_bytes line word rest begins are in (both.0, words_bytes rest words others both.1)

-- ---- rows

abbrev AreRows : List (List (List ℕ)) → Type 0
AreRows rows = AllByRecursion AreTexts rows

row_more : (rows : List (List (List ℕ))) (cells : List (List ℕ)) → AreRows rows → AreTexts cells → AreRows (rows ++ cells ∷ [])
row_more [] cells are new = (new, tt)
row_more (r ∷ rows) cells are new = (are.0, row_more rows cells are.1 new)

line_bytes : (width : ℕ) (rows : List (List (List ℕ))) (line : List ℕ) (after : List (List (List ℕ))) → Adds width rows line after → AreStateBytes line → AreRows rows → AreRows after
line_bytes width rows line after (nothing _ blank) are all = all
line_bytes width rows line after (row _ rest first _ begins adds) are all =
    let behind = word_bytes line first rest begins are in
    subst AreRows (sym adds.is)
    (row_more rows adds.cells all (subst AreTexts (sym adds.says.say) (words_bytes rest adds.says.words adds.says.are behind.1)))

abbrev RowsAre : Result (List (List (List ℕ))) ℕ → Type 0
RowsAre (Ok rows) = AreRows rows
RowsAre (Err n) = Unit {0}

rows_bytes : (width n : ℕ) (rows : List (List (List ℕ))) (lines : List (List ℕ)) (end : Result (List (List (List ℕ))) ℕ) → Follow width n rows lines end → AreTexts lines → AreRows rows
    → RowsAre end
rows_bytes width n rows lines end (whole _ _) are all = all
rows_bytes width n rows lines end (goes _ _ next line others _ adds rest) are all =
    rows_bytes width (n + 1) next others end rest are.1 (line_bytes width rows line next adds are.0 all)
rows_bytes width n rows lines end (stops _ _ line others baffles) are all = tt

-- ---- tables

-- each cell is bytes
abbrev pub HasByteCells : PlainTable → Type 0
HasByteCells table = AreRows table.rows

abbrev TableIs : Result PlainTable ℕ → Type 0
TableIs (Ok table) = HasByteCells table
TableIs (Err n) = Unit {0}

rows_table : (columns : List (List ℕ)) (end : Result (List (List (List ℕ))) ℕ) → RowsAre end → TableIs (with_columns columns end)
rows_table columns (Ok rows) all = all
rows_table columns (Err n) all = tt

given_cells : (lines : List (List ℕ)) (r : Result PlainTable ℕ) → Gives lines r → AreTexts lines → TableIs r
given_cells lines r (headless _ h) are = tt
given_cells lines r (no_second heading others h k) are = tt
given_cells lines r (no_columns heading second others h k l) are = tt
given_cells lines r (headed heading second line others columns end h k l follow) are = rows_table columns end (rows_bytes _ 4 [] others end follow are.1.1.1 tt)

pub table_cells : (bytes : List ℕ) (table : PlainTable) → AreStateBytes bytes → HasTable bytes table → HasByteCells table
table_cells bytes table are has = given_cells (lines_of bytes) (Ok table) has (lines_bytes bytes are)

-- ---- cells that are looked up

got_cell : (cells : List (List ℕ)) (place : ℕ) → AreTexts cells → AreStateBytes (unwrap_or (slice_get cells place) [])
got_cell [] place all = tt
got_cell (cell ∷ cells) zero all = all.0
got_cell (cell ∷ cells) (suc place) all = got_cell cells place all.1

cell_bytes : (place : Option ℕ) (cells : List (List ℕ)) → AreTexts cells → AreStateBytes (cell_at place cells)
cell_bytes None cells all = tt
cell_bytes (Some place) cells all = got_cell cells place all

got_row : (rows : List (List (List ℕ))) (place : ℕ) → AreRows rows → AreTexts (unwrap_or (slice_get rows place) [])
got_row [] place all = tt
got_row (r ∷ rows) zero all = all.0
got_row (r ∷ rows) (suc place) all = got_row rows place all.1

numbered_row : (number : ℤ) (rows : List (List (List ℕ))) → AreRows rows → AreTexts (row_numbered number rows)
numbered_row (pos n) rows all = got_row rows n all
numbered_row (negsuc n) rows all = tt

-- each cell of the tables is bytes
abbrev pub HaveByteCells : List Named → Type 0
HaveByteCells tables = AllByRecursion (λ (t : Named). HasByteCells t.table) tables

abbrev MaybeHasByteCells : Option Named → Type 0
MaybeHasByteCells None = Unit {0}
MaybeHasByteCells (Some t) = HasByteCells t.table

found_by : (is : Bool) (t : Named) (other : Option Named) → HasByteCells t.table → MaybeHasByteCells other → MaybeHasByteCells (cond is (Some t) other)
found_by true t other has others = has
found_by false t other has others = others

found_cells : (name : List ℕ) (tables : List Named) → HaveByteCells tables → MaybeHasByteCells (table_named name tables)
found_cells name [] all = tt
found_cells name (t ∷ tables) all = found_by (same_name t.name name) t (table_named name tables) all.0 (found_cells name tables all.1)

looked_up : (column : List ℕ) (number : ℤ) (found : Option Named) → MaybeHasByteCells found → AreStateBytes (cell_in_named column number found)
looked_up column number None has = tt
looked_up column number (Some t) has = cell_bytes (column_named column t.table.columns) (row_numbered number t.table.rows) (numbered_row number t.table.rows has)

pub cells_are_bytes : (tables : List Named) → HaveByteCells tables → CellsAreBytes (cell_of tables)
unfolding cell_of
cells_are_bytes tables all name column number = looked_up column number (table_named name tables) (found_cells name tables all)
