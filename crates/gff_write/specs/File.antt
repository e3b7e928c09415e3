-- The one file of a tree, as a function of the list of its structs.
use Rattle.std.specs.Prelude.{◌≡◌, ℕ, zero, suc, ◌+◌, ◌-◌, ◌^◌, ◌==◌, min, nat_lt, if◌then◌else◌, List, [], ◌∷◌, ◌++◌, length, codes, Result, Ok, Err}
use Rattle.std.specs.List.{flat_map}
use Rattle.std.specs.Str.{bytes_eq}
use Rattle.gff_tree.specs.Whole.{PlainGff}
use Rattle.nwq_value.specs.Limits.{file_limit}
use Rattle.gff_write.specs.declared.fault.WriteFault.{WriteFault}
use Rattle.gff_write.specs.declared.fault.WriteFault.TheVariants as fault
use Rattle.gff_write.specs.declared.flat.Content.{Content}
use Rattle.gff_write.specs.declared.flat.Content.TheVariants.{Small, Data, Number, Numbers}
use Rattle.gff_write.specs.declared.flat.Entry.{Entry}
use Rattle.gff_write.specs.declared.flat.FlatStruct.{FlatStruct}
use Rattle.gff_write.specs.declared.sections.Sections.{Sections}
use Rattle.gff_write.specs.Flat.{word, rows_of}

-- where a label stands among these, or their number
abbrev pub label_index : List (List ℕ) → List ℕ → ℕ
label_index [] label = 0
label_index (first ∷ labels) label = if bytes_eq first label then 0 else 1 + label_index labels label

-- these labels, with a label behind them if it is new
abbrev pub with_label : List (List ℕ) → List ℕ → List (List ℕ)
with_label table label = if nat_lt (label_index table label) (length table) then table else table
    ++ label ∷ []

-- the labels of fields once each, in the order of their first use
abbrev pub entry_labels : List (List ℕ) → List Entry → List (List ℕ)
entry_labels table [] = table
entry_labels table (entry ∷ entries) = entry_labels (with_label table entry.label) entries

abbrev pub row_labels : List (List ℕ) → List FlatStruct → List (List ℕ)
row_labels table [] = table
row_labels table (row ∷ rows) = row_labels (entry_labels table row.fields) rows

-- what a field puts into the field data and into the list indices
abbrev pub data_of : Content → List ℕ
data_of (Small n) = []
data_of (Data bytes) = bytes
data_of (Number n) = []
data_of (Numbers ns) = []

abbrev pub list_of : Content → List ℕ
list_of (Small n) = []
list_of (Data bytes) = []
list_of (Number n) = []
list_of (Numbers ns) = word (length ns) ++ flat_map word ns

-- the third number of a field, behind so much field data and so many list indices
abbrev pub third_of : ℕ → ℕ → Content → ℕ
third_of datum list (Small n) = n
third_of datum list (Data bytes) = datum
third_of datum list (Number n) = n
third_of datum list (Numbers ns) = list

abbrev pub entry_bytes : List (List ℕ) → ℕ → ℕ → Entry → List ℕ
entry_bytes table datum list entry = word entry.kind ++ word (label_index table entry.label)
    ++ word (third_of datum list entry.content)

abbrev pub entries_data : List Entry → List ℕ
entries_data [] = []
entries_data (entry ∷ entries) = data_of entry.content ++ entries_data entries

abbrev pub entries_lists : List Entry → List ℕ
entries_lists [] = []
entries_lists (entry ∷ entries) = list_of entry.content ++ entries_lists entries

abbrev pub entries_bytes : List (List ℕ) → ℕ → ℕ → List Entry → List ℕ
entries_bytes table datum list [] = []
entries_bytes table datum list (entry ∷ entries) =
    entry_bytes table datum list entry
    ++ entries_bytes table (datum + length (data_of entry.content))
    (list + length (list_of entry.content)) entries

-- the field data, list indices and fields of structs
abbrev pub rows_data : List FlatStruct → List ℕ
rows_data [] = []
rows_data (row ∷ rows) = entries_data row.fields ++ rows_data rows

abbrev pub rows_lists : List FlatStruct → List ℕ
rows_lists [] = []
rows_lists (row ∷ rows) = entries_lists row.fields ++ rows_lists rows

abbrev pub rows_fields : List (List ℕ) → ℕ → ℕ → List FlatStruct → List ℕ
rows_fields table datum list [] = []
rows_fields table datum list (row ∷ rows) =
    entries_bytes table datum list row.fields
    ++ rows_fields table (datum + length (entries_data row.fields))
    (list + length (entries_lists row.fields)) rows

-- the numbers of so many fields in a row
abbrev pub words_up : ℕ → ℕ → List ℕ
words_up first zero = []
words_up first (suc n) = word first ++ words_up (first + 1) n

-- what a struct of so many fields, the first of this number, puts into the field indices
abbrev pub indices_of : ℕ → ℕ → List ℕ
indices_of first count = if nat_lt count 2 then [] else words_up first count

-- the second number of a struct behind so many field indices
abbrev pub second_of : ℕ → ℕ → ℕ → ℕ
second_of first index count = if count == 0 then 4294967295 else
    (if count == 1 then first else index)

abbrev pub row_bytes : ℕ → ℕ → FlatStruct → List ℕ
row_bytes first index row = word row.kind ++ word (second_of first index (length row.fields))
    ++ word (length row.fields)

abbrev pub rows_indices : ℕ → List FlatStruct → List ℕ
rows_indices first [] = []
rows_indices first (row ∷ rows) = indices_of first (length row.fields)
    ++ rows_indices (first + length row.fields) rows

abbrev pub rows_structs : ℕ → ℕ → List FlatStruct → List ℕ
rows_structs first index [] = []
rows_structs first index (row ∷ rows) =
    row_bytes first index row
    ++ rows_structs (first + length row.fields)
    (index + length (indices_of first (length row.fields))) rows

abbrev pub joined : List (List ℕ) → List ℕ
joined [] = []
joined (label ∷ labels) = label ++ joined labels

-- the six sections
abbrev pub parts_with : List (List ℕ) → List ℕ → List FlatStruct → Sections
parts_with table labels rows = record {
  structs = rows_structs 0 0 rows;
  fields = rows_fields table 0 0 rows;
  labels = labels;
  data_bytes = rows_data rows;
  indices = rows_indices 0 rows;
  lists = rows_lists rows;
}

abbrev pub parts_of : List FlatStruct → Sections
parts_of rows = parts_with (row_labels [] rows) (joined (row_labels [] rows)) rows

-- how many fields there are
abbrev pub field_count : List FlatStruct → ℕ
field_count [] = 0
field_count (row ∷ rows) = length row.fields + field_count rows

-- a section's place in the header: its offset and its count
abbrev pub section_words : ℕ → ℕ → List ℕ
section_words offset count = word offset ++ word count

-- the header, with the counts of structs, fields and labels
unfoldable pub header_of : List ℕ → Sections → ℕ → ℕ → ℕ → List ℕ
header_of file_type s structs fields labels =
    let field_place = 56 + length s.structs in
    let label_place = field_place + length s.fields in
    let data_place = label_place + length s.labels in
    let index_place = data_place + length s.data_bytes in
    let list_place = index_place + length s.indices in
    file_type ++ codes "V3.2" ++ section_words 56 structs ++ section_words field_place fields
    ++ section_words label_place labels
    ++ section_words data_place (length s.data_bytes)
    ++ section_words index_place (length s.indices) ++ section_words list_place (length s.lists)

abbrev pub body_of : Sections → List ℕ
body_of s = s.structs ++ s.fields ++ s.labels ++ s.data_bytes ++ s.indices ++ s.lists

-- the one file of a tree
unfoldable pub written_rows : List ℕ → List FlatStruct → List ℕ
written_rows file_type rows =
    header_of file_type (parts_of rows) (length rows) (field_count rows)
    (length (row_labels [] rows)) ++ body_of (parts_of rows)

abbrev pub written : PlainGff → List ℕ
written gff = written_rows gff.file_type (rows_of 0 gff.top)

-- what writing gives: the file, or that it would be too large, with its size as a number of 64 bits
-- can tell it
unfoldable pub outcome_of : List ℕ → Result (List ℕ) WriteFault
outcome_of bytes = if nat_lt file_limit (length bytes) then Err
    (fault.Large (min (length bytes) (2 ^ 64 - 1))) else Ok bytes

-- what a call returned is what writing gives, unless memory ran out
abbrev pub Gives : {X : Type 0} → (X → List ℕ) → Result X WriteFault → Result (List ℕ) WriteFault
    → Type 0
Gives view (Ok x) outcome = outcome ≡ Ok (view x)
Gives view (Err (fault.Large n)) outcome = outcome ≡ Err (fault.Large n)
Gives view (Err fault.NoMemory) outcome = Unit {0}
