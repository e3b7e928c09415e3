-- What stands where in a GFF V3.2 file, as functions of its bytes.
use Rattle.std.specs.Prelude.{ℕ, ◌+◌, ◌*◌, Bool, nat_lt, nat_le, if◌then◌else◌, List, codes, length, take, drop, Option, Some, None, Result, Ok, Err}
use Rattle.std.specs.Str.{bytes_eq}
use Rattle.byteorder.specs.Endian.{little_number}
use Rattle.gff_bytes.specs.declared.rows.Part.{Part}
use Rattle.gff_bytes.specs.declared.rows.Part.TheVariants.{Struct, Field, Label, Data, Index, List as ListPart}
use Rattle.gff_bytes.specs.declared.rows.Range.{Range}
use Rattle.gff_bytes.specs.declared.rows.StructRow.{StructRow}
use Rattle.gff_bytes.specs.declared.rows.FieldRow.{FieldRow}
use Rattle.gff_bytes.specs.declared.rows.OpenFault.{OpenFault}
use Rattle.gff_bytes.specs.declared.rows.OpenFault.TheVariants.{Short, Version, Section}

-- the little-endian number in the four bytes from a place
unfoldable pub word_at : List ℕ → ℕ → ℕ
word_at bytes place = little_number 4 (drop place bytes)

-- where the header has a section's offset; its count stands four bytes later
abbrev pub header_place : Part → ℕ
header_place Struct = 8
header_place Field = 16
header_place Label = 24
header_place Data = 32
header_place Index = 40
header_place ListPart = 48

-- how many bytes the count of a section counts at a time
abbrev pub row_bytes : Part → ℕ
row_bytes Struct = 12
row_bytes Field = 12
row_bytes Label = 16
row_bytes Data = 1
row_bytes Index = 1
row_bytes ListPart = 1

abbrev pub start_of : List ℕ → Part → ℕ
start_of bytes part = word_at bytes (header_place part)

abbrev pub count_of : List ℕ → Part → ℕ
count_of bytes part = word_at bytes (header_place part + 4)

-- where a row of a section begins
abbrev pub row_place : List ℕ → Part → ℕ → ℕ
row_place bytes part n = start_of bytes part + row_bytes part * n

-- does a section end past the end of the file? An empty one does too where it begins past it.
abbrev pub passes_end : List ℕ → Part → Bool
passes_end bytes part = nat_lt (length bytes) (row_place bytes part (count_of bytes part))

-- the first section that passes the end
abbrev pub section_fault : List ℕ → Option OpenFault
section_fault bytes =
    if passes_end bytes Struct then Some (Section 0)
    else (if passes_end bytes Field then Some (Section 1)
    else (if passes_end bytes Label then Some (Section 2)
    else (if passes_end bytes Data then Some (Section 3)
    else (if passes_end bytes Index then Some (Section 4)
    else (if passes_end bytes ListPart then Some (Section 5)
    else None)))))

abbrev pub has_version : List ℕ → Bool
has_version bytes = bytes_eq (take 4 (drop 4 bytes)) (codes "V3.2")

-- why the bytes are no GFF file, in the order in which the tests are made
unfoldable pub open_fault : List ℕ → Option OpenFault
open_fault bytes =
    if nat_lt (length bytes) 56 then Some Short
    else (if has_version bytes then section_fault bytes
    else Some Version)

abbrev pub file_type_of : List ℕ → List ℕ
file_type_of bytes = take 4 bytes

unfoldable pub struct_row : List ℕ → ℕ → Result StructRow Range
struct_row bytes n =
    let place = row_place bytes Struct n in
    if nat_lt n (count_of bytes Struct)
    then Ok (record {
      kind = word_at bytes place;
      word = word_at bytes (place + 4);
      count = word_at bytes (place + 8);
    })
    else Err (record { part = Struct; at = n })

unfoldable pub field_row : List ℕ → ℕ → Result FieldRow Range
field_row bytes n =
    let place = row_place bytes Field n in
    if nat_lt n (count_of bytes Field)
    then Ok (record {
      kind = word_at bytes place;
      label = word_at bytes (place + 4);
      word = word_at bytes (place + 8);
    })
    else Err (record { part = Field; at = n })

-- the sixteen bytes of a label
unfoldable pub label_row : List ℕ → ℕ → Result (List ℕ) Range
label_row bytes n =
    if nat_lt n (count_of bytes Label)
    then Ok (take 16 (drop (row_place bytes Label n) bytes))
    else Err (record { part = Label; at = n })

-- the number in the four bytes from an offset into a section
abbrev pub section_word : List ℕ → Part → ℕ → Result ℕ Range
section_word bytes part offset =
    if nat_le (offset + 4) (count_of bytes part)
    then Ok (word_at bytes (start_of bytes part + offset))
    else Err (record { part = part; at = offset })

unfoldable pub index_at : List ℕ → ℕ → Result ℕ Range
index_at bytes offset = section_word bytes Index offset

unfoldable pub list_word : List ℕ → ℕ → Result ℕ Range
list_word bytes offset = section_word bytes ListPart offset

-- so many bytes of the field data
unfoldable pub data_at : List ℕ → ℕ → ℕ → Result (List ℕ) Range
data_at bytes offset count =
    if nat_le (offset + count) (count_of bytes Data)
    then Ok (take count (drop (start_of bytes Data + offset) bytes))
    else Err (record { part = Data; at = offset })
