-- The fields that a struct of the file lists, read one after the other: the first test that fails,
-- or the rows.
use Rattle.std.specs.Prelude.{◌≡◌, ℕ, zero, suc, ◌+◌, ◌*◌, ◌%◌, ◌==◌, nat_lt, if◌then◌else◌, Bool, List, [], ◌∷◌, ◌++◌, map, length, take, drop, slice_get, Option, Some, None, Result, Ok, Err}
use Rattle.std.specs.Int.{w8, w16, w32, w64, cast_signed, to_le_bytes}
use Rattle.std.specs.List.{list_any}
use Rattle.std.specs.Str.{bytes_eq}
use Rattle.byteorder.specs.Endian.{little_number}
use Rattle.gff_bytes.specs.declared.rows.Part.TheVariants as part
use Rattle.gff_bytes.specs.declared.rows.Range.{Range}
use Rattle.gff_bytes.specs.declared.rows.StructRow.{StructRow}
use Rattle.gff_bytes.specs.File.{field_row, label_row, index_at, list_word, data_at}
use Rattle.gff_tree.specs.declared.tree.Loc.{Loc}
use Rattle.gff_tree.specs.declared.tree.LocPart.{LocPart}
use Rattle.gff_read.specs.declared.fault.TreeFault.{TreeFault}
use Rattle.gff_read.specs.declared.fault.TreeFault.TheVariants as fault
use Rattle.gff_read.specs.declared.kind.FieldKind.{FieldKind}
use Rattle.gff_read.specs.declared.kind.FieldKind.TheVariants as kind
use Rattle.gff_tree.specs.Label.{label_text}
use Rattle.gff_tree.specs.Tree as tree
use Rattle.gff_tree.specs.Tree.{Scalar, PlainLeaf}

infixl 10 ◌>>=◌
abbrev pub ◌>>=◌ : {A B : Type 0} → Result A TreeFault → (A → Result B TreeFault)
    → Result B TreeFault
(Ok x) >>= f = f x
(Err e) >>= f = Err e

-- what a call returned, seen by `view`, is what the reading gives, unless memory ran out
abbrev pub TreeFails : {Y : Type 0} → TreeFault → Result Y TreeFault → Type 0
TreeFails fault.NoMemory read = Unit {0}
TreeFails e read = read ≡ Err e

abbrev pub Gives : {X Y : Type 0} → (X → Y) → Result X TreeFault → Result Y TreeFault → Type 0
Gives view (Ok x) read = read ≡ Ok (view x)
Gives view (Err e) read = TreeFails e read

-- a place that the file has not is the fault
abbrev pub placed : {X : Type 0} → Result X Range → Result X TreeFault
placed (Ok x) = Ok x
placed (Err range) = Err (fault.Range range)

-- bad field data is named by the field
abbrev pub bad_data : {X : Type 0} → ℕ → Result X TreeFault
bad_data field = Err (fault.Range (record { part = part.Data; at = field }))

abbrev pub for_field : {X : Type 0} → ℕ → Result X Range → Result X TreeFault
for_field field (Ok x) = Ok x
for_field field (Err range) = bad_data field

-- the little-endian number in the first bytes
unfoldable pub number_in : ℕ → List ℕ → ℕ
number_in width bytes = little_number width bytes

-- the field types in the order of their numbers
abbrev pub kinds : List FieldKind
kinds =
    kind.Byte ∷ kind.Char ∷ kind.Word ∷ kind.Short
    ∷ kind.Dword ∷ kind.Int ∷ kind.Dword64 ∷ kind.Int64
    ∷ kind.Float ∷ kind.Double ∷ kind.Str ∷ kind.Res
    ∷ kind.Loc ∷ kind.Void ∷ kind.Struct ∷ kind.List ∷ []

-- so many bytes of the field data, then a number of so many bytes
abbrev pub bytes_for : List ℕ → ℕ → ℕ → ℕ → Result (List ℕ) TreeFault
bytes_for bytes field place count = for_field field (data_at bytes place count)

unfoldable pub number_for : List ℕ → ℕ → ℕ → ℕ → Result ℕ TreeFault
number_for bytes field place width = bytes_for bytes field place width >>= λ read. Ok
    (number_in width read)

-- a length of four bytes and so many bytes
unfoldable pub counted_for : List ℕ → ℕ → ℕ → Result (List ℕ) TreeFault
counted_for bytes field place = number_for bytes field place 4 >>= λ count. bytes_for bytes field
    (place + 4) count

-- a length of one byte, at most that of a resource's name, and so many bytes
unfoldable pub name_for : List ℕ → ℕ → ℕ → Result (List ℕ) TreeFault
name_for bytes field place =
    number_for bytes field place 1 >>= λ count.
    (if nat_lt tree.resource_limit count then bad_data field else bytes_for bytes field
    (place + 1) count)

-- one text of a localized string and the bytes after it: its number, its length, its bytes
unfoldable pub part_in : ℕ → List ℕ → Result (LocPart × List ℕ) TreeFault
part_in field bytes =
    let count = number_in 4 (drop 4 bytes) in
    if nat_lt (length bytes) 8 then bad_data field
    else (if nat_lt (length bytes) (8 + count) then bad_data field
    else Ok (
      record { id = cast_signed w32 (number_in 4 bytes); text = take count (drop 8 bytes) },
      drop (8 + count) bytes,
    ))

abbrev pub parts_in : ℕ → ℕ → List ℕ → Result (List LocPart) TreeFault
parts_in field zero bytes = Ok []
parts_in field (suc n) bytes = part_in field bytes >>= λ p.
    (parts_in field n p.1 >>= λ parts. Ok (p.0 ∷ parts))

-- a localized string in the bytes that its total size counts; what is left behind its texts is
-- passed over
unfoldable pub localized_in : ℕ → List ℕ → Result Loc TreeFault
localized_in field bytes =
    if nat_lt (length bytes) 8 then bad_data field
    else (parts_in field (number_in 4 (drop 4 bytes)) (drop 8 bytes) >>= λ parts. Ok
    (record { str_ref = number_in 4 bytes; parts = parts }))

-- the value of a field, by its type and its DataOrDataOffset
unfoldable pub scalar_for : List ℕ → ℕ → FieldKind → ℕ → Result Scalar TreeFault
scalar_for bytes field kind.Byte word = Ok (tree.Byte (word % 256))
scalar_for bytes field kind.Char word = Ok (tree.Char (cast_signed w8 (word % 256)))
scalar_for bytes field kind.Word word = Ok (tree.Word (word % 65536))
scalar_for bytes field kind.Short word = Ok (tree.Short (cast_signed w16 (word % 65536)))
scalar_for bytes field kind.Dword word = Ok (tree.Dword word)
scalar_for bytes field kind.Int word = Ok (tree.Int (cast_signed w32 word))
scalar_for bytes field kind.Dword64 word = number_for bytes field word 8 >>= λ n. Ok
    (tree.Dword64 n)
scalar_for bytes field kind.Int64 word = number_for bytes field word 8 >>= λ n. Ok
    (tree.Int64 (cast_signed w64 n))
scalar_for bytes field kind.Float word = Ok (tree.Float (to_le_bytes w32 word))
scalar_for bytes field kind.Double word = bytes_for bytes field word 8 >>= λ bits. Ok
    (tree.Double bits)
scalar_for bytes field kind.Str word = counted_for bytes field word >>= λ text. Ok (tree.Str text)
scalar_for bytes field kind.Res word = name_for bytes field word >>= λ text. Ok (tree.Res text)
scalar_for bytes field kind.Loc word = counted_for bytes field word >>= λ body.
    (localized_in field body >>= λ loc. Ok (tree.Localized loc))
scalar_for bytes field kind.Void word = counted_for bytes field word >>= λ raw. Ok (tree.Void raw)
scalar_for bytes field _ word = bad_data field

unfoldable pub leaf_for : List ℕ → ℕ → FieldKind → ℕ → Result PlainLeaf TreeFault
leaf_for bytes field k word = scalar_for bytes field k word >>= λ scalar. Ok (tree.Holds scalar)

-- so many numbers of the list indices
abbrev pub words_from : List ℕ → ℕ → ℕ → Result (List ℕ) TreeFault
words_from bytes place zero = Ok []
words_from bytes place (suc n) = placed (list_word bytes place) >>= λ word.
    (words_from bytes (place + 4) n >>= λ words. Ok (word ∷ words))

-- what a field of the file holds: a value, the number of a struct, or those of a list's structs
pub data PlainShape : Type 0 where
  Value : PlainLeaf → PlainShape
  One : ℕ → PlainShape
  Many : List ℕ → PlainShape

pub record PlainRow : Type 0 where
  pub label : List ℕ
  pub shape : PlainShape

unfoldable pub shape_for : List ℕ → ℕ → FieldKind → ℕ → Result PlainShape TreeFault
shape_for bytes field kind.Struct word = Ok (One word)
shape_for bytes field kind.List word =
    placed (list_word bytes word) >>= λ count.
    (words_from bytes (word + 4) count >>= λ words. Ok (Many words))
shape_for bytes field k word = leaf_for bytes field k word >>= λ holds. Ok (Value holds)

abbrev pub has_label : List PlainRow → List ℕ → Bool
has_label rows label = list_any (bytes_eq label) (map (λ row. row.label) rows)

abbrev pub of_kind : {X : Type 0} → ℕ → Option FieldKind → (FieldKind → Result X TreeFault)
    → Result X TreeFault
of_kind field None next = Err (fault.Kind field)
of_kind field (Some k) next = next k

-- a field of a struct whose earlier fields are these rows
unfoldable pub row_for : List ℕ → List PlainRow → ℕ → Result PlainRow TreeFault
row_for bytes rows field =
    placed (field_row bytes field) >>= λ row.
    of_kind field (slice_get kinds row.kind) (λ k.
    placed (label_row bytes row.label) >>= λ label.
    (if has_label rows (label_text label) then Err (fault.Label field)
    else (shape_for bytes field k row.word >>= λ holds. Ok
    (record { label = label_text label; shape = holds }))))

-- the number of a struct's field by its place: a single one stands in the struct itself
unfoldable pub field_number : List ℕ → StructRow → ℕ → Result ℕ Range
field_number bytes row i = if row.count == 1 then Ok row.word else index_at bytes (row.word + 4 * i)

abbrev pub rows_from : List ℕ → StructRow → ℕ → ℕ → List PlainRow → Result (List PlainRow) TreeFault
rows_from bytes row i zero rows = Ok rows
rows_from bytes row i (suc n) rows =
    placed (field_number bytes row i) >>= λ field.
    (row_for bytes rows field >>= λ next. rows_from bytes row (i + 1) n (rows ++ next ∷ []))

-- all fields of a struct
unfoldable pub rows_of : List ℕ → StructRow → Result (List PlainRow) TreeFault
rows_of bytes row = rows_from bytes row 0 row.count []
