-- What it means that the bytes of a file stand for a tree, by the types of its fields.
use Rattle.std.specs.Prelude.{◌≡◌, ℕ, zero, suc, ◌+◌, ◌%◌, ◌≤◌, nat_eq, IsTrue, List, [], ◌∷◌, ◌++◌, map, length, take, drop, slice_get, Some, None, Ok}
use Rattle.std.specs.Int.{w8, w16, w32, w64, cast_signed, to_le_bytes}
use Rattle.std.specs.Str.{bytes_eq}
use Rattle.gff_bytes.specs.declared.rows.StructRow.{StructRow}
use Rattle.gff_bytes.specs.declared.rows.FieldRow.{FieldRow}
use Rattle.gff_bytes.specs.File.{open_fault, struct_row, field_row, label_row, list_word, data_at}
use Rattle.gff_tree.specs.declared.tree.Loc.{Loc}
use Rattle.gff_tree.specs.declared.tree.LocPart.{LocPart}
use Rattle.gff_read.specs.declared.kind.FieldKind.{FieldKind}
use Rattle.gff_read.specs.declared.kind.FieldKind.TheVariants as kind
use Rattle.gff_tree.specs.Label.{label_text}
use Rattle.gff_tree.specs.Tree as tree
use Rattle.gff_tree.specs.Tree.{Scalar, PlainNode, PlainFields, PlainLeaf, PlainNodes, Struct, NoField, MoreFields, Holds, Child, Children, NoNode, MoreNodes, are_distinct}
use Rattle.gff_tree.specs.Whole.{PlainGff}
use Rattle.gff_read.specs.Rows.{PlainShape, PlainRow, Value, One, Many, number_in, kinds, field_number}

-- a number of so many bytes stands at a place of the field data
abbrev pub NumberStands : List ℕ → ℕ → ℕ → ℕ → Type 0
NumberStands bytes place width n = (read : List ℕ) × (data_at bytes place width ≡ Ok read)
    × (n ≡ number_in width read)

-- a length of so many bytes, and a text of that length behind it
abbrev pub CountedStands : List ℕ → ℕ → ℕ → ℕ → List ℕ → Type 0
CountedStands bytes place width count text = NumberStands bytes place width count
    × (data_at bytes (place + width) count ≡ Ok text)

-- texts in a row, each behind its number and its length; bytes may follow them. A length whose sign
-- is set is greater than any file.
abbrev pub PartsStand : List ℕ → List LocPart → Type 0
PartsStand bytes [] = Unit {0}
PartsStand bytes (part ∷ parts) =
    (count : ℕ) × (count ≡ number_in 4 (drop 4 bytes)) × (8 + count ≤ length bytes)
    × (part.id ≡ cast_signed w32 (number_in 4 bytes)) × (part.text ≡ take count (drop 8 bytes))
    × PartsStand (drop (8 + count) bytes) parts

-- a localized string in the bytes that its total size counts
pub record LocalizedStands (body : List ℕ) (loc : Loc) : Type 0 where
  pub head : 8 ≤ length body
  pub str_ref : loc.str_ref ≡ number_in 4 body
  pub count : length loc.parts ≡ number_in 4 (drop 4 body)
  pub parts : PartsStand (drop 8 body) loc.parts

-- a value by its field's type and DataOrDataOffset
abbrev pub ScalarStands : List ℕ → FieldKind → ℕ → Scalar → Type 0
ScalarStands bytes kind.Byte word s = s ≡ tree.Byte (word % 256)
ScalarStands bytes kind.Char word s = s ≡ tree.Char (cast_signed w8 (word % 256))
ScalarStands bytes kind.Word word s = s ≡ tree.Word (word % 65536)
ScalarStands bytes kind.Short word s = s ≡ tree.Short (cast_signed w16 (word % 65536))
ScalarStands bytes kind.Dword word s = s ≡ tree.Dword word
ScalarStands bytes kind.Int word s = s ≡ tree.Int (cast_signed w32 word)
ScalarStands bytes kind.Dword64 word s = (n : ℕ) × NumberStands bytes word 8 n
    × (s ≡ tree.Dword64 n)
ScalarStands bytes kind.Int64 word s = (n : ℕ) × NumberStands bytes word 8 n
    × (s ≡ tree.Int64 (cast_signed w64 n))
ScalarStands bytes kind.Float word s = s ≡ tree.Float (to_le_bytes w32 word)
ScalarStands bytes kind.Double word s = (bits : List ℕ) × (data_at bytes word 8 ≡ Ok bits)
    × (s ≡ tree.Double bits)
ScalarStands bytes kind.Str word s = (count : ℕ) × (text : List ℕ)
    × CountedStands bytes word 4 count text × (s ≡ tree.Str text)
ScalarStands bytes kind.Res word s = (count : ℕ) × (text : List ℕ)
    × CountedStands bytes word 1 count text × (count ≤ tree.resource_limit) × (s ≡ tree.Res text)
ScalarStands bytes kind.Loc word s = (count : ℕ) × (body : List ℕ) × (loc : Loc)
    × CountedStands bytes word 4 count body × LocalizedStands body loc × (s ≡ tree.Localized loc)
ScalarStands bytes kind.Void word s = (count : ℕ) × (text : List ℕ)
    × CountedStands bytes word 4 count text × (s ≡ tree.Void text)
ScalarStands bytes kind.Struct word s = ⊥
ScalarStands bytes kind.List word s = ⊥

-- numbers in a row in the list indices
abbrev pub WordsStand : List ℕ → ℕ → List ℕ → Type 0
WordsStand bytes place [] = Unit {0}
WordsStand bytes place (n ∷ ns) = (list_word bytes place ≡ Ok n) × WordsStand bytes (place + 4) ns

-- what a field holds, structs by their numbers
abbrev pub ShapeStands : List ℕ → FieldKind → ℕ → PlainShape → Type 0
ShapeStands bytes k word (Value (Holds s)) = ScalarStands bytes k word s
ShapeStands bytes k word (Value (Child node)) = ⊥
ShapeStands bytes k word (Value (Children nodes)) = ⊥
ShapeStands bytes k word (One n) = (k ≡ kind.Struct) × (n ≡ word)
ShapeStands bytes k word (Many ns) = (k ≡ kind.List) × (list_word bytes word ≡ Ok (length ns))
    × WordsStand bytes (word + 4) ns

-- a field of the file
pub record RowStands (bytes : List ℕ) (field : ℕ) (row : PlainRow) : Type 0 where
  pub entry : FieldRow
  pub of_kind : FieldKind
  pub name : List ℕ
  pub entry-is : field_row bytes field ≡ Ok entry
  pub kind-is : slice_get kinds entry.kind ≡ Some of_kind
  pub name-is : label_row bytes entry.label ≡ Ok name
  pub label : row.label ≡ label_text name
  pub shape : ShapeStands bytes of_kind entry.word row.shape

-- the fields that a struct lists, from one of its places on
abbrev pub RowsStand : List ℕ → StructRow → ℕ → List PlainRow → Type 0
RowsStand bytes row i [] = Unit {0}
RowsStand bytes row i (next ∷ rows) = (field : ℕ) × (field_number bytes row i ≡ Ok field)
    × RowStands bytes field next × RowsStand bytes row (i + 1) rows

-- what it means that the struct of a number stands for a node, and uses these structs of the file
abbrev pub Meaning : Type 1
Meaning = ℕ → PlainNode → List ℕ → Type 0

abbrev pub NodesStand : Meaning → List ℕ → PlainNodes → List ℕ → Type 0
NodesStand stands [] NoNode uses = uses ≡ []
NodesStand stands [] (MoreNodes node nodes) uses = ⊥
NodesStand stands (n ∷ ns) NoNode uses = ⊥
NodesStand stands (n ∷ ns) (MoreNodes node nodes) uses =
    (first : List ℕ) × (rest : List ℕ) × stands n node first × NodesStand stands ns nodes rest
    × (uses ≡ first ++ rest)

abbrev pub LeafStands : Meaning → PlainShape → PlainLeaf → List ℕ → Type 0
LeafStands stands (Value value) holds uses = (holds ≡ value) × (uses ≡ [])
LeafStands stands (One n) (Child node) uses = stands n node uses
LeafStands stands (One n) (Holds s) uses = ⊥
LeafStands stands (One n) (Children nodes) uses = ⊥
LeafStands stands (Many ns) (Children nodes) uses = NodesStand stands ns nodes uses
LeafStands stands (Many ns) (Holds s) uses = ⊥
LeafStands stands (Many ns) (Child node) uses = ⊥

abbrev pub FieldsStand : Meaning → List PlainRow → PlainFields → List ℕ → Type 0
FieldsStand stands [] NoField uses = uses ≡ []
FieldsStand stands [] (MoreFields label holds fields) uses = ⊥
FieldsStand stands (row ∷ rows) NoField uses = ⊥
FieldsStand stands (row ∷ rows) (MoreFields label holds fields) uses =
    (first : List ℕ) × (rest : List ℕ) × (row.label ≡ label)
    × LeafStands stands row.shape holds first × FieldsStand stands rows fields rest
    × (uses ≡ first ++ rest)

-- a struct of the file: its type, its fields in order with distinct labels, and what they hold
pub record StructStands (stands : Meaning) (bytes : List ℕ) (n kind : ℕ) (fields : PlainFields)
    (uses : List ℕ) : Type 0 where
  pub entry : StructRow
  pub rows : List PlainRow
  pub below : List ℕ
  pub entry-is : struct_row bytes n ≡ Ok entry
  pub kind-is : entry.kind ≡ kind
  pub count : length rows ≡ entry.count
  pub rows-stand : RowsStand bytes entry 0 rows
  pub distinct : IsTrue (are_distinct bytes_eq (map (λ row. row.label) rows))
  pub fields-stand : FieldsStand stands rows fields below
  pub uses-is : uses ≡ n ∷ below

-- the struct of a number stands for a node, within so many levels
abbrev pub NodeStands : ℕ → List ℕ → Meaning
NodeStands zero bytes n node uses = ⊥
NodeStands (suc depth) bytes n (Struct kind fields) uses = StructStands
    (NodeStands depth bytes) bytes n kind fields uses

-- the bytes are a GFF file, and its struct 0 stands for the top, within the levels that a tree may
-- have; no struct is used twice
pub record Stands (bytes : List ℕ) (gff : PlainGff) : Type 0 where
  pub uses : List ℕ
  pub opens : open_fault bytes ≡ None
  pub file_type : gff.file_type ≡ take 4 bytes
  pub top : NodeStands tree.struct_depth_limit bytes 0 gff.top uses
  pub distinct : IsTrue (are_distinct nat_eq uses)

-- bytes stand for one tree at most
abbrev pub OneTree : Type 0
OneTree = (bytes : List ℕ) (first second : PlainGff) → Stands bytes first → Stands bytes second
    → first ≡ second
