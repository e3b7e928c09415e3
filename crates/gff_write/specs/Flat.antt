-- A tree as the list of its structs in preorder, each with its fields, structs below it by their
-- numbers.
use Rattle.std.specs.Prelude.{ℕ, ◌+◌, ◌-◌, ◌%◌, ◌^◌, List, [], ◌∷◌, ◌++◌, length, replicate}
use Rattle.std.specs.Int.{w8, w16, w32, w64, cast_unsigned, from_le_bytes}
use Rattle.std.specs.List.{flat_map}
use Rattle.byteorder.specs.Endian.{little_bytes}
use Rattle.gff_tree.specs.declared.tree.Loc.{Loc}
use Rattle.gff_tree.specs.declared.tree.LocPart.{LocPart}
use Rattle.gff_tree.specs.Count.{node_count, leaf_count}
use Rattle.gff_tree.specs.Tree as tree
use Rattle.gff_tree.specs.Tree.{Scalar, PlainNode, PlainFields, PlainLeaf, PlainNodes, Struct, NoField, MoreFields, Holds, Child, Children, NoNode, MoreNodes}
use Rattle.gff_write.specs.declared.flat.Content.{Content}
use Rattle.gff_write.specs.declared.flat.Content.TheVariants.{Small, Data, Number, Numbers}
use Rattle.gff_write.specs.declared.flat.Entry.{Entry}
use Rattle.gff_write.specs.declared.flat.FlatStruct.{FlatStruct}

-- No tree of more bytes is written: it is too large for a file, which its size alone tells.
abbrev pub tree_limit : ℕ
tree_limit = 2 ^ 62

-- the number in the low four bytes, the lowest first
unfoldable pub word : ℕ → List ℕ
word n = little_bytes 4 (n % 4294967296)

unfoldable pub wide : ℕ → List ℕ
wide n = little_bytes 8 n

-- a text behind its length
abbrev pub length_prefixed : List ℕ → List ℕ
length_prefixed text = word (length text) ++ text

-- the name of a resource behind its length, which has one byte
abbrev pub named : List ℕ → List ℕ
named name = (length name % 256) ∷ name

abbrev pub part_bytes : LocPart → List ℕ
part_bytes part = word (cast_unsigned w32 part.id) ++ length_prefixed part.text

-- a localized string behind its total size
abbrev pub localized_bytes : Loc → List ℕ
localized_bytes loc = length_prefixed
    (word loc.str_ref ++ word (length loc.parts) ++ flat_map part_bytes loc.parts)

abbrev pub scalar_kind : Scalar → ℕ
scalar_kind (tree.Byte n) = 0
scalar_kind (tree.Char n) = 1
scalar_kind (tree.Word n) = 2
scalar_kind (tree.Short n) = 3
scalar_kind (tree.Dword n) = 4
scalar_kind (tree.Int n) = 5
scalar_kind (tree.Dword64 n) = 6
scalar_kind (tree.Int64 n) = 7
scalar_kind (tree.Float bits) = 8
scalar_kind (tree.Double bits) = 9
scalar_kind (tree.Str text) = 10
scalar_kind (tree.Res text) = 11
scalar_kind (tree.Localized loc) = 12
scalar_kind (tree.Void bytes) = 13

-- the low bytes of a small value, or the bytes of the field data
abbrev pub scalar_content : Scalar → Content
scalar_content (tree.Byte n) = Small n
scalar_content (tree.Char n) = Small (cast_unsigned w8 n)
scalar_content (tree.Word n) = Small n
scalar_content (tree.Short n) = Small (cast_unsigned w16 n)
scalar_content (tree.Dword n) = Small n
scalar_content (tree.Int n) = Small (cast_unsigned w32 n)
scalar_content (tree.Dword64 n) = Data (wide n)
scalar_content (tree.Int64 n) = Data (wide (cast_unsigned w64 n))
scalar_content (tree.Float bits) = Small (from_le_bytes w32 bits)
scalar_content (tree.Double bits) = Data bits
scalar_content (tree.Str text) = Data (length_prefixed text)
scalar_content (tree.Res text) = Data (named text)
scalar_content (tree.Localized loc) = Data (localized_bytes loc)
scalar_content (tree.Void bytes) = Data (length_prefixed bytes)

-- the numbers of the structs of a list, from a number on
abbrev pub numbers_from : ℕ → PlainNodes → List ℕ
numbers_from n NoNode = []
numbers_from n (MoreNodes node rest) = n ∷ numbers_from (n + node_count node) rest

abbrev pub leaf_kind : PlainLeaf → ℕ
leaf_kind (Holds scalar) = scalar_kind scalar
leaf_kind (Child node) = 14
leaf_kind (Children nodes) = 15

abbrev pub leaf_content : ℕ → PlainLeaf → Content
leaf_content n (Holds scalar) = scalar_content scalar
leaf_content n (Child node) = Number n
leaf_content n (Children nodes) = Numbers (numbers_from n nodes)

-- a label filled up to sixteen bytes
abbrev pub padded : List ℕ → List ℕ
padded label = label ++ replicate (16 - length label) 0

-- the fields of a struct, whose structs have the numbers from n on
abbrev pub entries_from : ℕ → PlainFields → List Entry
entries_from n NoField = []
entries_from n (MoreFields label holds rest) =
    record {
      label = padded label;
      kind = leaf_kind holds;
      content = leaf_content n holds;
    } ∷ entries_from (n + leaf_count holds) rest

-- a struct and all below it in preorder, from the struct's number on
abbrev mutual
  pub rows_of : ℕ → PlainNode → List FlatStruct
  rows_of n (Struct kind fields) = record {
    kind = kind;
    fields = entries_from (n + 1) fields;
  } ∷ rows_below (n + 1) fields

  pub rows_below : ℕ → PlainFields → List FlatStruct
  rows_below n NoField = []
  rows_below n (MoreFields label holds rest) = leaf_rows n holds
      ++ rows_below (n + leaf_count holds) rest

  pub leaf_rows : ℕ → PlainLeaf → List FlatStruct
  leaf_rows n (Holds scalar) = []
  leaf_rows n (Child node) = rows_of n node
  leaf_rows n (Children nodes) = list_rows n nodes

  pub list_rows : ℕ → PlainNodes → List FlatStruct
  list_rows n NoNode = []
  list_rows n (MoreNodes node rest) = rows_of n node ++ list_rows (n + node_count node) rest
