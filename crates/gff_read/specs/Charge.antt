-- What the reader charges for a tree, in bytes: about the memory that its parts take while it is
-- read.
use Rattle.std.specs.Prelude.{ℕ, ◌+◌, ◌*◌, List, [], ◌∷◌, length}
use Rattle.gff_tree.specs.declared.tree.LocPart.{LocPart}
use Rattle.gff_tree.specs.Tree.{Scalar, Str, Res, Localized, Void, PlainNode, PlainFields, PlainLeaf, PlainNodes, Struct, NoField, MoreFields, Holds, Child, Children, NoNode, MoreNodes}
use Rattle.gff_read.specs.Rows.{PlainShape, PlainRow, Value, One, Many}

-- how many bytes a tree may be charged
abbrev pub tree_limit : ℕ
tree_limit = 268435456

-- for a struct, a field, and the number of a struct in a list
abbrev pub struct_charge : ℕ
struct_charge = 64

abbrev pub field_charge : ℕ
field_charge = 96

abbrev pub word_charge : ℕ
word_charge = 8

-- for a text of the field data, beside its bytes, and for a text of a localized string beside that
abbrev pub text_base : ℕ
text_base = 32

abbrev pub part_base : ℕ
part_base = 64

abbrev pub text_charge : List ℕ → ℕ
text_charge text = text_base + length text

abbrev pub parts_charge : List LocPart → ℕ
parts_charge [] = 0
parts_charge (part ∷ parts) = part_base + text_charge part.text + parts_charge parts

-- for the field data of a value; a number is in its field
abbrev pub scalar_charge : Scalar → ℕ
scalar_charge (Str text) = text_charge text
scalar_charge (Res text) = text_charge text
scalar_charge (Localized loc) = parts_charge loc.parts
scalar_charge (Void bytes) = text_charge bytes
scalar_charge _ = 0

-- a value holds no struct
abbrev pub IsScalar : PlainLeaf → Type 0
IsScalar (Holds scalar) = Unit {0}
IsScalar (Child node) = ⊥
IsScalar (Children nodes) = ⊥

abbrev mutual
  pub node_charge : PlainNode → ℕ
  node_charge (Struct kind fields) = struct_charge + fields_charge fields

  pub fields_charge : PlainFields → ℕ
  fields_charge NoField = 0
  fields_charge (MoreFields label holds rest) = field_charge + leaf_charge holds + fields_charge rest

  pub leaf_charge : PlainLeaf → ℕ
  leaf_charge (Holds scalar) = scalar_charge scalar
  leaf_charge (Child node) = node_charge node
  leaf_charge (Children nodes) = nodes_charge nodes

  pub nodes_charge : PlainNodes → ℕ
  nodes_charge NoNode = 0
  nodes_charge (MoreNodes node rest) = word_charge + node_charge node + nodes_charge rest

-- for what is known of a struct's fields before the walk goes down into them
abbrev pub shape_charge : PlainShape → ℕ
shape_charge (Value holds) = leaf_charge holds
shape_charge (One n) = 0
shape_charge (Many ns) = word_charge * length ns

abbrev pub rows_charge : List PlainRow → ℕ
rows_charge [] = 0
rows_charge (row ∷ rows) = field_charge + shape_charge row.shape + rows_charge rows
