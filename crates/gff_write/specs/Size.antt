-- How many bytes the file of a tree has, by its structs, fields and labels.
use Rattle.std.specs.Prelude.{ℕ, ◌+◌, ◌*◌, min, nat_lt, if◌then◌else◌, List, [], ◌∷◌, ◌++◌, length}
use Rattle.gff_tree.specs.Tree.{Scalar, PlainNode, PlainFields, PlainLeaf, PlainNodes, Struct, NoField, MoreFields, Holds, Child, Children, NoNode, MoreNodes}
use Rattle.gff_write.specs.Flat.{padded, scalar_content}
use Rattle.gff_write.specs.File.{data_of, with_label}

-- the number, or the greatest one of 64 bits where that is less
unfoldable pub capped : ℕ → ℕ
capped n = min n 18446744073709551615

-- what a struct of so many fields has in the field indices
abbrev pub index_bytes : ℕ → ℕ
index_bytes count = if nat_lt count 2 then 0 else 4 * count

abbrev pub own_count : PlainFields → ℕ
own_count NoField = 0
own_count (MoreFields label holds rest) = 1 + own_count rest

-- what a value has in the field data
abbrev pub scalar_bytes : Scalar → ℕ
scalar_bytes scalar = length (data_of (scalar_content scalar))

-- what a struct and all below it have in the file, its labels aside: 12 bytes a struct and a field,
-- the field data, and the words of the field indices and of the list indices
abbrev mutual
  pub node_bytes : PlainNode → ℕ
  node_bytes (Struct kind fields) = 12 + index_bytes (own_count fields) + fields_bytes fields

  pub fields_bytes : PlainFields → ℕ
  fields_bytes NoField = 0
  fields_bytes (MoreFields label holds rest) = 12 + leaf_bytes holds + fields_bytes rest

  pub leaf_bytes : PlainLeaf → ℕ
  leaf_bytes (Holds scalar) = scalar_bytes scalar
  leaf_bytes (Child node) = node_bytes node
  leaf_bytes (Children nodes) = 4 + nodes_bytes nodes

  pub nodes_bytes : PlainNodes → ℕ
  nodes_bytes NoNode = 0
  nodes_bytes (MoreNodes node rest) = 4 + node_bytes node + nodes_bytes rest

-- the labels of a struct's own fields, as the file has them
abbrev pub own_labels : PlainFields → List (List ℕ)
own_labels NoField = []
own_labels (MoreFields label holds rest) = padded label ∷ own_labels rest

-- the labels of all fields of a struct and below it, in the order in which the file has the fields
abbrev mutual
  pub node_labels : PlainNode → List (List ℕ)
  node_labels (Struct kind fields) = own_labels fields ++ labels_below fields

  pub labels_below : PlainFields → List (List ℕ)
  labels_below NoField = []
  labels_below (MoreFields label holds rest) = leaf_labels holds ++ labels_below rest

  pub leaf_labels : PlainLeaf → List (List ℕ)
  leaf_labels (Holds scalar) = []
  leaf_labels (Child node) = node_labels node
  leaf_labels (Children nodes) = list_labels nodes

  pub list_labels : PlainNodes → List (List ℕ)
  list_labels NoNode = []
  list_labels (MoreNodes node rest) = node_labels node ++ list_labels rest

-- a table of labels, with these behind it, each if it is new
abbrev pub with_labels : List (List ℕ) → List (List ℕ) → List (List ℕ)
with_labels table [] = table
with_labels table (label ∷ labels) = with_labels (with_label table label) labels
