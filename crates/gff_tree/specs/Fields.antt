-- A struct by the list of its fields, and what its fields hold under a label.
use Rattle.std.specs.Prelude.{◌≡◌, ℕ, suc, true, List, [], ◌∷◌, ◌++◌, Option, None, Some, if◌then◌else◌}
use Rattle.std.specs.List.{list_all}
use Rattle.std.specs.Str.{bytes_eq}
use Rattle.gff_tree.specs.Tree.{PlainNode, PlainLeaf, PlainField, Struct, Holds, Child, Children, fields_in, fields_from, nodes_in, nodes_from, is_sound_node, is_sound_leaf}

-- a struct's type and its fields
abbrev pub kind_of : PlainNode → ℕ
kind_of (Struct kind fields) = kind

abbrev pub fields_of : PlainNode → List PlainField
fields_of (Struct kind fields) = fields_in fields

-- the struct of a type and of these fields
abbrev pub node_from : ℕ → List PlainField → PlainNode
node_from kind fields = Struct kind (fields_from fields)

-- the list field of these structs
abbrev pub list_from : List PlainNode → PlainLeaf
list_from nodes = Children (nodes_from nodes)

-- the structs of a field, where it is a list
abbrev pub list_in : PlainLeaf → Option (List PlainNode)
list_in (Holds scalar) = None
list_in (Child node) = None
list_in (Children nodes) = Some (nodes_in nodes)

-- what the first field of a label holds
abbrev pub found : List ℕ → List PlainField → Option PlainLeaf
found label [] = None
found label (field ∷ fields) = if bytes_eq label field.label then Some field.leaf else found label fields

-- the fields, where the first of a label holds this instead
abbrev pub replaced : List ℕ → PlainLeaf → List PlainField → List PlainField
replaced label leaf [] = []
replaced label leaf (field ∷ fields) =
    if bytes_eq label field.label then record field { leaf = leaf } ∷ fields else field ∷ replaced label leaf fields

-- the fields with one more behind them
abbrev pub appended : List ℕ → PlainLeaf → List PlainField → List PlainField
appended label leaf fields = fields ++ record { label = label; leaf = leaf } ∷ []

-- A struct stays sound where a field of it is replaced, or one of a new label appended, by what is
-- sound one level below.
abbrev pub ReplacedIsSound : Type 0
ReplacedIsSound = (depth kind : ℕ) (label : List ℕ) (leaf : PlainLeaf) (fields : List PlainField)
    → is_sound_node (suc depth) (node_from kind fields) ≡ true → is_sound_leaf depth leaf ≡ true
    → is_sound_node (suc depth) (node_from kind (replaced label leaf fields)) ≡ true

abbrev pub AppendedIsSound : Type 0
AppendedIsSound = (depth kind : ℕ) (label : List ℕ) (leaf : PlainLeaf) (fields : List PlainField)
    → is_sound_node (suc depth) (node_from kind fields) ≡ true → is_sound_leaf depth leaf ≡ true
    → found label fields ≡ None
    → is_sound_node (suc depth) (node_from kind (appended label leaf fields)) ≡ true

-- what a sound struct's field holds is sound one level below
abbrev pub FoundIsSound : Type 0
FoundIsSound = (depth kind : ℕ) (label : List ℕ) (leaf : PlainLeaf) (fields : List PlainField)
    → is_sound_node (suc depth) (node_from kind fields) ≡ true → found label fields ≡ Some leaf
    → is_sound_leaf depth leaf ≡ true

-- a list is sound where each of its structs is
abbrev pub ListIsSound : Type 0
ListIsSound = (depth : ℕ) (nodes : List PlainNode)
    → is_sound_leaf depth (list_from nodes) ≡ list_all (is_sound_node depth) nodes

-- a struct is that of its fields, and a list that of its structs
abbrev pub NodeIsItsFields : Type 0
NodeIsItsFields = (node : PlainNode) → node_from (kind_of node) (fields_of node) ≡ node

abbrev pub FieldsAreTheNodes : Type 0
FieldsAreTheNodes = (kind : ℕ) (fields : List PlainField)
    → fields_of (node_from kind fields) ≡ fields

abbrev pub ListIsItsNodes : Type 0
ListIsItsNodes = (leaf : PlainLeaf) (nodes : List PlainNode) → list_in leaf ≡ Some nodes
    → list_from nodes ≡ leaf

abbrev pub NodesAreTheLists : Type 0
NodesAreTheLists = (nodes : List PlainNode) → list_in (list_from nodes) ≡ Some nodes
