-- A GFF tree as plain data, and the one reading of the program's trees as such.
use Rattle.std.specs.Prelude.{ℕ, zero, suc, ℤ, Bool, true, false, ◌&&◌, not, nat_le, List, [], ◌∷◌, ◌++◌, map, length}
use Rattle.std.specs.List.{list_any}
use Rattle.std.specs.Str.{bytes_eq}
use Rattle.gff_tree.specs.declared.tree.Loc.{Loc}
use Rattle.gff_tree.specs.declared.tree.Leaf as leaf
use Rattle.gff_tree.specs.declared.tree.Leaf.{Leaf, Row_of-Node, end_of-Node, more_of-Node}
use Rattle.gff_tree.specs.declared.tree.Field.{Field}
use Rattle.gff_tree.specs.declared.tree.Node.{Node, Node', Row_of-Field, end_of-Field, more_of-Field}

-- how deep a struct may be, the top being 1 deep, and how many bytes the name of a resource may
-- have
abbrev pub struct_depth_limit : ℕ
struct_depth_limit = 64

abbrev pub resource_limit : ℕ
resource_limit = 16

-- what a field holds that holds no struct; a float is the list of its bytes
pub data Scalar : Type 0 where
  Byte : ℕ → Scalar
  Char : ℤ → Scalar
  Word : ℕ → Scalar
  Short : ℤ → Scalar
  Dword : ℕ → Scalar
  Int : ℤ → Scalar
  Dword64 : ℕ → Scalar
  Int64 : ℤ → Scalar
  Float : List ℕ → Scalar
  Double : List ℕ → Scalar
  Str : List ℕ → Scalar
  Res : List ℕ → Scalar
  Localized : Loc → Scalar
  Void : List ℕ → Scalar

mutual
  -- a struct: its type and its fields
  pub data PlainNode : Type 0 where
    Struct : ℕ → PlainFields → PlainNode

  -- the fields of a struct in order, each with its label
  pub data PlainFields : Type 0 where
    NoField : PlainFields
    MoreFields : List ℕ → PlainLeaf → PlainFields → PlainFields

  -- what a field holds
  pub data PlainLeaf : Type 0 where
    Holds : Scalar → PlainLeaf
    Child : PlainNode → PlainLeaf
    Children : PlainNodes → PlainLeaf

  -- the structs of a list in order
  pub data PlainNodes : Type 0 where
    NoNode : PlainNodes
    MoreNodes : PlainNode → PlainNodes → PlainNodes

abbrev mutual
  pub plain_node : Node → PlainNode
  plain_node (Node' kind shape fields) = Struct kind (plain_fields fields)

  pub plain_fields : {m : _} → Row_of-Field m → PlainFields
  plain_fields end_of-Field = NoField
  plain_fields (more_of-Field label holds rest) = MoreFields label (plain_leaf holds)
      (plain_fields rest)

  pub plain_leaf : Leaf → PlainLeaf
  plain_leaf (leaf.Byte n) = Holds (Byte n)
  plain_leaf (leaf.Char n) = Holds (Char n)
  plain_leaf (leaf.Word n) = Holds (Word n)
  plain_leaf (leaf.Short n) = Holds (Short n)
  plain_leaf (leaf.Dword n) = Holds (Dword n)
  plain_leaf (leaf.Int n) = Holds (Int n)
  plain_leaf (leaf.Dword64 n) = Holds (Dword64 n)
  plain_leaf (leaf.Int64 n) = Holds (Int64 n)
  plain_leaf (leaf.Float bits) = Holds (Float bits)
  plain_leaf (leaf.Double bits) = Holds (Double bits)
  plain_leaf (leaf.Str text) = Holds (Str text)
  plain_leaf (leaf.Res text) = Holds (Res text)
  plain_leaf (leaf.Loc loc) = Holds (Localized loc)
  plain_leaf (leaf.Void bytes) = Holds (Void bytes)
  plain_leaf (leaf.Struct' p node) = Child (plain_node node)
  plain_leaf (leaf.List' shape nodes) = Children (plain_nodes nodes)

  pub plain_nodes : {m : _} → Row_of-Node m → PlainNodes
  plain_nodes end_of-Node = NoNode
  plain_nodes (more_of-Node node rest) = MoreNodes (plain_node node) (plain_nodes rest)

-- a field by itself: its label and what it holds
pub record PlainField : Type 0 where
  pub label : List ℕ
  pub leaf : PlainLeaf

abbrev pub plain_field : Field → PlainField
plain_field field = record { label = field.label; leaf = plain_leaf field.leaf }

-- the fields of a struct as a list, and back
abbrev pub fields_in : PlainFields → List PlainField
fields_in NoField = []
fields_in (MoreFields label holds rest) = record { label = label; leaf = holds } ∷ fields_in rest

abbrev pub fields_before : List PlainField → PlainFields → PlainFields
fields_before [] rest = rest
fields_before (field ∷ fields) rest = MoreFields field.label field.leaf (fields_before fields rest)

abbrev pub fields_from : List PlainField → PlainFields
fields_from fields = fields_before fields NoField

-- the structs of a list field as a list, and back
abbrev pub nodes_in : PlainNodes → List PlainNode
nodes_in NoNode = []
nodes_in (MoreNodes node rest) = node ∷ nodes_in rest

abbrev pub nodes_before : List PlainNode → PlainNodes → PlainNodes
nodes_before [] rest = rest
nodes_before (node ∷ nodes) rest = MoreNodes node (nodes_before nodes rest)

abbrev pub nodes_from : List PlainNode → PlainNodes
nodes_from nodes = nodes_before nodes NoNode

-- the fields and the structs of vectors
abbrev pub fields_list : List Field → PlainFields
fields_list fields = fields_from (map plain_field fields)

abbrev pub nodes_list : List Node → PlainNodes
nodes_list nodes = nodes_from (map plain_node nodes)

-- does each item differ from those before it and from these first ones, by this test?
abbrev pub differ_after : {X : Type 0} → (X → X → Bool) → List X → List X → Bool
differ_after same first [] = true
differ_after same first (x ∷ xs) = not (list_any (same x) first)
    && differ_after same (first ++ x ∷ []) xs

abbrev pub are_distinct : {X : Type 0} → (X → X → Bool) → List X → Bool
are_distinct same xs = differ_after same [] xs

abbrev pub labels_of : PlainFields → List (List ℕ)
labels_of NoField = []
labels_of (MoreFields label holds rest) = label ∷ labels_of rest

-- a resource's name is not too long
abbrev pub is_sound_scalar : Scalar → Bool
is_sound_scalar (Res text) = nat_le (length text) resource_limit
is_sound_scalar _ = true

-- is a struct at most so deep, with distinct labels in each of its structs and no long name of a
-- resource?
abbrev mutual
  pub is_sound_node : ℕ → PlainNode → Bool
  is_sound_node zero (Struct kind fields) = false
  is_sound_node (suc depth) (Struct kind fields) = are_distinct bytes_eq (labels_of fields)
      && are_sound_fields depth fields

  pub are_sound_fields : ℕ → PlainFields → Bool
  are_sound_fields depth NoField = true
  are_sound_fields depth (MoreFields label holds rest) = is_sound_leaf depth holds
      && are_sound_fields depth rest

  pub is_sound_leaf : ℕ → PlainLeaf → Bool
  is_sound_leaf depth (Holds scalar) = is_sound_scalar scalar
  is_sound_leaf depth (Child node) = is_sound_node depth node
  is_sound_leaf depth (Children nodes) = are_sound_nodes depth nodes

  pub are_sound_nodes : ℕ → PlainNodes → Bool
  are_sound_nodes depth NoNode = true
  are_sound_nodes depth (MoreNodes node rest) = is_sound_node depth node
      && are_sound_nodes depth rest

-- the top has depth 1, and a struct the limit at most
unfoldable pub is_sound : PlainNode → Bool
is_sound top = is_sound_node struct_depth_limit top
