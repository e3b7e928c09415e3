-- How many structs a tree has.
use Rattle.std.specs.Prelude.{ℕ, ◌+◌}
use Rattle.gff_tree.specs.Tree.{PlainNode, PlainFields, PlainLeaf, PlainNodes, Struct, NoField, MoreFields, Holds, Child, Children, NoNode, MoreNodes}

abbrev mutual
  pub node_count : PlainNode → ℕ
  node_count (Struct kind fields) = 1 + fields_count fields

  pub fields_count : PlainFields → ℕ
  fields_count NoField = 0
  fields_count (MoreFields label holds rest) = leaf_count holds + fields_count rest

  pub leaf_count : PlainLeaf → ℕ
  leaf_count (Holds scalar) = 0
  leaf_count (Child node) = node_count node
  leaf_count (Children nodes) = nodes_count nodes

  pub nodes_count : PlainNodes → ℕ
  nodes_count NoNode = 0
  nodes_count (MoreNodes node rest) = node_count node + nodes_count rest
