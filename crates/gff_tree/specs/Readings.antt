-- How nodes and lists of the program read as plain ones, field by field and item by item.
use Rattle.std.specs.Prelude.{◌≡◌}
use Rattle.std.specs.declared.vec.Vec.{Vec}
use Rattle.std.specs.declared.alloc.Global.{Global}
use Rattle.gff_tree.specs.declared.tree.Node.{Node, out-Node}
use Rattle.gff_tree.specs.declared.tree.Leaf.{Leaf}
use Rattle.gff_tree.specs.declared.tree.Leaf.TheViews.{List}
use Rattle.gff_tree.specs.Tree.{Struct, Children, plain_node, plain_leaf, fields_list, nodes_list}

abbrev pub NodeReads : Type 0
NodeReads = (node : Node)
    → plain_node node ≡ Struct (out-Node node).kind (fields_list (out-Node node).fields.items)

abbrev pub ListReads : Type 0
ListReads = (leaf : Leaf) (nodes : Vec Node Global) → leaf ≡ List nodes
    → plain_leaf leaf ≡ Children (nodes_list nodes.items)
