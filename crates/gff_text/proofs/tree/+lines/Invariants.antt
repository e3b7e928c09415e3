use Rattle.std.proofs.Common.{◌≡◌, ◌++◌, drop}
use Rattle.gff_tree.specs.Tree.{fields_list, nodes_list}
use Rattle.gff_text.specs.Text.{field_lines, list_lines}
use Rattle.gff_text.proofs.tree.+lines.Given as goal

abbrev pub invariant-put_struct-loop-field : goal.invariant-put_struct-loop-field
invariant-put_struct-loop-field l = l.out.items ++ field_lines l.below (fields_list (drop l.field-index l.field-items)) ≡ l.initial.out.items ++ field_lines l.below (fields_list l.field-items)

abbrev pub invariant-put_below-loop-node : goal.invariant-put_below-loop-node
invariant-put_below-loop-node l = l.out.items ++ list_lines l.depth (nodes_list (drop l.node-index l.node-items)) ≡ l.initial.out.items ++ list_lines l.depth (nodes_list l.node-items)
