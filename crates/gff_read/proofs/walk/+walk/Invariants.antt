use Rattle.std.proofs.Common.{◌≡◌, ◌+◌, ◌*◌, map, length, drop}
use Rattle.std.specs.Vec.Iter.{into_iter_items}
use Rattle.gff_tree.specs.Tree.{fields_list, nodes_list}
use Rattle.gff_read.specs.Charge.{rows_charge, fields_charge, nodes_charge, word_charge}
use Rattle.gff_read.specs.Held.{plain_row}
use Rattle.gff_read.specs.Walk.{struct_count, node_at, fields_at, nodes_at}
use Rattle.gff_read.proofs.WalkLemmas.{with_fields, with_nodes}
use Rattle.gff_read.proofs.walk.+walk.Given as goal

abbrev pub decreases-read_node : goal.decreases-read_node
decreases-read_node l = 4 * l.depth

abbrev pub decreases-read_fields : goal.decreases-read_fields
decreases-read_fields l = 4 * l.depth + 3

abbrev pub decreases-read_leaf : goal.decreases-read_leaf
decreases-read_leaf l = 4 * l.depth + 2

abbrev pub decreases-read_nodes : goal.decreases-read_nodes
decreases-read_nodes l = 4 * l.depth + 1

abbrev pub invariant-read_fields-loop-row : goal.invariant-read_fields-loop-row
invariant-read_fields-loop-row l = record {
  goes : (goal.iterator-read_fields-loop-row).can_next l.row-iterator;
  ends : (goal.iterator-read_fields-loop-row).is_finite l.row-iterator;
  read : with_fields l.fields.items (fields_at (node_at l.depth l.view) (map plain_row (into_iter_items l.row-iterator)) l.marks)
      ≡ fields_at (node_at l.depth l.view) (map plain_row l.fn.rows.items) l.fn.marks;
  whole : length l.marks ≡ struct_count l.view;
  charged : l.fn.left + rows_charge (map plain_row l.fn.rows.items)
      ≡ l.left + (fields_charge (fields_list l.fields.items) + rows_charge (map plain_row (into_iter_items l.row-iterator)));
}

abbrev pub invariant-read_nodes-loop-n : goal.invariant-read_nodes-loop-n
invariant-read_nodes-loop-n l = record {
  read : with_nodes l.nodes.items (nodes_at (node_at l.depth l.view) (drop l.n-index l.numbers) l.marks) ≡ nodes_at (node_at l.depth l.view) l.numbers l.fn.marks;
  whole : length l.marks ≡ struct_count l.view;
  charged : l.fn.left + word_charge * length l.numbers
      ≡ l.left + (nodes_charge (nodes_list l.nodes.items) + word_charge * length (drop l.n-index l.numbers));
}
