use Rattle.std.proofs.Common.{◌≡◌, drop}
use Rattle.std.specs.Vec.Iter.{into_iter_items}
use Rattle.gff_tree.specs.Tree.{plain_node}
use Rattle.gff_tree.specs.Fields.{kind_of, fields_of, node_from}
use Rattle.area_rules.specs.Objects.{list_labels}
use Rattle.area_back.specs.Back.{lists_back}
use Rattle.area_back.proofs.back.put_lists.Given as goal

abbrev pub invariant-loop-list : goal.invariant-loop-list
invariant-loop-list l =
    node_from (kind_of (plain_node l.top)) (lists_back (drop l.list list_labels) (into_iter_items l.objects) (fields_of (plain_node l.top)))
    ≡ node_from (kind_of (plain_node l.fn.top)) (lists_back list_labels (into_iter_items l.fn.objects) (fields_of (plain_node l.fn.top)))
