use Rattle.std.proofs.Common.{drop, ◌+◌}
use Rattle.std.specs.Vec.Iter.{into_iter_items}
use Rattle.gff_tree.specs.Tree.{plain_node}
use Rattle.area_rules.specs.Objects.{list_labels}
use Rattle.area_back.proofs.BackLemmas.{lists_turn}
use Rattle.area_back.proofs.back.put_lists.Goals as goal

pub loop-list-preserved : goal.loop-list-preserved
loop-list-preserved c =
    lists_turn c.fields_tell.ensures.fields (drop c.loop-list.list list_labels)
    (drop (c.loop-list.list + 1) list_labels) c.list_label.result.now (into_iter_items c.loop-list.objects) (into_iter_items c.put_list.new.objects)
    (plain_node c.loop-list.top) (plain_node c.put_list.new.top) _ c.list_label.ensures.label c.loop-list.invariant c.in_ok-put_list.ensures.list c.in_ok-put_list.ensures.rest
