use Rattle.std.proofs.Common.{◌≡◌, ◌+◌, ◌∙◌, Err, ap, arith, drop}
use Rattle.std.proofs.lemmas.Result.{err_from_is_err_and}
use Rattle.gff_tree.specs.Tree.{plain_node}
use Rattle.gff_tree.specs.Fields.{fields_of, found}
use Rattle.area_rules.specs.Objects.{list_labels}
use Rattle.area_tree.specs.Reading.{leaf_in, leaves_count}
use Rattle.area_tree.proofs.ReadLemmas.{find_is, found_few, lists_next, lists_first, under_next, if_first}
use Rattle.area_tree.proofs.object.add_lists.Goals as goal

pub add_list-requires : goal.add_list-requires
add_list-requires c =
    let found_leaf = found c.list_label.result.now (fields_of (plain_node c.args.top.now)) in
    let same : leaves_count found_leaf ≡ leaves_count (leaf_in c.find-leaf.result) = ap leaves_count (find_is found_leaf c.find-leaf.result c.find-leaf.ensures.leaf) in
    record { few = omega (arith, same, c.requires.few, found_few c.list_label.result.now (plain_node c.args.top.now)) }

pub loop-list-preserved : goal.loop-list-preserved
loop-list-preserved c =
    let fields = fields_of (plain_node c.args.top.now) in
    let there = find_is (found c.list_label.result.now fields) c.find-leaf.result c.find-leaf.ensures.leaf in
    record {
      places = lists_next c.loop-list.list (drop c.loop-list.list list_labels) (drop (c.loop-list.list + 1) list_labels) c.list_label.result.now fields (leaf_in c.find-leaf.result) _
          c.list_label.ensures.label there c.loop-list.invariant.places c.in_ok-add_list.ensures.whole;
      objects = under_next c.loop-list.objects.items c.add_list.new.objects.items _ (drop c.loop-list.list list_labels)
          (drop (c.loop-list.list + 1) list_labels) c.list_label.result.now fields (leaf_in c.find-leaf.result)
          c.list_label.ensures.label there c.loop-list.invariant.objects c.in_ok-add_list.ensures.objects;
    }

pub returns-in_err-add_list-clause-first : goal.returns-in_err-add_list-clause-first
returns-in_err-add_list-clause-first c =
    let fields = fields_of (plain_node c.args.top.now) in
    let there = find_is (found c.list_label.result.now fields) c.find-leaf.result c.find-leaf.ensures.leaf in
    let p = err_from_is_err_and c.from_residual.result c.from_residual.ensures.1 in
    if_first c.from_residual.result c.in_err-add_list.field-0.0 _ (p.1 ∙ ap Err p.2)
    (lists_first c.in_err-add_list.field-0.0 c.loop-list.list (drop c.loop-list.list list_labels)
    (drop (c.loop-list.list + 1) list_labels) c.list_label.result.now fields (leaf_in c.find-leaf.result) _
    c.list_label.ensures.label there c.loop-list.invariant.places c.in_err-add_list.ensures.first)
