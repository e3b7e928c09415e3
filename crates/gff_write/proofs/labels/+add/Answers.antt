use Rattle.std.proofs.Common.{◌≡◌, ◌++◌, ◌∙◌, List, [], drop, sym, ap, subst}
use Rattle.std.proofs.lemmas.List.{drop_all}
use Rattle.std.specs.Map.{values_of}
use Rattle.gff_tree.specs.declared.tree.Field.{Field}
use Rattle.gff_tree.specs.declared.tree.Node.{Node}
use Rattle.gff_tree.specs.Tree.{fields_list, nodes_list}
use Rattle.gff_write.specs.Size.{own_labels, node_labels, labels_below, leaf_labels, list_labels, with_labels}
use Rattle.gff_write.proofs.TableLemmas.{with_append}
use Rattle.gff_write.proofs.WalkLemmas.{fields_turn, nodes_turn}
use Rattle.gff_write.proofs.labels.+add.Goals as goal

pub add_below-loop-node-preserved : goal.add_below-loop-node-preserved
add_below-loop-node-preserved t c = record {
  table = c.in_ok-add_labels-in-List.ensures.table;
  labels =
      nodes_turn (values_of c.loop-node.rows.entries) _ _ c.loop-node.node-index c.deref-node-items.result.now c.node-item.result c.loop-node-test.true c.node-item.is
      c.loop-node.invariant.labels c.in_ok-add_labels-in-List.ensures.rows;
}

pub add_below-returns-after-loop-node : goal.add_below-returns-after-loop-node
add_below-returns-after-loop-node t c =
    let none : drop c.loop-node.node-index c.deref-node-items.result.now ≡ [] = drop_all _ _ c.loop-node-test.false in
    let first = values_of c.args.rows.now.entries in
    let all : values_of c.loop-node.rows.entries ≡ with_labels first (list_labels (nodes_list c.deref-node-items.result.now)) =
    subst (λ (ns : List Node). with_labels (values_of c.loop-node.rows.entries) (list_labels (nodes_list ns))
    ≡ with_labels first (list_labels
    (nodes_list c.deref-node-items.result.now))) none c.loop-node.invariant.labels in
    record {
      table = c.loop-node.invariant.table;
      rows =
          all ∙ (ap (λ ns. with_labels first (list_labels (nodes_list ns))) c.deref-node-items.ensures.value
          ∙ sym (ap (λ l. with_labels first (leaf_labels l)) (c.readings_tell.ensures.list c.args.leaf.now c.in-List.nodes c.in-List.is)));
    }

pub add_labels-loop-field-preserved : goal.add_labels-loop-field-preserved
add_labels-loop-field-preserved t c = record {
  table = c.in_ok-add_below.ensures.table;
  labels =
      fields_turn (values_of c.loop-field.rows.entries) _ _ c.loop-field.field-index c.deref-field-items.result.now c.field-item.result c.loop-field-test.true c.field-item.is
      c.loop-field.invariant.labels c.in_ok-add_below.ensures.rows;
}

pub add_labels-returns : goal.add_labels-returns
add_labels-returns t c =
    let none : drop c.loop-field.field-index c.deref-field-items.result.now ≡ [] = drop_all _ _ c.loop-field-test.false in
    let items = c.deref-field-items.result.now in
    let first = values_of c.args.rows.now.entries in
    let middle = values_of c.add_own.new.rows.entries in
    let all : values_of c.loop-field.rows.entries ≡ with_labels middle (labels_below (fields_list items)) =
    subst (λ (fs : List Field). with_labels (values_of c.loop-field.rows.entries) (labels_below (fields_list fs))
    ≡ with_labels middle (labels_below (fields_list items))) none c.loop-field.invariant.labels in
    let same = c.deref.ensures.value ∙ sym c.deref-field-items.ensures.value in
    let own : middle ≡ with_labels first (own_labels (fields_list items)) =
    c.in_ok-add_own.ensures.rows ∙ ap (λ fs. with_labels first (own_labels (fields_list fs))) same in
    record {
      table = c.loop-field.invariant.table;
      rows =
          all ∙ (ap (λ t. with_labels t (labels_below (fields_list items))) own
          ∙ (sym (with_append first (own_labels (fields_list items)) (labels_below (fields_list items)))
          ∙ (ap (λ fs. with_labels first (own_labels (fields_list fs) ++ labels_below (fields_list fs))) c.deref-field-items.ensures.value
          ∙ sym (ap (λ x. with_labels first (node_labels x)) (c.readings_tell.ensures.node c.args.node.now)))));
    }
