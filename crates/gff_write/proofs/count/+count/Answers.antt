use Rattle.std.proofs.Common.{◌≡◌, ◌+◌, [], ap, drop, arith}
use Rattle.std.proofs.lemmas.List.{drop_all}
use Rattle.gff_tree.specs.Tree.{plain_leaf, fields_list, nodes_list}
use Rattle.gff_tree.specs.Count.{node_count, fields_count, leaf_count, nodes_count}
use Rattle.gff_write.proofs.FlatLemmas.{field_counted, node_counted}
use Rattle.gff_write.proofs.FewLemmas.{field_few}
use Rattle.gff_write.proofs.count.+count.Goals as goal

pub count_node-count_leaf-total-requires : goal.count_node-count_leaf-total-requires
count_node-count_leaf-total-requires t c =
    let made = ap node_count (c.readings_tell.ensures.node c.args.node.now) in
    let same = ap (λ fs. fields_count (fields_list fs)) c.deref-field-items.ensures.value in
    let item = field_few c.deref-field-items.result.now c.loop-field.field-index c.field-item.result c.loop-field-test.true c.field-item.is in
    (omega (arith, made, same, item, c.decreases), omega (arith, made, same, item, c.requires.few))

pub count_leaf-returns-after-loop-node : goal.count_leaf-returns-after-loop-node
count_leaf-returns-after-loop-node t c =
    let none : drop c.loop-node.node-index c.deref-node-items.result.now ≡ [] = drop_all _ _ c.loop-node-test.false in
    let all : c.loop-node.total + nodes_count (nodes_list []) ≡ nodes_count (nodes_list c.deref-node-items.result.now) = rw none at c.loop-node.invariant in
    let listed : leaf_count (plain_leaf c.args.leaf.now) ≡ nodes_count (nodes_list c.in-List.nodes.items) = ap leaf_count (c.readings_tell.ensures.list c.args.leaf.now c.in-List.nodes c.in-List.is) in
    let same : nodes_count (nodes_list c.deref-node-items.result.now) ≡ nodes_count (nodes_list c.in-List.nodes.items) = ap (λ ns. nodes_count (nodes_list ns)) c.deref-node-items.ensures.value in
    omega (arith, all, listed, same)

pub count_node-returns : goal.count_node-returns
count_node-returns t c =
    let none : drop c.loop-field.field-index c.deref-field-items.result.now ≡ [] = drop_all _ _ c.loop-field-test.false in
    let all : c.loop-field.total + fields_count (fields_list []) ≡ 1 + fields_count (fields_list c.deref-field-items.result.now) = rw none at c.loop-field.invariant in
    let made = ap node_count (c.readings_tell.ensures.node c.args.node.now) in
    let same = ap (λ fs. fields_count (fields_list fs)) c.deref-field-items.ensures.value in
    omega (arith, all, made, same)

pub count_leaf-loop-node-preserved : goal.count_leaf-loop-node-preserved
count_leaf-loop-node-preserved t c =
    node_counted c.loop-node.total _ c.deref-node-items.result.now c.loop-node.node-index c.node-item.result _ c.loop-node-test.true c.node-item.is
    c.loop-node.invariant (ap (λ n. c.loop-node.total + n) c.count_node-total.ensures)

pub count_node-loop-field-preserved : goal.count_node-loop-field-preserved
count_node-loop-field-preserved t c =
    field_counted c.loop-field.total _ c.deref-field-items.result.now c.loop-field.field-index c.field-item.result _ c.loop-field-test.true c.field-item.is
    c.loop-field.invariant (ap (λ n. c.loop-field.total + n) c.count_leaf-total.ensures)
