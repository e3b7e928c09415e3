use Rattle.std.proofs.Common.{◌≡◌, ◌<◌, [], sym, subst, drop, arith}
use Rattle.std.proofs.lemmas.List.{drop_all}
use Rattle.gff_tree.specs.Tree.{nodes_list, fields_list}
use Rattle.gff_tree.specs.declared.tree.Node.{out-Node}
use Rattle.gff_write.specs.Laws.{IsNode, IsLeaf, AreNodes, AreFields}
use Rattle.gff_write.proofs.ranges.+ranges.Goals as goal

pub leaf_ranges-returns-after-loop-node : goal.leaf_ranges-returns-after-loop-node
leaf_ranges-returns-after-loop-node t c =
    let none : drop c.loop-node.node-index c.deref-node-items.result.now ≡ [] = drop_all _ _ c.loop-node-test.false in
    let all : AreNodes (nodes_list c.deref-node-items.result.now) = c.loop-node.invariant (rw none tt) in
    subst IsLeaf (sym (c.readings_tell.ensures.list c.args.leaf.now c.in-List.nodes c.in-List.is)) (rw (← c.deref-node-items.ensures.value) all)

pub node_ranges-returns : goal.node_ranges-returns
node_ranges-returns t c =
    let none : drop c.loop-field.field-index c.deref-field-items.result.now ≡ [] = drop_all _ _ c.loop-field-test.false in
    let all : AreFields (fields_list c.deref-field-items.result.now) = c.loop-field.invariant (rw none tt) in
    let kind : (out-Node c.args.node.now).kind < 4294967296 = omega arith in
    subst IsNode (sym (c.readings_tell.ensures.node c.args.node.now)) (kind, rw (← c.deref-field-items.ensures.value) all)
