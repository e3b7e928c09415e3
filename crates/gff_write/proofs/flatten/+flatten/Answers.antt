use Rattle.std.proofs.Common.{◌≡◌, ◌+◌, ◌++◌, ◌∙◌, [], length, drop, sym, ap, arith}
use Rattle.std.proofs.lemmas.List.{drop_all, append-nil}
use Rattle.gff_tree.specs.declared.tree.Node.{out-Node}
use Rattle.gff_tree.specs.Tree.{Struct, plain_leaf, fields_list, nodes_list}
use Rattle.gff_tree.specs.Count.{node_count, leaf_count, fields_count, nodes_count}
use Rattle.gff_write.specs.Flat.{rows_below, leaf_rows, list_rows, entries_from}
use Rattle.gff_write.proofs.FlatLemmas.{below_step, list_step, node_done}
use Rattle.gff_write.proofs.FewLemmas.{below_within, field_few, list_within, member_few, pushed_long}
use Rattle.gff_write.proofs.flatten.+flatten.Goals as goal

pub flatten_leaf-flatten_node-requires-in-loop-node : goal.flatten_leaf-flatten_node-requires-in-loop-node
flatten_leaf-flatten_node-requires-in-loop-node t c =
    let listed = ap leaf_count (c.readings_tell.ensures.list c.args.leaf.now c.in-List.nodes c.in-List.is) in
    let same = ap (λ ns. nodes_count (nodes_list ns)) c.deref-node-items.ensures.value in
    let item = member_few c.deref-node-items.result.now c.loop-node.node-index c.node-item.result c.loop-node-test.true c.node-item.is in
    let within = list_within c.loop-node.rows c.args.rows.now c.deref-node-items.result.now c.loop-node.node-index c.node-item.result c.loop-node-test.true c.node-item.is c.loop-node.invariant in
    (omega (arith, listed, same, item, c.decreases), omega (arith, listed, same, within, c.requires.few))

pub flatten_node-flatten_leaf-requires : goal.flatten_node-flatten_leaf-requires
flatten_node-flatten_leaf-requires t c =
    let made = ap node_count (c.readings_tell.ensures.node c.args.node.now) in
    let same = ap (λ fs. fields_count (fields_list fs)) c.deref-field-items.ensures.value in
    let item = field_few c.deref-field-items.result.now c.loop-field.field-index c.field-item.result c.loop-field-test.true c.field-item.is in
    let within = below_within c.loop-field.rows c.push.new.self c.deref-field-items.result.now c.loop-field.field-index c.field-item.result c.loop-field-test.true c.field-item.is
    c.loop-field.invariant in
    let long = pushed_long c.args.rows.now c.push.new.self _ c.in_ok-push.ensures.ok in
    (omega (arith, made, same, item, c.decreases), omega (arith, made, same, within, long, c.requires.few))

pub flatten_leaf-loop-node-preserved : goal.flatten_leaf-loop-node-preserved
flatten_leaf-loop-node-preserved t c =
    list_step c.loop-node.rows c.flatten_node-in-loop-node.new.rows c.deref-node-items.result.now c.loop-node.node-index c.node-item.result _ c.loop-node-test.true c.node-item.is
    c.loop-node.invariant c.in_ok-flatten_node-in-List.ensures

pub flatten_leaf-returns-after-loop-node : goal.flatten_leaf-returns-after-loop-node
flatten_leaf-returns-after-loop-node t c =
    let none : drop c.loop-node.node-index c.deref-node-items.result.now ≡ [] = drop_all _ _ c.loop-node-test.false in
    let all : c.loop-node.rows ++ [] ≡ c.args.rows.now ++ list_rows (length c.args.rows.now) (nodes_list c.deref-node-items.result.now) = rw none at c.loop-node.invariant in
    let listed : leaf_rows (length c.args.rows.now) (plain_leaf c.args.leaf.now) ≡ list_rows (length c.args.rows.now) (nodes_list c.deref-node-items.result.now) =
    ap (leaf_rows (length c.args.rows.now)) (c.readings_tell.ensures.list c.args.leaf.now c.in-List.nodes c.in-List.is)
    ∙ ap (λ ns. list_rows (length c.args.rows.now) (nodes_list ns)) (sym c.deref-node-items.ensures.value) in
    sym (append-nil c.loop-node.rows) ∙ (all ∙ ap (λ rs. c.args.rows.now ++ rs) (sym listed))

pub flatten_node-loop-field-preserved : goal.flatten_node-loop-field-preserved
flatten_node-loop-field-preserved t c =
    below_step c.loop-field.rows c.flatten_leaf.new.rows c.deref-field-items.result.now c.loop-field.field-index c.field-item.result _ c.loop-field-test.true c.field-item.is
    c.loop-field.invariant c.in_ok-flatten_leaf.ensures

pub flatten_node-returns : goal.flatten_node-returns
flatten_node-returns t c =
    let none : drop c.loop-field.field-index c.deref-field-items.result.now ≡ [] = drop_all _ _ c.loop-field-test.false in
    let all : c.loop-field.rows ++ [] ≡ c.push.new.self ++ rows_below (length c.push.new.self) (fields_list c.deref-field-items.result.now) = rw none at c.loop-field.invariant in
    let first = ap (λ n. n + 1) c.len.ensures.len in
    let same = c.deref.ensures.value ∙ sym c.deref-field-items.ensures.value in
    let read : c.put_fields.new.entries ≡ entries_from (length c.args.rows.now + 1) (fields_list c.deref-field-items.result.now) =
    (rw c.new-fields.ensures.empty at c.in_ok-put_fields.ensures)
    ∙ (ap (λ n. entries_from n (fields_list c.deref.result.now)) first
    ∙ ap (λ fs. entries_from (length c.args.rows.now + 1) (fields_list fs)) same) in
    node_done c.args.rows.now c.push.new.self c.loop-field.rows c.args.node.now _ _ c.deref-field-items.result.now
    (sym (append-nil c.loop-field.rows) ∙ all) c.in_ok-push.ensures.ok read
    (c.readings_tell.ensures.node c.args.node.now
    ∙ ap (λ fs. Struct (out-Node c.args.node.now).kind (fields_list fs)) (sym c.deref-field-items.ensures.value))
