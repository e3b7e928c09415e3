use Rattle.std.proofs.Common.{◌≡◌, ◌++◌, ◌∙◌, [], drop, sym, ap}
use Rattle.std.proofs.lemmas.List.{drop_all, append-nil}
use Rattle.gff_tree.specs.declared.tree.Node.{out-Node}
use Rattle.gff_tree.specs.Tree.{Struct, plain_leaf, fields_list, nodes_list}
use Rattle.gff_text.specs.Text.{field_lines, lines_below, list_lines}
use Rattle.gff_text.proofs.LineLemmas.{one_field, one_struct, struct_done}
use Rattle.gff_text.proofs.tree.+lines.Goals as goal

pub put_below-loop-node-preserved : goal.put_below-loop-node-preserved
put_below-loop-node-preserved t c =
    one_struct c.args.depth c.deref-node-items.result.now c.loop-node.node-index c.node-item.result c.loop-node.out.items c.put_struct-in-loop-node.new.out.items _ c.loop-node-test.true c.node-item.is
    c.loop-node.invariant c.in_ok-put_struct-in-List.ensures

pub put_below-returns-after-loop-node : goal.put_below-returns-after-loop-node
put_below-returns-after-loop-node t c =
    let none : drop c.loop-node.node-index c.deref-node-items.result.now ≡ [] = drop_all _ _ c.loop-node-test.false in
    let all : c.loop-node.out.items ++ [] ≡ c.args.out.now.items ++ list_lines c.args.depth (nodes_list c.deref-node-items.result.now) = rw none at c.loop-node.invariant in
    let listed : lines_below c.args.depth (plain_leaf c.args.leaf.now) ≡ list_lines c.args.depth (nodes_list c.deref-node-items.result.now) =
    ap (lines_below c.args.depth) (c.readings_tell.ensures.list c.args.leaf.now c.in-List.nodes c.in-List.is)
    ∙ ap (λ ns. list_lines c.args.depth (nodes_list ns)) (sym c.deref-node-items.ensures.value) in
    sym (append-nil c.loop-node.out.items) ∙ (all ∙ ap (λ ls. c.args.out.now.items ++ ls) (sym listed))

pub put_struct-loop-field-preserved : goal.put_struct-loop-field-preserved
put_struct-loop-field-preserved t c =
    one_field c.in_ok-below.below c.deref-field-items.result.now c.loop-field.field-index c.field-item.result c.loop-field.out.items c.put_field_line.new.out.items c.put_below.new.out.items _
    c.loop-field-test.true c.field-item.is c.loop-field.invariant
    (rw c.bytes.ensures.same at c.in_ok-put_field_line.ensures)
    (rw c.in_ok-lower.ensures at c.in_ok-put_below.ensures)

pub put_struct-returns : goal.put_struct-returns
put_struct-returns t c =
    let none : drop c.loop-field.field-index c.deref-field-items.result.now ≡ [] = drop_all _ _ c.loop-field-test.false in
    let all : c.loop-field.out.items ++ [] ≡ c.put_struct_line.new.out.items ++ field_lines c.in_ok-below.below (fields_list c.deref-field-items.result.now) = rw none at c.loop-field.invariant in
    struct_done c.args.out.now.items c.put_struct_line.new.out.items c.loop-field.out.items c.args.depth c.in_ok-below.below _ _ (fields_list c.deref-field-items.result.now)
    (sym (append-nil c.loop-field.out.items) ∙ all) c.in_ok-put_struct_line.ensures c.in_ok-below.ensures
    (c.readings_tell.ensures.node c.args.node.now ∙ ap (λ fs. Struct (out-Node c.args.node.now).kind (fields_list fs)) (sym c.deref-field-items.ensures.value))
