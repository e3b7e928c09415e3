use Rattle.std.proofs.Common.{◌≡◌, ◌+◌, ◌≤◌, ◌∙◌, List, [], length, drop, sym, ap, subst}
use Rattle.std.proofs.lemmas.List.{drop_all}
use Rattle.gff_tree.specs.declared.tree.Field.{Field}
use Rattle.gff_tree.specs.declared.tree.Node.{Node}
use Rattle.gff_tree.specs.Tree.{fields_list, nodes_list}
use Rattle.std.specs.List.{flat_map}
use Rattle.gff_write.specs.Flat.{part_bytes}
use Rattle.gff_write.specs.Size.{capped, index_bytes, own_count, node_bytes, leaf_bytes, fields_bytes, nodes_bytes}
use Rattle.gff_write.proofs.CapLemmas.{fields_turn, nodes_turn, capped_small, end, eight, counted_size, localized_size, start, own_counted}
use Rattle.gff_write.proofs.measure.+size.Goals as goal

pub leaf_size-loop-node-preserved : goal.leaf_size-loop-node-preserved
leaf_size-loop-node-preserved t c = record {
  sum =
      nodes_turn c.loop-node.total c.plus-in-loop-node.result c.node_size-in-loop-node.result c.plus-total.result _ c.loop-node.node-index c.deref-node-items.result.now c.node-item.result
      c.loop-node-test.true c.node-item.is c.loop-node.invariant.sum c.plus-in-loop-node.ensures c.node_size-in-loop-node.ensures c.plus-total.ensures;
  small = subst (λ n. n ≤ 18446744073709551615) (sym c.plus-total.ensures) (capped_small _);
}

pub leaf_size-returns-in-Dword64 : goal.leaf_size-returns-in-Dword64
leaf_size-returns-in-Dword64 t c = rw c.in-Dword64.is (eight _)

pub leaf_size-returns-in-Int64 : goal.leaf_size-returns-in-Int64
leaf_size-returns-in-Int64 t c = rw c.in-Int64.is (eight _)

pub leaf_size-returns-in-Str : goal.leaf_size-returns-in-Str
leaf_size-returns-in-Str t c = c.plus-in-Str.ensures ∙ (ap (λ n. capped (4 + n)) c.len.ensures.len ∙ rw c.in-Str.is (counted_size _))

pub leaf_size-returns-in-Void : goal.leaf_size-returns-in-Void
leaf_size-returns-in-Void t c = c.plus-in-Void.ensures ∙ (ap (λ n. capped (4 + n)) c.len-in-Void.ensures.len ∙ rw c.in-Void.is (counted_size _))

pub leaf_size-returns-after-loop-node : goal.leaf_size-returns-after-loop-node
leaf_size-returns-after-loop-node t c =
    let none : drop c.loop-node.node-index c.deref-node-items.result.now ≡ [] = drop_all _ _ c.loop-node-test.false in
    let all : c.loop-node.total ≡ capped (4 + nodes_bytes (nodes_list c.deref-node-items.result.now)) =
    end c.loop-node.total _ (subst
    (λ (ns : List Node). capped (c.loop-node.total + nodes_bytes (nodes_list ns))
    ≡ capped (4 + nodes_bytes
    (nodes_list c.deref-node-items.result.now))) none c.loop-node.invariant.sum) c.loop-node.invariant.small in
    all ∙ (ap (λ ns. capped (4 + nodes_bytes (nodes_list ns))) c.deref-node-items.ensures.value
    ∙ sym (ap (λ l. capped (leaf_bytes l)) (c.readings_tell.ensures.list c.args.leaf.now c.in-List.nodes c.in-List.is)))

pub node_size-loop-field-preserved : goal.node_size-loop-field-preserved
node_size-loop-field-preserved t c = record {
  sum =
      fields_turn c.loop-field.total c.plus.result c.leaf_size.result c.plus-total-in-loop-field.result _ c.loop-field.field-index c.deref-field-items.result.now c.field-item.result
      c.loop-field-test.true c.field-item.is c.loop-field.invariant.sum c.plus.ensures c.leaf_size.ensures c.plus-total-in-loop-field.ensures;
  small = subst (λ n. n ≤ 18446744073709551615) (sym c.plus-total-in-loop-field.ensures) (capped_small _);
}

pub node_size-returns : goal.node_size-returns
node_size-returns t c =
    let none : drop c.loop-field.field-index c.deref-field-items.result.now ≡ [] = drop_all _ _ c.loop-field-test.false in
    let items = c.deref-field-items.result.now in
    let all : c.loop-field.total ≡ capped (12 + index_bytes (length items) + fields_bytes (fields_list items)) =
    end c.loop-field.total _ (subst
    (λ (fs : List Field). capped (c.loop-field.total + fields_bytes (fields_list fs))
    ≡ capped (12 + index_bytes (length items) + fields_bytes
    (fields_list items))) none c.loop-field.invariant.sum) c.loop-field.invariant.small in
    all ∙ (ap (λ n. capped (12 + index_bytes n + fields_bytes (fields_list items))) (sym (own_counted items))
    ∙ (ap (λ fs. capped (12 + index_bytes (own_count (fields_list fs)) + fields_bytes (fields_list fs))) c.deref-field-items.ensures.value
    ∙ sym (ap (λ x. capped (node_bytes x)) (c.readings_tell.ensures.node c.args.node.now))))

pub node_size-loop-field-init : goal.node_size-loop-field-init
node_size-loop-field-init t c = record {
  sum =
      start 12 c.index_size.result c.len.result (length c.deref-field-items.result.now) c.plus-total.result (fields_bytes (fields_list c.deref-field-items.result.now))
      (c.len.ensures ∙ sym c.deref-field-items.ensures.len) c.index_size.ensures c.plus-total.ensures;
  small = subst (λ n. n ≤ 18446744073709551615) (sym c.plus-total.ensures) (capped_small _);
}

pub leaf_size-returns-in-Loc : goal.leaf_size-returns-in-Loc
leaf_size-returns-in-Loc t c =
    rw c.in-Loc.is (c.parts_size.ensures ∙ (ap (λ ps. capped (12 + length (flat_map part_bytes ps))) c.as_slice-in-Loc.ensures.items ∙ localized_size c.in-Loc.loc))
