use Rattle.std.proofs.Common.{List, arith, ◌≡◌, ◌+◌, ◌∷◌, ◌<◌, map, length, get_or, drop, drop-cons, add-one, ap, refl, ◌∙◌}
use Rattle.std.specs.Vec.Iter.{into_iter_items}
use Rattle.std.proofs.lemmas.Result.{err_from_is_err_and}
use Rattle.gff_tree.specs.declared.tree.Leaf.TheViews as views
use Rattle.gff_tree.specs.declared.tree.Field.{Field}
use Rattle.gff_tree.specs.declared.tree.Node.{Node}
use Rattle.gff_tree.specs.Tree.{fields_list, nodes_list}
use Rattle.gff_read.specs.declared.row.FieldRow.{FieldRow}
use Rattle.gff_read.specs.Charge.{rows_charge, fields_charge, nodes_charge}
use Rattle.gff_read.proofs.ChargeLemmas.{fields_charge_push, nodes_charge_push}
use Rattle.gff_read.specs.Held.{plain_row}
use Rattle.gff_read.specs.Walk.{node_at}
use Rattle.gff_read.proofs.WalkLemmas.{node_refused, node_rows_fail, node_fields_fail, node_made, fields_step, nodes_step}
use Rattle.gff_read.proofs.walk.+walk.Goals as goal

pub read_node-returns-in_err-entry-clause-read : goal.read_node-returns-in_err-entry-clause-read
read_node-returns-in_err-entry-clause-read t c =
    let p = err_from_is_err_and c.from_residual.result c.from_residual.ensures.1 in
    rw (p.1, p.2) (node_refused c.in_err-entry.field-0.0 c.args.depth c.args.view.now c.args.n c.args.marks.now c.in_err-entry.ensures.row)

pub read_node-returns-in_err-rows-clause-read : goal.read_node-returns-in_err-rows-clause-read
read_node-returns-in_err-rows-clause-read t c =
    let p = err_from_is_err_and c.from_residual-in_err-rows.result c.from_residual-in_err-rows.ensures.1 in
    rw (p.1, p.2) (node_rows_fail c.in_err-rows.field-0.0 c.args.depth c.args.view.now c.args.n c.args.marks.now c.in_ok-entry.entry c.in_ok-entry.ensures.row c.in_err-rows.ensures.read)

pub read_node-returns-in_err-fields-clause-read : goal.read_node-returns-in_err-fields-clause-read
read_node-returns-in_err-fields-clause-read t c =
    let p = err_from_is_err_and c.from_residual-in_err-fields.result c.from_residual-in_err-fields.ensures.1 in
    rw (p.1, p.2) (node_fields_fail c.in_err-fields.field-0.0 c.args.depth c.args.view.now c.args.n c.args.marks.now c.in_ok-entry.entry (map plain_row c.in_ok-rows.rows.items)
    c.in_ok-entry.ensures.row c.in_ok-rows.ensures.read c.in_err-fields.ensures.read)

pub read_node-returns-clause-read : goal.read_node-returns-clause-read
read_node-returns-clause-read t c =
    node_made c.args.depth c.args.view.now c.args.n c.args.marks.now _ c.in_ok-entry.entry (map plain_row c.in_ok-rows.rows.items) (fields_list c.in_ok-fields.fields.items) _
    c.in_ok-entry.ensures.row c.in_ok-rows.ensures.read c.in_ok-fields.ensures.read c.new.ensures.node

pub read_fields-loop-row-preserved : goal.read_fields-loop-row-preserved
read_fields-loop-row-preserved t c =
    let field = views.roll-Field (record { label = c.in-Some.row.label; leaf = c.in_ok-leaf.leaf }) in
    record {
      goes = tt;
      ends = tt;
      read = fields_step (node_at c.args.depth c.args.view.now) c.loop-row.fields.items c.push.new.self.items
          (plain_row c.in-Some.row) (map plain_row (into_iter_items c.loop-row.row-iterator))
          (map plain_row (into_iter_items c.next.new.self)) c.loop-row.marks c.read_leaf.new.marks field _
          c.loop-row.invariant.read (ap (map plain_row) c.in-Some.ensures.steps.0) c.in_ok-leaf.ensures.read refl c.in_ok-push.ensures.items;
      whole = c.read_leaf.auto.marks ∙ c.loop-row.invariant.whole;
      charged = omega (
        arith,
        c.loop-row.invariant.charged,
        c.in_ok-leaf.ensures.charged,
        ap (λ (rs : List FieldRow). rows_charge (map plain_row rs)) c.in-Some.ensures.steps.0,
        ap (λ (fs : List Field). fields_charge (fields_list fs)) c.in_ok-push.ensures.items,
        fields_charge_push c.loop-row.fields.items field,
      );
    }

pub read_nodes-loop-n-preserved : goal.read_nodes-loop-n-preserved
read_nodes-loop-n-preserved t c =
    let i = c.loop-n.n-index in
    let lt : i < length c.args.numbers.now = c.loop-n-test.true in
    let next : drop i c.args.numbers.now ≡ get_or c.args.numbers.now i 0 ∷ drop (i + 1) c.args.numbers.now = rw (add-one, drop-cons c.args.numbers.now i 0) refl in
    record {
      read = nodes_step (node_at c.args.depth c.args.view.now) c.loop-n.nodes.items c.push.new.self.items
          (get_or c.args.numbers.now i 0) (drop i c.args.numbers.now)
          (drop (i + 1) c.args.numbers.now) c.loop-n.marks c.read_node.new.marks c.in_ok-read_node.field-0 _
          c.loop-n.invariant.read next c.in_ok-read_node.ensures.read c.in_ok-push.ensures.items;
      whole = c.read_node.auto.marks ∙ c.loop-n.invariant.whole;
      charged = omega (
        arith,
        c.loop-n.invariant.charged,
        c.in_ok-read_node.ensures.charged,
        ap length next,
        ap (λ (ns : List Node). nodes_charge (nodes_list ns)) c.in_ok-push.ensures.items,
        nodes_charge_push c.loop-n.nodes.items c.in_ok-read_node.field-0,
      );
    }
