use Rattle.std.proofs.Common.{◌+◌, codes, Err, ap, ◌∙◌, arith}
use Rattle.std.proofs.lemmas.Result.{err_from_is_err_and}
use Rattle.gff_tree.specs.Tree.{plain_node}
use Rattle.area_tree.proofs.ReadLemmas.{table_few, few_item, few_next, members_next, members_first, objects_next, if_first}
use Rattle.area_tree.proofs.object.add_members.Goals as goal

pub read_member-requires : goal.read_member-requires
read_member-requires c = record {
  few = table_few (codes "VarTable") (plain_node c.node-item.result) 4294967296
      (few_item c.loop-node.member c.args.nodes.now c.loop-node.node-index c.node-item.result 4294967296 c.loop-node-test.true c.node-item.is c.loop-node.invariant.few);
}

pub returns-in_err-object-clause-first : goal.returns-in_err-object-clause-first
returns-in_err-object-clause-first c =
    let p = err_from_is_err_and c.from_residual.result c.from_residual.ensures.1 in
    if_first c.from_residual.result c.in_err-object.field-0.0 _ (p.1 ∙ ap Err p.2)
    (members_first c.in_err-object.field-0.0 c.args.list
    (c.loop-node.member + 1) c.args.nodes.now c.loop-node.node-index c.node-item.result _ c.loop-node-test.true c.node-item.is c.loop-node.invariant.places c.in_err-object.ensures)

pub loop-node-preserved : goal.loop-node-preserved
loop-node-preserved c = record {
  number = omega (arith, c.loop-node.invariant.number);
  few = few_next c.loop-node.member c.args.nodes.now c.loop-node.node-index c.node-item.result 4294967296 c.loop-node-test.true c.node-item.is c.loop-node.invariant.few;
  places = members_next c.args.list
      (c.loop-node.member + 1) c.args.nodes.now c.loop-node.node-index c.node-item.result _ c.loop-node-test.true c.node-item.is c.loop-node.invariant.places c.in_ok-object.ensures.0;
  objects = objects_next c.loop-node.objects.items c.push.new.self.items _ c.in_ok-object.object c.args.nodes.now c.loop-node.node-index c.node-item.result c.loop-node-test.true
      c.node-item.is c.loop-node.invariant.objects c.in_ok-push.ensures.items c.in_ok-object.ensures.1;
}
