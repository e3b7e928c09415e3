use Rattle.std.proofs.Common.{sym, ap, ◌∙◌}
use Rattle.std.specs.Vec.Iter.{into_iter_items}
use Rattle.gff_tree.specs.Tree.{plain_node, plain_leaf}
use Rattle.gff_tree.specs.Fields.{kind_of, fields_of, node_from, replaced}
use Rattle.area_back.specs.Back.{list_back}
use Rattle.area_back.proofs.BackLemmas.{taken_none, taken_back}
use Rattle.area_back.proofs.back.put_list.Goals as goal

pub returns-in-None-clause-list : goal.returns-in-None-clause-list
returns-in-None-clause-list c =
    let node = plain_node c.args.top.now in
    taken_none c.fields_tell.ensures.fields c.fields_tell.ensures.node node (plain_node c.replace.new.self) c.args.label.now _ c.in-None.ensures.old c.in-None.ensures.new
    ∙ (sym (c.fields_tell.ensures.node node) ∙ ap (node_from (kind_of node))
    (sym (ap (λ o. list_back c.args.label.now (into_iter_items c.args.objects.now) o (fields_of node)) c.in-None.ensures.old)))

pub returns-in_ok-leaf-in-Some-clause-list : goal.returns-in_ok-leaf-in-Some-clause-list
returns-in_ok-leaf-in-Some-clause-list c =
    let node = plain_node c.args.top.now in
    taken_back c.fields_tell.ensures.fields node (plain_node c.replace.new.self)
    (plain_node c.replace-in-Some.new.self) c.args.label.now _
    (plain_leaf c.in_ok-leaf-in-Some.leaf) c.in-Some.ensures.new c.replace-in-Some.ensures.new
    ∙ (ap (λ l. node_from (kind_of node) (replaced c.args.label.now l (fields_of node))) c.in_ok-leaf-in-Some.ensures.changed
    ∙ ap (node_from (kind_of node)) (sym (ap (λ o. list_back c.args.label.now (into_iter_items c.args.objects.now) o (fields_of node)) c.in-Some.ensures.old)))
