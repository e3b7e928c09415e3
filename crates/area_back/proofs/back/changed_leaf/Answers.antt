use Rattle.std.proofs.Common.{map, sym}
use Rattle.gff_tree.specs.Tree.{plain_node, plain_leaf}
use Rattle.area_back.proofs.BackLemmas.{leaf_along, leaf_back_list}
use Rattle.area_back.proofs.back.changed_leaf.Goals as goal

pub returns-in-Ok : goal.returns-in-Ok
returns-in-Ok c =
    leaf_along _ _ c.table_leaf.result
    (sym (leaf_back_list c.fields_tell.ensures.nodes c.args.vars.now (plain_leaf c.args.leaf) (map plain_node c.in-Ok.entries.items) c.in-Ok.ensures.list)) c.table_leaf.ensures
