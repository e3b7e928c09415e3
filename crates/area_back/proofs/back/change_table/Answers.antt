use Rattle.std.proofs.Common.{map}
use Rattle.gff_tree.specs.Tree.{plain_node}
use Rattle.area_back.proofs.BackLemmas.{table_made}
use Rattle.area_back.proofs.back.change_table.Goals as goal

pub returns : goal.returns
returns c =
    table_made c.args.vars.now c.args.told.now (map plain_node c.args.entries.now.items) (map plain_node c.keep_entries.new.entries.items) (map plain_node c.set_values.new.entries.items)
    (map plain_node c.add_others.new.entries.items) c.add_others.result c.requires c.keep_entries.ensures c.in_ok-set_values.ensures c.add_others.ensures
