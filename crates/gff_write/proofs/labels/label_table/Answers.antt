use Rattle.std.proofs.Common.{[], ap, sym, ◌∙◌}
use Rattle.std.specs.Map.{values_of}
use Rattle.gff_tree.specs.Tree.{plain_node}
use Rattle.gff_write.specs.Size.{node_labels, with_labels}
use Rattle.gff_write.proofs.TableLemmas.{node_table}
use Rattle.gff_write.proofs.labels.label_table.Goals as goal

pub returns : goal.returns
returns c =
    c.in_ok-add_labels.ensures.rows
    ∙ (ap (λ entries. with_labels (values_of entries) (node_labels (plain_node c.args.top.now))) c.new-rows.ensures.empty ∙ sym (node_table [] 0 (plain_node c.args.top.now)))
