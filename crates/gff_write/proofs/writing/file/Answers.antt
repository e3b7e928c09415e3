use Rattle.std.proofs.Common.{◌≤◌, ◌∙◌, sym, subst}
use Rattle.gff_tree.specs.Whole.{plain_gff}
use Rattle.gff_write.specs.Flat.{tree_limit}
use Rattle.gff_write.specs.File.{field_count}
use Rattle.gff_write.proofs.FewLemmas.{few_fields, few_structs}
use Rattle.gff_write.proofs.writing.file.Goals as goal

pub rows_in-requires : goal.rows_in-requires
rows_in-requires c = record { few = few_structs (plain_gff c.args.tree.now) c.requires.small }

pub count_fields-fields-requires : goal.count_fields-fields-requires
count_fields-fields-requires c = record {
  few = subst (λ rows. field_count rows ≤ tree_limit) (sym (c.as_slice.ensures.items ∙ c.in_ok-rows.ensures)) (few_fields (plain_gff c.args.tree.now) c.requires.small);
}

pub labelled-requires-clause-few : goal.labelled-requires-clause-few
labelled-requires-clause-few c =
    subst (λ rows. field_count rows ≤ tree_limit) (sym (c.as_slice-2.ensures.items ∙ c.in_ok-rows.ensures)) (few_fields (plain_gff c.args.tree.now) c.requires.small)
