use Rattle.std.proofs.Common.{◌∙◌, length, ap}
use Rattle.gff_tree.specs.Whole.{plain_gff}
use Rattle.gff_write.specs.File.{joined}
use Rattle.gff_write.specs.Size.{capped}
use Rattle.gff_write.proofs.SizeLemmas.{written_length, whole}
use Rattle.gff_write.proofs.measure.size_with.Goals as goal

pub returns : goal.returns
returns c = record {
  size =
      whole _ _ _ _ _ _ _ _ _ (written_length (plain_gff c.args.tree.now)) c.header_size.ensures c.node_size.ensures c.plus-structs.ensures
      (c.labels_size.ensures ∙ ap (λ table. capped (length (joined table))) (c.rows.ensures.rows ∙ c.requires.labels)) c.plus.ensures;
}
