use Rattle.std.proofs.Common.{◌∙◌, Ok, ap, sym}
use Rattle.gff_tree.specs.Whole.{plain_gff}
use Rattle.gff_write.specs.File.{written}
use Rattle.gff_write.proofs.FewLemmas.{too_large, within, fits}
use Rattle.gff_write.proofs.writing.outcome.Goals as goal

pub returns-then-size : goal.returns-then-size
returns-then-size c = too_large (written (plain_gff c.args.tree.now)) c.size_with-size.result c.size_with-size.ensures.size c.if-size.true

pub returns : goal.returns
returns c =
    fits (written (plain_gff c.args.tree.now)) (within (written (plain_gff c.args.tree.now)) c.size_with-size.result c.size_with-size.ensures.size c.if-size.false)
    ∙ ap Ok (sym (c.into_vec.ensures.items ∙ c.in_ok-bytes.ensures))
