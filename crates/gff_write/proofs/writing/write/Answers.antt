use Rattle.gff_tree.specs.Whole.{plain_gff}
use Rattle.gff_write.proofs.WrittenLaws.{written_ok, written_again}
use Rattle.gff_write.proofs.writing.write.Goals as goal

pub returns-clause-stands : goal.returns-clause-stands
returns-clause-stands c = written_ok (plain_gff c.args.tree.now) c.outcome.result c.tree_ranges.ensures c.outcome.ensures

pub returns-clause-again : goal.returns-clause-again
returns-clause-again c =
    written_again c.one_tree.ensures.one (plain_gff c.args.tree.now) c.outcome.result (written_ok (plain_gff c.args.tree.now) c.outcome.result c.tree_ranges.ensures c.outcome.ensures)
