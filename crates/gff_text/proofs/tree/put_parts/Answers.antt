use Rattle.gff_text.specs.Text.{part_line}
use Rattle.gff_text.proofs.LineLemmas.{one_more}
use Rattle.gff_text.proofs.tree.put_parts.Goals as goal

pub loop-part-preserved : goal.loop-part-preserved
loop-part-preserved c =
    one_more (part_line c.args.depth) c.args.parts.now c.loop-part.part-index c.part-item.result c.loop-part.out.items c.put_part.new.out.items _ c.loop-part-test.true c.part-item.is
    c.loop-part.invariant c.in_ok-put_part.ensures
