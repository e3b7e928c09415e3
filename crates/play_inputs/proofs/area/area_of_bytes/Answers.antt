use Rattle.std.proofs.Common.{subst}
use Rattle.gff_tree.specs.Whole.{plain_gff}
use Rattle.command_work.specs.Counts.{Counted, Tallies}
use Rattle.command_work.specs.Parts.{then_ok}
use Rattle.command_files.specs.Trees.{tree_in}
use Rattle.play_inputs.specs.Areas.{area_in, area_of_bytes}
use Rattle.play_inputs.proofs.area.area_of_bytes.Goals as goal

pub returns-in-Ok-clause-does : goal.returns-in-Ok-clause-does
unfolding area_of_bytes
returns-in-Ok-clause-does g c = λ tells d.
    then_ok (tree_in c.args.name.now c.args.bytes.now) (area_in c.args.name.now) (plain_gff c.in-Ok.tree) d d d (g.S.Sink.taken c.args.out.now)
    (g.S.Sink.taken c.tree_of_bytes.new.out) (g.S.Sink.taken c.area_of_tree.new.out) c.area_of_tree.result (c.in-Ok.ensures.does tells d)
    (c.area_of_tree.ensures.does tells d)

pub returns-in-Ok-clause-counts : goal.returns-in-Ok-clause-counts
returns-in-Ok-clause-counts g c = λ counts.
    subst (λ before. Tallies c.area_of_tree.result before (Counted counts (g.S.Sink.faults c.area_of_tree.new.out))) (c.in-Ok.ensures.counts counts)
    (c.area_of_tree.ensures.counts counts)
