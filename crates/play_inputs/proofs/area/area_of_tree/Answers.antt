use Rattle.gff_tree.specs.Whole.{plain_gff}
use Rattle.play_inputs.proofs.AreaLemmas.{area_broken}
use Rattle.play_inputs.proofs.area.area_of_tree.Goals as goal

pub returns-in-Some-clause-does : goal.returns-in-Some-clause-does
returns-in-Some-clause-does g c = λ told contents.
    area_broken c.args.name.now contents (plain_gff c.args.tree) c.in-Err.fault c.in-Some.flaw c.refuse_area.result (g.S.Sink.taken c.args.out.now)
    (g.S.Sink.taken c.refuse_area.new.out) c.in-Err.ensures.first c.in-Some.ensures (c.refuse_area.ensures.does told)
