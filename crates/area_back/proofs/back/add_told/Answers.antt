use Rattle.area_back.proofs.BackLemmas.{told_next}
use Rattle.area_back.proofs.back.add_told.Goals as goal

pub loop-entry-preserved : goal.loop-entry-preserved
loop-entry-preserved c =
    told_next c.variables_tell.ensures.there c.loop-entry.told c.add_one_told.new.told c.args.entries.now c.loop-entry.entry-index c.entry-item.result c.loop-entry-test.true c.entry-item.is
    c.loop-entry.invariant c.in_ok-add_one_told.ensures
