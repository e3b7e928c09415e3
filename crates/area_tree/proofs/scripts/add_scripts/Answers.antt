use Rattle.area_tree.proofs.ReadLemmas.{scripts_next}
use Rattle.area_tree.proofs.scripts.add_scripts.Goals as goal

pub loop-field-preserved : goal.loop-field-preserved
loop-field-preserved c =
    scripts_next c.loop-field.scripts.items c.add_script.new.scripts.items _ c.args.fields.now c.loop-field.field-index c.field-item.result c.loop-field-test.true c.field-item.is
    c.loop-field.invariant c.in_ok-add_script.ensures
