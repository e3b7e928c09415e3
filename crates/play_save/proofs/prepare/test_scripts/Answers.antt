use Rattle.play_save.proofs.Scripts.{sound_more}
use Rattle.play_save.proofs.prepare.test_scripts.Goals as goal

pub loop-part-preserved : goal.loop-part-preserved
loop-part-preserved c =
    sound_more c.args.table.now c.args.parts.now c.loop-part.part-index c.part-item.result c.loop-part.invariant c.in-Ok.ensures.sound c.loop-part-test.true c.part-item.is
