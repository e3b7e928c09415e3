use Rattle.play_save.proofs.Scripts.{scripts_more}
use Rattle.play_save.proofs.prepare.kept_scripts.Goals as goal

pub loop-part-preserved : goal.loop-part-preserved
loop-part-preserved c =
    scripts_more c.args.table.now c.args.parts.now c.loop-part.part-index c.part-item.result c.in-Ok.loaded c.loop-part.all c.push.new.self c.loop-part.invariant
    c.in_ok-push-in-Ok.ensures.ok c.in-Ok.ensures.script c.loop-part-test.true c.part-item.is
