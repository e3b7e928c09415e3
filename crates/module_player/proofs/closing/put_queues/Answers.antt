use Rattle.std.proofs.Common.{◌<◌, ◌+◌, refl, subst}
use Rattle.ncs_machine.specs.Host.{scripts_of}
use Rattle.module_player.specs.CodePlays.{script_name}
use Rattle.module_player.proofs.EndLemmas.{all_queues_go}
use Rattle.module_player.proofs.closing.put_queues.Goals as goal

pub loop-i-preserved : goal.loop-i-preserved
loop-i-preserved c =
    all_queues_go (script_name (scripts_of c.args.scripts.now)) c.args.world.now.world c.loop-i.i (c.loop-i.i + 1) (c.loop-i.i + 1) _ _ _ c.keeps.ensures.kept refl refl
    (subst (λ n. c.loop-i.i < n) c.count-i-end.ensures.count c.loop-i-test.true) c.loop-i.invariant c.in_ok-put_queue_of.ensures.lines
