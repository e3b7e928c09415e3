use Rattle.world_rules.specs.Turns.{turn_done}
use Rattle.ncs_machine.specs.declared.scripts.Begin.TheVariants as begins
use Rattle.module_player.proofs.Cutting.{division_cut, inside, on_err}
use Rattle.module_player.proofs.Entering.{action_entered}
use Rattle.module_player.proofs.entry.action_entry.Goals as goal

pub returns : goal.returns
returns g c = record {
  entered = action_entered _ _ _ _ _ _ _ _ _ _ c.in_ok-ended.ensures.run c.in_ok-stopped.ensures.finished c.in_ok-stopped.ensures.few c.in_ok-stopped.ensures.fit;
  cut = tt;
}

pub returns-in_err-ended-clause-cut : goal.returns-in_err-ended-clause-cut
returns-in_err-ended-clause-cut g c = on_err _ _ (inside (turn_done c.args.object) _ _ _ _ c.in_err-ended.ensures.cut)

pub returns-in_err-stopped-clause-cut : goal.returns-in_err-stopped-clause-cut
returns-in_err-stopped-clause-cut g c =
    on_err _ _ (inside (turn_done c.args.object) _ _ _ _
    (division_cut _ _ c.args.saved.script c.args.object (begins.Stored c.args.saved) _ _ _ _ _ c.in_ok-ended.ensures.run c.in_err-stopped.ensures.divided c.in_err-stopped.ensures.kept))
