use Rattle.ncs_machine.specs.InSetting.{seen}
use Rattle.module_player.specs.CodePlays.{played_before}
use Rattle.module_player.proofs.Playing.{SoFar}
use Rattle.module_player.proofs.plays.play_from.Given as goal

abbrev pub invariant-loop-number : goal.invariant-loop-number
invariant-loop-number g l =
    SoFar (seen l.setting) l.limits.instructions
    (record { entries = l.limits.entries; until = l.limits.until; stop = l.stop }) (played_before l.taken l.done l.fn.world.world)
    g.S.Sink.tells (g.S.Sink.taken l.fn.out) (g.S.Sink.taken l.out) (g.S.Sink.faults l.fn.out) (g.S.Sink.faults l.out) l.number l.count l.world.world
