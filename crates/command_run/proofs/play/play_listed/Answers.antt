use Rattle.std.proofs.Common.{◌≡◌, ◌++◌, Err, subst}
use Rattle.nwq_outside.specs.Outside.{TookPrefix}
use Rattle.world_rules.specs.Trace.{trace_text}
use Rattle.world_core.specs.Calls.{cells_of}
use Rattle.ncs_machine.specs.Host.{scripts_of}
use Rattle.ncs_machine.specs.InSetting.{seen}
use Rattle.ncs_machine.specs.Settings.{scripts_in}
use Rattle.module_player.specs.EndTexts.{IsEnding}
use Rattle.command_work.specs.Work.{Does, CutsShort}
use Rattle.command_work.specs.Counts.{Counted}
use Rattle.command_plays.specs.Scripts.{run_played, tells_end}
use Rattle.command_run.proofs.PlayLemmas.{code_does}
use Rattle.command_run.proofs.TellLemmas.{counted_on, trace_cut, trace_whole}
use Rattle.command_run.proofs.WorldLemmas.{by_default, may_start}
use Rattle.command_run.proofs.play.play_listed.Goals as goal

pub play_world-requires : goal.play_world-requires
play_world-requires g c = record { world = may_start (seen c.args.setting.now) c.args.name.now c.in-Ok.world.world c.in-Ok.ensures.world }

pub returns-in-Err-play_world-clause-does : goal.returns-in-Err-play_world-clause-does
returns-in-Err-play_world-clause-does g c = λ tells ops is d.
    let s = seen c.args.setting.now in
    let p = run_played (cells_of s.hooks) s.table (scripts_in s) c.in-Ok.world.world in
    code_does (cells_of s.hooks) s.table c.args.name.now ops d (scripts_in s) c.in-Ok.world.world (Err c.in-Err-play_world.status) (g.S.Sink.taken c.args.out.now)
    (g.S.Sink.taken c.play_world.new.out) is c.in-Ok.ensures.world
    (trace_cut (scripts_in s) p d (g.S.Sink.taken c.args.out.now) (g.S.Sink.taken c.play_world.new.out) c.in-Err-play_world.status
    (by_default s c.limits.result c.in-Ok.world.world c.limits.ensures.default
    (λ q. CutsShort c.in-Err-play_world.status × TookPrefix (trace_text q.last.trace) (g.S.Sink.taken c.args.out.now) (g.S.Sink.taken c.play_world.new.out))
    (c.in-Err-play_world.ensures.trace tells)))

pub returns-in-Ok-play_world-clause-does : goal.returns-in-Ok-play_world-clause-does
returns-in-Ok-play_world-clause-does g c = λ tells ops is d.
    let s = seen c.args.setting.now in
    let p = run_played (cells_of s.hooks) s.table (scripts_in s) c.in-Ok.world.world in
    code_does (cells_of s.hooks) s.table c.args.name.now ops d (scripts_in s) c.in-Ok.world.world c.tell_end.result (g.S.Sink.taken c.args.out.now)
    (g.S.Sink.taken c.tell_end.new.out) is c.in-Ok.ensures.world
    (trace_whole (scripts_in s) p d (g.S.Sink.taken c.args.out.now) (g.S.Sink.taken c.play_world.new.out) c.tell_end.result (g.S.Sink.taken c.tell_end.new.out)
    (by_default s c.limits.result c.in-Ok.world.world c.limits.ensures.default
    (λ q. g.S.Sink.taken c.play_world.new.out ≡ g.S.Sink.taken c.args.out.now ++ trace_text q.last.trace) (c.in-Ok-play_world.ensures.trace tells))
    (subst (λ l. Does (tells_end (scripts_of l) p) d (g.S.Sink.taken c.play_world.new.out) c.tell_end.result d (g.S.Sink.taken c.tell_end.new.out)) c.scripts.ensures.scripts
    (c.tell_end.ensures.does tells p
    (by_default s c.limits.result c.in-Ok.world.world c.limits.ensures.default (λ q. IsEnding c.in-Ok-play_world.played q c.in-Ok-play_world.world.world)
    c.in-Ok-play_world.ensures.ending) d)))

pub returns-in-Ok-play_world-clause-counts : goal.returns-in-Ok-play_world-clause-counts
returns-in-Ok-play_world-clause-counts g c = λ counts.
    counted_on c.tell_end.result (Counted counts (g.S.Sink.faults c.args.out.now)) (Counted counts (g.S.Sink.faults c.play_world.new.out))
    (Counted counts (g.S.Sink.faults c.tell_end.new.out)) (c.in-Ok-play_world.ensures.counts counts) (c.tell_end.ensures.counts counts)
