use Rattle.std.proofs.Common.{ap, sym}
use Rattle.world_rules.specs.Trace.{trace_text}
use Rattle.ncs_machine.specs.InSetting.{seen}
use Rattle.command_work.specs.Counts.{Counted}
use Rattle.command_plays.specs.Plays.{played_on_in}
use Rattle.command_plays.proofs.TellLemmas.{cut_takes, cut_counts, cut_shorts, where_told, whole_takes, whole_counts, ending_is}
use Rattle.command_plays.proofs.part.play_part.Goals as goal

pub returns-in-Some-clause-trace : goal.returns-in-Some-clause-trace
returns-in-Some-clause-trace g c = λ tells.
    cut_takes c.play_on-played.result.how c.in-Some.status c.in-Some.ensures.status
    (trace_text (played_on_in (seen c.args.setting.now) c.args.limits c.args.stop c.args.taken c.args.done c.args.world.world).last.trace)
    (g.S.Sink.taken c.args.out.now) (g.S.Sink.taken c.play_on-played.new.out) (c.play_on-played.ensures.trace tells)

pub returns-in-Some-clause-counts : goal.returns-in-Some-clause-counts
returns-in-Some-clause-counts g c = λ counts.
    cut_counts c.play_on-played.result.how c.in-Some.status c.in-Some.ensures.status (g.S.Sink.faults c.args.out.now) (g.S.Sink.faults c.play_on-played.new.out) counts
    c.play_on-played.ensures.faults

pub returns-in-Some-clause-only : goal.returns-in-Some-clause-only
returns-in-Some-clause-only g c = cut_shorts c.play_on-played.result.how c.in-Some.status c.in-Some.ensures.status

pub returns-in-None-clause-told : goal.returns-in-None-clause-told
returns-in-None-clause-told g c = sym c.in-None.ensures.status

pub returns-in-None-clause-ending : goal.returns-in-None-clause-ending
returns-in-None-clause-ending g c =
    ending_is c.play_on-played.result (played_on_in (seen c.args.setting.now) c.args.limits c.args.stop c.args.taken c.args.done c.args.world.world)
    c.play_on-played.new.world.world c.in-None.ensures.status c.play_on-played.ensures.ending c.play_on-played.ensures.entries c.play_on-played.ensures.instructions
    c.play_on-played.ensures.world

pub returns-in-None-clause-trace : goal.returns-in-None-clause-trace
returns-in-None-clause-trace g c = λ tells.
    whole_takes c.play_on-played.result.how
    (trace_text (played_on_in (seen c.args.setting.now) c.args.limits c.args.stop c.args.taken c.args.done c.args.world.world).last.trace)
    (g.S.Sink.taken c.args.out.now) (g.S.Sink.taken c.play_on-played.new.out) c.in-None.ensures.status (c.play_on-played.ensures.trace tells)

pub returns-in-None-clause-counts : goal.returns-in-None-clause-counts
returns-in-None-clause-counts g c = λ counts.
    ap (Counted counts)
    (whole_counts c.play_on-played.result.how (g.S.Sink.faults c.args.out.now) (g.S.Sink.faults c.play_on-played.new.out) c.in-None.ensures.status
    c.play_on-played.ensures.faults)

pub returns-in-None-clause-kept : goal.returns-in-None-clause-kept
returns-in-None-clause-kept g c = record {
  fit = where_told c.play_on-played.result.how _ c.in-None.ensures.status c.play_on-played.ensures.fit;
  posted = where_told c.play_on-played.result.how _ c.in-None.ensures.status c.play_on-played.ensures.posted;
  executed = where_told c.play_on-played.result.how _ c.in-None.ensures.status c.play_on-played.ensures.executed;
}
