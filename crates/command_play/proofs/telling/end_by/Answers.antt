use Rattle.std.proofs.Common.{subst}
use Rattle.module_player.specs.Answers.{EndsAs}
use Rattle.command_play.proofs.TellLemmas.{stopped_does, full_does}
use Rattle.command_play.proofs.telling.end_by.Goals as goal

pub returns-in-InstrStop-clause-does : goal.returns-in-InstrStop-clause-does
returns-in-InstrStop-clause-does g c = λ files_tell sink_tells ending ends.
    stopped_does c.args.to.now c.args.area c.args.text.items ending c.tell_limit.result (g.F.Files.contents c.args.files.now) (g.F.Files.contents c.args.files.now)
    (g.S.Sink.taken c.args.out.now) (g.S.Sink.taken c.tell_limit.new.out) (subst (λ h. EndsAs h ending) c.in-InstrStop.is ends)
    (c.tell_limit.ensures.does sink_tells (g.F.Files.contents c.args.files.now))

pub returns-in-EntryStop-clause-does : goal.returns-in-EntryStop-clause-does
returns-in-EntryStop-clause-does g c = λ files_tell sink_tells ending ends.
    full_does c.args.to.now c.args.area c.args.text.items ending c.tell_limit-in-EntryStop.result (g.F.Files.contents c.args.files.now) (g.F.Files.contents c.args.files.now)
    (g.S.Sink.taken c.args.out.now) (g.S.Sink.taken c.tell_limit-in-EntryStop.new.out) (subst (λ h. EndsAs h ending) c.in-EntryStop.is ends)
    (c.tell_limit-in-EntryStop.ensures.does sink_tells (g.F.Files.contents c.args.files.now))
