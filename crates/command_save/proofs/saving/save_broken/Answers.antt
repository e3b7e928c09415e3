use Rattle.std.proofs.Common.{subst}
use Rattle.ncs_machine.specs.Host.{scripts_of}
use Rattle.module_player.specs.Answers.{EndsAs}
use Rattle.module_player.specs.declared.played.How.{How}
use Rattle.plan_text.specs.Plans.{limits_of}
use Rattle.command_save.specs.Tellings.{MaySave}
use Rattle.command_save.proofs.StateLemmas.{between_entries, stopped_does}
use Rattle.command_save.proofs.saving.save_broken.Goals as goal

pub returns-in-InstrStop-clause-does : goal.returns-in-InstrStop-clause-does
returns-in-InstrStop-clause-does g c = λ files_tell sink_tells p ending.
    stopped_does c.args.header c.args.file c.args.listed.now.plan.now (scripts_of c.args.listed.now.scripts.now) c.args.name.now p c.tell_stopped.result (g.F.Files.contents c.args.files.now)
    (g.F.Files.contents c.args.files.now) (g.S.Sink.taken c.args.out.now) (g.S.Sink.taken c.tell_stopped.new.out) p.ending (subst (λ (how : How). EndsAs how p.ending) c.in-InstrStop.is ending.ending)
    (c.tell_stopped.ensures.does sink_tells (g.F.Files.contents c.args.files.now) p ending)

pub save_state-requires-clause-saves : goal.save_state-requires-clause-saves
save_state-requires-clause-saves g c =
    between_entries c.args.broken.played.how (MaySave c.args.listed.now.scripts.now c.args.file (limits_of c.args.listed.now.plan.now) c.args.broken.world.world c.args.broken.played) c.in-Done.is
    c.requires.broken
