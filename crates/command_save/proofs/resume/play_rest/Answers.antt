use Rattle.std.proofs.Common.{◌≡◌, ◌++◌, subst, sym, arith}
use Rattle.world_rules.specs.Trace.{trace_text}
use Rattle.hook_table.specs.InHooks.{known_by}
use Rattle.world_core.specs.Calls.{cells_of}
use Rattle.ncs_machine.specs.InSetting.{seen}
use Rattle.ncs_machine.specs.Host.{scripts_of}
use Rattle.ncs_machine.specs.Settings.{FitIn}
use Rattle.module_player.specs.Answers.{EndsAs}
use Rattle.module_player.specs.EndTexts.{IsEnding}
use Rattle.command_work.specs.Counts.{Counted}
use Rattle.command_save.specs.Tellings.{rest_of}
use Rattle.command_save.proofs.PartLemmas.{counted_on}
use Rattle.command_save.proofs.RestOfLemmas.{has_text, rest_in, told_whole}
use Rattle.command_save.proofs.resume.play_rest.Goals as goal

pub play_part-requires-clause-world : goal.play_part-requires-clause-world
play_part-requires-clause-world g c = record {
  fit = subst (λ s. FitIn s c.args.opened.world.world) (sym c.of-setting.ensures.setting) c.requires.opened.fit;
  quiet = c.requires.opened.quiet;
  next = c.requires.opened.next;
}

pub play_part-requires-clause-goes : goal.play_part-requires-clause-goes
play_part-requires-clause-goes g c = record {
  some = let within = c.requires.opened.taken in omega (arith, within);
  within = c.requires.opened.taken;
  few = c.requires.opened.done;
}

pub tell_end-end-requires : goal.tell_end-end-requires
tell_end-end-requires g c = record {
  told =
      has_text (cells_of (known_by c.args.hooks.now)) c.args.opened c.in-Ok.played.how c.requires.opened.taken c.in-Ok.ensures.told
      (rest_in (seen c.of-setting.result) c.args.opened (known_by c.args.hooks.now) c.of-setting.ensures.setting (λ p. EndsAs c.in-Ok.played.how p.ending) c.in-Ok.ensures.ending.ending);
}

pub returns-in-Ok-clause-does : goal.returns-in-Ok-clause-does
returns-in-Ok-clause-does g c = λ files_tell sink_tells.
    let p = rest_of (cells_of (known_by c.args.hooks.now)) c.args.opened in
    told_whole c.args.to.now (scripts_of c.args.opened.scripts) p (g.F.Files.contents c.args.files.now) (g.F.Files.contents c.tell_end-end.new.files)
    (g.S.Sink.taken c.args.out.now) (g.S.Sink.taken c.play_part.new.out) c.tell_end-end.result (g.S.Sink.taken c.tell_end-end.new.out)
    (rest_in (seen c.of-setting.result) c.args.opened (known_by c.args.hooks.now) c.of-setting.ensures.setting
    (λ p. g.S.Sink.taken c.play_part.new.out ≡ g.S.Sink.taken c.args.out.now ++ trace_text p.last.trace) (c.in-Ok.ensures.trace sink_tells))
    (c.tell_end-end.ensures.does files_tell sink_tells p
    (rest_in (seen c.of-setting.result) c.args.opened (known_by c.args.hooks.now) c.of-setting.ensures.setting (λ p. IsEnding c.in-Ok.played p c.in-Ok.world.world) c.in-Ok.ensures.ending))

pub returns-in-Ok-clause-counts : goal.returns-in-Ok-clause-counts
returns-in-Ok-clause-counts g c =
    let counts = g.F.Files.counts c.args.files.now in
    counted_on c.tell_end-end.result (Counted counts (g.S.Sink.faults c.args.out.now)) (Counted counts (g.S.Sink.faults c.play_part.new.out))
    (Counted (g.F.Files.counts c.tell_end-end.new.files) (g.S.Sink.faults c.tell_end-end.new.out)) (c.in-Ok.ensures.counts counts) c.tell_end-end.ensures.counts
