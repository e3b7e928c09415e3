use Rattle.std.proofs.Common.{ap, ◌∙◌}
use Rattle.hook_table.specs.InHooks.{known_by}
use Rattle.world_core.specs.Calls.{cells_of}
use Rattle.play_generator.specs.Made.{Play}
use Rattle.command_generate.proofs.CommandLemmas.{compiled_then}
use Rattle.command_generate.proofs.SourceLemmas.{found_does}
use Rattle.command_generate.proofs.command.play_made.Goals as goal

pub compile_source-requires-clause-source : goal.compile_source-requires-clause-source
compile_source-requires-clause-source g c = record {
  number = c.args.number;
  few = c.requires.made.few;
  is = c.source.ensures.source ∙ ap (λ (m : Play). m.source) c.requires.made.is;
}

pub returns-in-Ok-clause-does : goal.returns-in-Ok-clause-does
returns-in-Ok-clause-does g c = λ tells d.
    compiled_then (cells_of (known_by c.args.hooks.now)) c.args.number c.play_file.result d (g.S.Sink.taken c.args.out.now)
    (g.S.Sink.taken c.args.out.now) (g.S.Sink.taken c.play_file.new.out) c.args.made.now c.source.result.now c.in-Ok.bytes c.into_vec.result.items
    c.requires.made.is c.source.ensures.source c.into_vec.ensures.items (found_does c.source.result.now c.in-Ok.bytes d (g.S.Sink.taken c.args.out.now) c.in-Ok.ensures.file)
    (c.play_file.ensures.does tells d)
