use Rattle.std.proofs.Common.{◌∙◌}
use Rattle.hook_table.specs.InHooks.{known_by}
use Rattle.world_core.specs.Calls.{cells_of}
use Rattle.command_compile.specs.Files.{code_name}
use Rattle.command_run.proofs.RunLemmas.{same_play}
use Rattle.command_run.proofs.runs.play_compiled.Goals as goal

pub returns-in-Ok-clause-does : goal.returns-in-Ok-clause-does
returns-in-Ok-clause-does g c = λ tells d.
    same_play (cells_of (known_by c.args.hooks.now)) c.args.table.now c.as_bytes.result.now c.args.script.now
    c.as_bytes-in-Ok.result.now (code_name c.args.script.now) c.into_vec.result.items c.args.bytes c.play_file.result d
    (g.S.Sink.taken c.args.out.now) (g.S.Sink.taken c.play_file.new.out) c.as_bytes.ensures.value (c.as_bytes-in-Ok.ensures.value ∙ c.in-Ok.ensures.named)
    c.into_vec.ensures.items (c.play_file.ensures.does tells d)
