use Rattle.std.proofs.Common.{subst}
use Rattle.hook_table.specs.InHooks.{known_by}
use Rattle.world_core.specs.Calls.{cells_of}
use Rattle.command_work.specs.Counts.{Counted, Tallies}
use Rattle.command_work.specs.Parts.{then_ok, then_err}
use Rattle.command_files.specs.Checks.{loaded_in}
use Rattle.command_plays.specs.Scripts.{plays_code, plays_file}
use Rattle.command_run.proofs.play.play_file.Goals as goal

pub play_code-requires-clause-meets : goal.play_code-requires-clause-meets
play_code-requires-clause-meets g c = c.in-Ok.ensures.kept.meets

pub returns-in-Err-clause-does : goal.returns-in-Err-clause-does
unfolding plays_file
returns-in-Err-clause-does g c = λ tells d.
    then_err (loaded_in c.args.table.now c.args.file.now c.args.bytes.items)
    (plays_code (cells_of (known_by c.args.hooks.now)) c.args.table.now c.args.name.now) c.in-Err.status d d
    (g.S.Sink.taken c.args.out.now) (g.S.Sink.taken c.load_checked.new.out) (c.in-Err.ensures.does tells d)

pub returns-in-Ok-clause-does : goal.returns-in-Ok-clause-does
unfolding plays_file
returns-in-Ok-clause-does g c = λ tells d.
    then_ok (loaded_in c.args.table.now c.args.file.now c.args.bytes.items)
    (plays_code (cells_of (known_by c.args.hooks.now)) c.args.table.now c.args.name.now) c.in-Ok.code.code d d d
    (g.S.Sink.taken c.args.out.now) (g.S.Sink.taken c.load_checked.new.out) (g.S.Sink.taken c.play_code.new.out) c.play_code.result
    (c.in-Ok.ensures.does tells d) (c.play_code.ensures.does tells d)

pub returns-in-Ok-clause-counts : goal.returns-in-Ok-clause-counts
returns-in-Ok-clause-counts g c = λ counts.
    subst (λ before. Tallies c.play_code.result before (Counted counts (g.S.Sink.faults c.play_code.new.out)))
    (c.in-Ok.ensures.counts counts) (c.play_code.ensures.counts counts)
