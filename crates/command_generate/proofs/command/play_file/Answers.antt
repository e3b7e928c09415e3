use Rattle.hook_table.specs.InHooks.{known_by}
use Rattle.world_core.specs.Calls.{cells_of}
use Rattle.command_work.specs.Counts.{Counted}
use Rattle.command_generate.proofs.CommandLemmas.{checked_then, counted_on}
use Rattle.command_generate.proofs.command.play_file.Goals as goal

pub play_code-requires-clause-meets : goal.play_code-requires-clause-meets
play_code-requires-clause-meets g c = c.in-Ok.ensures.kept.meets

pub returns-in-Ok-clause-does : goal.returns-in-Ok-clause-does
returns-in-Ok-clause-does g c = λ tells d.
    checked_then (cells_of (known_by c.args.hooks.now)) c.args.number c.play_code.result d (g.S.Sink.taken c.args.out.now)
    (g.S.Sink.taken c.load_checked.new.out) (g.S.Sink.taken c.play_code.new.out) c.args.table.now c.args.bytes.items c.in-Ok.code.code c.requires.made.built_in
    (c.in-Ok.ensures.does tells d) (c.play_code.ensures.does tells d)

pub returns-in-Ok-clause-counts : goal.returns-in-Ok-clause-counts
returns-in-Ok-clause-counts g c = λ counts.
    counted_on c.play_code.result (Counted counts (g.S.Sink.faults c.args.out.now))
    (Counted counts (g.S.Sink.faults c.load_checked.new.out)) (Counted counts (g.S.Sink.faults c.play_code.new.out))
    (c.in-Ok.ensures.counts counts) (c.play_code.ensures.counts counts)
