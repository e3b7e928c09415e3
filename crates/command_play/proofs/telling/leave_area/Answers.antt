use Rattle.std.proofs.Common.{refl}
use Rattle.area_back.specs.Back.{tree_back}
use Rattle.command_work.specs.Counts.{Counted}
use Rattle.command_play.proofs.TellLemmas.{left_told, not_left, counted_on}
use Rattle.command_play.proofs.telling.leave_area.Goals as goal

pub returns-in-Err-clause-does : goal.returns-in-Err-clause-does
returns-in-Err-clause-does g c = λ files_tell sink_tells.
    not_left c.args.to.now (tree_back c.args.area) c.args.text.items c.in-Err.status (g.F.Files.contents c.args.files.now) (g.F.Files.contents c.write_area.new.files)
    (g.S.Sink.taken c.args.out.now) (g.S.Sink.taken c.write_area.new.out) (c.in-Err.ensures.does files_tell sink_tells)

pub returns-in-Ok-clause-does : goal.returns-in-Ok-clause-does
returns-in-Ok-clause-does g c = λ files_tell sink_tells.
    left_told c.args.to.now (tree_back c.args.area) c.args.text.items c.in-Ok.field-0 c.put.result (g.F.Files.contents c.args.files.now)
    (g.F.Files.contents c.write_area.new.files) (g.S.Sink.taken c.args.out.now) (g.S.Sink.taken c.write_area.new.out) (g.S.Sink.taken c.put.new.out)
    (c.in-Ok.ensures.does files_tell sink_tells) (c.put.ensures.does sink_tells c.args.text.items refl)

pub returns-in-Ok-clause-counts : goal.returns-in-Ok-clause-counts
returns-in-Ok-clause-counts g c =
    let counts = g.F.Files.counts c.write_area.new.files in
    counted_on c.put.result
    (Counted (g.F.Files.counts c.args.files.now) (g.S.Sink.faults c.args.out.now))
    (Counted counts (g.S.Sink.faults c.write_area.new.out)) (Counted counts (g.S.Sink.faults c.put.new.out))
    c.in-Ok.ensures.counts (c.put.ensures.counts counts)
