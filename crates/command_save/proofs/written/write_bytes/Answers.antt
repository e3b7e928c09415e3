use Rattle.std.proofs.Common.{◌≡◌, ℕ, List, IfOk, subst}
use Rattle.command_work.specs.Work.{Finished, puts, writes}
use Rattle.command_work.specs.Parts.{then_ok, puts_does}
use Rattle.command_work.specs.Counts.{Counted}
use Rattle.command_save.specs.Saves.{saved_line}
use Rattle.command_save.proofs.PartLemmas.{counted_on}
use Rattle.command_save.proofs.written.write_bytes.Goals as goal

pub returns-in-Ok-clause-does : goal.returns-in-Ok-clause-does
unfolding Rattle.command_save.specs.Saves.state_told
returns-in-Ok-clause-does g c = λ files_tell sink_tells.
    let line = saved_line c.args.name.now c.args.entries in
    then_ok (writes c.args.name.now c.args.bytes.now) (λ (done : Finished). puts line) tt (g.F.Files.contents c.args.files.now)
    (g.F.Files.contents c.write_file.new.files) (g.F.Files.contents c.write_file.new.files) (g.S.Sink.taken c.args.out.now) (g.S.Sink.taken c.args.out.now)
    (g.S.Sink.taken c.put.new.out) c.put.result (c.in-Ok.ensures.does files_tell (g.S.Sink.taken c.args.out.now))
    (puts_does line c.put.result (g.F.Files.contents c.write_file.new.files) (g.S.Sink.taken c.args.out.now) (g.S.Sink.taken c.put.new.out)
    (c.put.ensures.does sink_tells line (subst (λ (name : List ℕ). IfOk c.saved_line.result (λ t. t.items ≡ saved_line name c.args.entries)) c.as_bytes.ensures.value c.saved_line.ensures.line)))

pub returns-in-Ok-clause-counts : goal.returns-in-Ok-clause-counts
returns-in-Ok-clause-counts g c =
    counted_on c.put.result (Counted (g.F.Files.counts c.args.files.now) (g.S.Sink.faults c.args.out.now))
    (Counted (g.F.Files.counts c.write_file.new.files) (g.S.Sink.faults c.args.out.now))
    (Counted (g.F.Files.counts c.write_file.new.files) (g.S.Sink.faults c.put.new.out)) (c.in-Ok.ensures.counts (g.S.Sink.faults c.args.out.now))
    (c.put.ensures.counts (g.F.Files.counts c.write_file.new.files))
