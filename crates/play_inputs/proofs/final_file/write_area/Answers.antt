use Rattle.std.proofs.Common.{◌≡◌, Ok, sym, subst}
use Rattle.area_back.specs.Back.{tree_back}
use Rattle.gff_write.specs.File.{written, outcome_of}
use Rattle.play_inputs.proofs.FinalLemmas.{final_does}
use Rattle.play_inputs.proofs.final_file.write_area.Goals as goal

pub returns-in-Ok-write-clause-does : goal.returns-in-Ok-write-clause-does
returns-in-Ok-write-clause-does g c = λ files_tell sink_tells.
    final_does c.args.name.now (tree_back c.args.area) c.as_slice.result.now c.write_file.result (g.F.Files.contents c.args.files.now)
    (g.F.Files.contents c.write_file.new.files) (g.S.Sink.taken c.args.out.now)
    (subst (λ b. outcome_of (written (tree_back c.args.area)) ≡ Ok b) (sym c.as_slice.ensures.value)
    (subst (λ tree. outcome_of (written tree) ≡ Ok c.in-Ok-write.bytes.items) c.in-Ok.ensures.tree c.in-Ok-write.ensures.exact))
    (c.write_file.ensures.does files_tell (g.S.Sink.taken c.args.out.now))
