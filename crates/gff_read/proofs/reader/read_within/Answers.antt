use Rattle.std.proofs.Common.{◌∙◌}
use Rattle.gff_read.proofs.TreeLaws.{read_sound, read_few, stands_read}
use Rattle.gff_read.proofs.reader.read_within.Goals as goal

pub invariant_of-result : goal.invariant_of-result
invariant_of-result c = record { sound = read_sound c.args.view.now c.deref_mut.result.now _ _ (c.deref_mut.ensures.value ∙ c.in_ok-marks.ensures.none) c.in_ok-top.ensures.read }

pub returns-clause-found : goal.returns-clause-found
returns-clause-found c =
    stands_read c.args.view.now c.deref_mut.result.now _ _ c.file_type.result
    (c.deref_mut.ensures.value
    ∙ c.in_ok-marks.ensures.none) c.in_ok-top.ensures.read c.file_type.ensures.is_file c.file_type.ensures.bytes

pub returns-clause-few : goal.returns-clause-few
returns-clause-few c = read_few c.args.view.now c.deref_mut.result.now _ _ (c.deref_mut.ensures.value ∙ c.in_ok-marks.ensures.none) c.in_ok-top.ensures.read c.in_ok-marks.ensures.few
