use Rattle.std.proofs.Common.{arith, ap, length}
use Rattle.ncs_emit.specs.Labelled.{program}
use Rattle.ncs_tests.proofs.emitting.read_back.Goals as goal

pub load-requires : goal.load-requires
load-requires c = record {
  size = omega (arith, ap length c.in-Ok.ensures.file, c.size_laws.ensures.sizes.file (program c.args.out.lines), c.in-Ok.ensures.bounded);
}

pub want_of_memory-requires : goal.want_of_memory-requires
want_of_memory-requires c =
    let code = c.finished_is_code.ensures.code _ _ c.sound.ensures.fits c.requires.leads c.requires.closes c.in-Ok.ensures.bounded in
    c.in-Err.ensures.only (program c.args.out.lines) code c.in-Ok.ensures.file

pub returns-in-Ok-load : goal.returns-in-Ok-load
returns-in-Ok-load c =
    let code = c.finished_is_code.ensures.code _ _ c.sound.ensures.fits c.requires.leads c.requires.closes c.in-Ok.ensures.bounded in
    c.in-Ok-load.ensures.only (program c.args.out.lines) code c.in-Ok.ensures.file
