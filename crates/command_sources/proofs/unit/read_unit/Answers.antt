use Rattle.command_sources.specs.Reads.{ReadsUnit, on_ok}
use Rattle.command_sources.proofs.unit.read_unit.Goals as goal

pub returns-in-Ok-clause-once : goal.returns-in-Ok-clause-once
returns-in-Ok-clause-once g c = λ tells.
    on_ok c.parsed.result (ReadsUnit (g.F.Files.contents c.args.files.now) c.args.script.now (g.F.Files.reads c.args.files.now) (g.F.Files.reads c.gather.new.files))
    (record {
      tokens = c.in-Ok.unit.tokens;
      files = c.in-Ok.unit.files;
      unit = c.in-Ok.ensures.told tells;
      distinct = c.in-Ok.ensures.distinct;
      once = c.in-Ok.ensures.once;
    })
