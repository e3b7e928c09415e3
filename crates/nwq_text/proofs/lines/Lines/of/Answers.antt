use Rattle.nwq_text.specs.Laws.{lines_few}
use Rattle.nwq_text.proofs.lines.Lines.of.Goals as goal

pub returns-clause-few : goal.returns-clause-few
returns-clause-few c = lines_few c.args.text.now
