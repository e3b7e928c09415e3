use Rattle.engine_table.proofs.Within.{answer_within}
use Rattle.engine_table.proofs.reader.read_header.Goals as goal

pub returns-clause-within : goal.returns-clause-within
returns-clause-within c = answer_within c.args.bytes.now c.read_lines.result c.read_lines.ensures.refused
