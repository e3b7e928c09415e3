use Rattle.engine_table.proofs.Lines.{clear_lines_are_admissible}
use Rattle.engine_table.proofs.laws.clear_lines_are_admissible.Goals as goal

pub returns : goal.returns
returns c = record { admissible = clear_lines_are_admissible }
