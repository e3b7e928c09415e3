use Rattle.table_2da.proofs.TableLemmas.{second_by}
use Rattle.table_2da.proofs.read.is_second.Goals as goal

pub returns-in-None : goal.returns-in-None
returns-in-None c = record { second = second_by c.args.line.now c.are_blanks.result c.in-None.ensures.rest c.are_blanks.ensures.blanks }
