use Rattle.hook_table.proofs.AnswerLemmas.{are_cell_answers}
use Rattle.hook_table.proofs.functions.cell_call.Goals as goal

pub returns : goal.returns
returns c = record { answer = are_cell_answers c.args.tables.now c.args.args.now c.cell_value.result c.cell_value.ensures.value }
