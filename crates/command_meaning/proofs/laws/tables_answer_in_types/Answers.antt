use Rattle.command_meaning.proofs.Answers.{tables_answer_in_types}
use Rattle.command_meaning.proofs.laws.tables_answer_in_types.Goals as goal

pub returns : goal.returns
returns c = record { typed = tables_answer_in_types c.answers_have_types.ensures.typed c.tables_type_execute_script.ensures.typed }
