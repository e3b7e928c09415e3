use Rattle.hook_table.proofs.AnswerLemmas.{are_answers}
use Rattle.hook_table.proofs.functions.pure_call.Goals as goal

pub returns : goal.returns
returns c =
    record { answer = are_answers c.args.n c.args.args.now c.value_of.result c.requires.number c.value_of.ensures.value }
