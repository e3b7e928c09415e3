use Rattle.nwq_top.proofs.StructBudget.{few_structs_in}
use Rattle.nwq_top.proofs.word_laws.scripts_have_few_structs.Goals as goal

pub returns : goal.returns
returns c = record { few = few_structs_in }
