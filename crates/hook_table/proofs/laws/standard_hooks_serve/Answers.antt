use Rattle.hook_table.proofs.ServeLemmas.{are_the_headers, standard_serve}
use Rattle.hook_table.proofs.laws.standard_hooks_serve.Goals as goal

pub returns : goal.returns
returns c = record { header = are_the_headers; serve = standard_serve }
