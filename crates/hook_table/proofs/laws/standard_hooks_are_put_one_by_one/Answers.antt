use Rattle.hook_table.proofs.ServeLemmas.{first_grow, last_completes}
use Rattle.hook_table.proofs.laws.standard_hooks_are_put_one_by_one.Goals as goal

pub returns : goal.returns
returns c = record { grow = first_grow; complete = last_completes }
