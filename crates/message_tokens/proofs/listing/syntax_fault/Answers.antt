use Rattle.message_tokens.proofs.GoingOn.{tree_no_place}
use Rattle.message_tokens.proofs.listing.syntax_fault.Goals as goal

pub returns-in-Ok-clause-none : goal.returns-in-Ok-clause-none
returns-in-Ok-clause-none c = tree_no_place _ _ c.in-Ok.ensures.tree
