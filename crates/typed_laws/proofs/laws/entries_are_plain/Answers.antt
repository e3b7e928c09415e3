use Rattle.typed_laws.proofs.Entries.{entries_are_plain}
use Rattle.typed_laws.proofs.laws.entries_are_plain.Goals as goal

pub returns : goal.returns
returns c = record { plain = entries_are_plain c.items_are_right.ensures.typed }
