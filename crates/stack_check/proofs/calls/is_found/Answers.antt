use Rattle.std.proofs.Common.{sym}
use Rattle.stack_check.proofs.calls.is_found.Goals as goal

pub is_behind-requires-clause-found : goal.is_behind-requires-clause-found
is_behind-requires-clause-found c = c.requires.inside.rows c.args.from.trial c.args.next c.in-Some.found (sym c.in-Some.ensures.row)
