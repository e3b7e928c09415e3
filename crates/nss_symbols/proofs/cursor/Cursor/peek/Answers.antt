use Rattle.nss_symbols.proofs.CursorLemmas.{first_none, first_some}
use Rattle.nss_symbols.proofs.cursor.Cursor.peek.Goals as goal

pub returns-in-empty-clause-same : goal.returns-in-empty-clause-same
returns-in-empty-clause-same c = first_none c.self.inside.number c.self.inside.ahead.now c.args.self.now c.self.view_is c.in-empty.len_below

pub returns-in-len1-up-clause-same : goal.returns-in-len1-up-clause-same
returns-in-len1-up-clause-same c = first_some c.self.inside.number c.self.inside.ahead.now c.args.self.now _ c.self.view_is c.in-len1-up.len_at_least
