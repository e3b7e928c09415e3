use Rattle.nss_symbols.proofs.CursorLemmas.{here_none, here_some}
use Rattle.nss_symbols.proofs.cursor.Cursor.here.Goals as goal

pub returns-in-empty : goal.returns-in-empty
returns-in-empty c = record { read = here_none c.self.inside.number c.self.inside.ahead.now c.args.self.now c.self.view_is c.in-empty.len_below }

pub returns-in-len1-up : goal.returns-in-len1-up
returns-in-len1-up c = record { read = here_some c.self.inside.number c.self.inside.ahead.now c.args.self.now c.self.view_is c.in-len1-up.len_at_least }
