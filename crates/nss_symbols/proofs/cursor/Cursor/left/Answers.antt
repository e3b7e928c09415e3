use Rattle.nss_symbols.proofs.CursorLemmas.{left_of}
use Rattle.nss_symbols.proofs.cursor.Cursor.left.Goals as goal

pub returns : goal.returns
returns c = record { count = left_of c.self.inside.number c.self.inside.ahead.now c.args.self.now c.self.view_is }
