use Rattle.std.proofs.Common.{◌∙◌, ◌+◌, sym, ap, List, map}
use Rattle.nss_symbols.specs.declared.symbol.Seen.{Seen}
use Rattle.nss_symbols.specs.Symbols.{numbered_from}
use Rattle.nss_symbols.specs.Outcome.{Got}
use Rattle.nss_symbols.specs.Cursor.{plain_symbol}
use Rattle.nss_symbols.proofs.CursorLemmas.{take_none, take_some}
use Rattle.nss_symbols.proofs.cursor.Cursor.take.Goals as goal

pub returns-in-empty : goal.returns-in-empty
returns-in-empty c = record { read = take_none c.self.inside.number c.self.inside.ahead.now c.args.self.now c.self.view_is c.in-empty.len_below }

pub returns-in-len1-up : goal.returns-in-len1-up
returns-in-len1-up c = record { read = take_some c.self.inside.number c.self.inside.ahead.now c.args.self.now c.self.view_is c.in-len1-up.len_at_least ∙ ap (λ (l : List Seen). Got c.self.inside.number (numbered_from (c.self.inside.number + 1) (map plain_symbol l))) (sym c.tail-self-inside.ensures) }
