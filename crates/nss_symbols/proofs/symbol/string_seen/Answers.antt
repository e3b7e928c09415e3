use Rattle.nss_symbols.proofs.LiteralLemmas.{text_literal}
use Rattle.nss_symbols.proofs.symbol.string_seen.Goals as goal

pub returns-clause-literal : goal.returns-clause-literal
returns-clause-literal c = text_literal c.values_are_bytes.ensures.bytes c.args.text.now c.requires c.are_bytes.ensures
