use Rattle.nss_lexer.proofs.StringBytes.{values_are_bytes}
use Rattle.nss_lexer.proofs.laws.values_are_bytes.Goals as goal

pub returns : goal.returns
returns c = record { bytes = values_are_bytes }
