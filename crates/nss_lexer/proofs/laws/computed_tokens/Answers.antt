use Rattle.nss_lexer.proofs.ComputedLaws.{computed_are_tokens}
use Rattle.nss_lexer.proofs.laws.computed_tokens.Goals as goal

pub returns : goal.returns
returns c = record { tokens = computed_are_tokens }
