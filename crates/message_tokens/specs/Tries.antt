-- What is tried, as code holds it. Private clauses and proofs alone need this.
use Rattle.std.specs.Prelude.{ℕ, List}
use Rattle.nss_lexer.specs.declared.token.TokenKind.{TokenKind}
use Rattle.message_tokens.specs.declared.listing.Tried.{Tried}

abbrev pub spelled : Tried → TokenKind × List ℕ
spelled t = (t.kind, t.text.now)
