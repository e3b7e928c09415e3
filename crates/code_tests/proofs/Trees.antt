-- The trees that the tests make are small.
use Rattle.std.proofs.Common.{◌≤◌, List, length, ◌∙◌, sym, subst}
use Rattle.std.proofs.lemmas.List.{length-map}
use Rattle.nwq_value.specs.Limits.{token_limit}
use Rattle.nss_lexer.specs.declared.token.Token.{Token}
use Rattle.nss_symbols.specs.Tokens.{symbol_of, symbols_of}
use Rattle.nss_tree.specs.Source.{SourceTree}
use Rattle.nss_parser.specs.Sentence.{Parses}

-- a tree has no more nodes than its unit has tokens
pub tree_few : (tokens : List Token) (u : SourceTree) → Parses (symbols_of tokens) u → length tokens ≤ token_limit → u.count ≤ token_limit
tree_few tokens u h few = subst (λ n. n ≤ token_limit) (sym (h.count ∙ length-map tokens symbol_of)) few
