-- Reading of a whole unit.
use Rattle.std.specs.Prelude.{◌≡◌, ℕ, List, false, length}
use Rattle.nss_tree.specs.Source.{SourceItems, SourceStmts}
use Rattle.nss_symbols.specs.Outcome.{Parser, Got}
use Rattle.nss_symbols.specs.Symbols.{Symbol, Numbered, numbered_from}
use Rattle.nss_parser.specs.ReadStatement.{entries, statement}
use Rattle.nss_parser.specs.ReadUnit.{items}
use Rattle.nss_parser.specs.Sentence.{Parses}

-- the rest of a function's body, after its `{`
abbrev pub body_rest : ℕ → Parser SourceStmts
body_rest d = entries d (statement d) false

unfoldable pub unit : ℕ → Parser SourceItems
unit d = items d (body_rest d)

-- what reading gives, within any nest, is the tokens' tree
abbrev pub ReadingGivesTree : Type 0
ReadingGivesTree =
    (tokens : List Symbol) (d : ℕ) (x : SourceItems) (rest : List Numbered)
    → unit d (numbered_from 0 tokens) ≡ Got x rest
    → Parses tokens (record { items = x; count = length tokens })
