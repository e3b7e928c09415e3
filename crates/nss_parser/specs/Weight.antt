-- How heavy the tree of a list of tokens is.
use Rattle.std.specs.Prelude.{◌<◌, ◌≤◌, List, length}
use Rattle.std.specs.List.{AllByRecursion}
use Rattle.nss_tree.specs.Source.{SourceTree}
use Rattle.nss_tree.specs.Counts.{bodies_of, in_all, structs_of, variables_of}
use Rattle.nss_tree.specs.Places.{places}
use Rattle.nss_symbols.specs.Symbols.{Symbol}
use Rattle.nss_parser.specs.Sentence.{Parses}

-- The tree has at most as many nodes, variables, structs and bodies as the unit has tokens, and
-- each node's token is one of the unit's.
pub record IsWithinTokens (x : SourceTree) : Type 0 where
  pub nodes : length (places x) ≤ x.count
  pub variables : in_all variables_of x.items ≤ x.count
  pub structs : in_all structs_of x.items ≤ x.count
  pub bodies : in_all bodies_of x.items ≤ x.count
  pub tokens : AllByRecursion (λ n. n < x.count) (places x)

abbrev pub EachTreeWithinTokens : Type 0
EachTreeWithinTokens = (tokens : List Symbol) (x : SourceTree) → Parses tokens x → IsWithinTokens x
