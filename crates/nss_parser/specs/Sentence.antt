-- What it is for a list of tokens to have a tree, and the exact place where none is possible any
-- more.
use Rattle.std.specs.Prelude.{◌≡◌, ℕ, ◌+◌, ◌<◌, ◌≤◌, ◌⊎◌, List, ◌++◌, length, take}
use Rattle.nss_tree.specs.Source.{SourceTree}
use Rattle.nss_symbols.specs.Symbols.{Symbol, numbered_from}
use Rattle.nss_symbols.specs.Tokens.{AreSpelled}
use Rattle.nss_parser.specs.Unit.{Items}

-- The tokens have this tree: its items spell them, nodes have the numbers of their tokens, and the
-- tree has their count.
pub record Parses (tokens : List Symbol) (x : SourceTree) : Type 0 where
  pub items : Items x.items (numbered_from 0 tokens)
  pub count : x.count ≡ length tokens

-- Some further tokens make a unit of these; they are such that can be spelled.
pub record IsPrefix (tokens : List Symbol) : Type 0 where
  pub more : List Symbol
  pub spelled : AreSpelled more
  pub tree : SourceTree
  pub parses : Parses (tokens ++ more) tree

-- Nothing makes a unit of these, whatever follows them.
abbrev pub IsDead : List Symbol → Type 0
IsDead tokens = (more : List Symbol) (x : SourceTree) → Parses (tokens ++ more) x → ⊥

-- The tokens have no tree, and i is the place where that shows: those before it are a prefix of a
-- unit, and those through it are none. Where i is the count, all are such a prefix.
pub record IsPlace (tokens : List Symbol) (i : ℕ) : Type 0 where
  pub within : i ≤ length tokens
  pub prefix : IsPrefix (take i tokens)
  pub dead : i < length tokens → IsDead (take (i + 1) tokens)
  pub none : (x : SourceTree) → Parses tokens x → ⊥

-- a list of tokens has at most one tree
abbrev pub OneTree : Type 0
OneTree = (tokens : List Symbol) (x y : SourceTree) → Parses tokens x → Parses tokens y → x ≡ y

-- it has a tree, or a place
abbrev pub TreeOrPlace : Type 0
TreeOrPlace = (tokens : List Symbol)
    → ((x : SourceTree) × Parses tokens x) ⊎ ((i : ℕ) × IsPlace tokens i)
