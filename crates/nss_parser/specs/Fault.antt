-- Why a list of tokens is refused.
use Rattle.std.specs.Prelude.{◌≡◌, ◌≢◌, List}
use Rattle.nss_tree.specs.Source.{SourceTree}
use Rattle.nss_parser.specs.declared.fault.ParseFault.{ParseFault}
use Rattle.nss_parser.specs.declared.fault.ParseFault.TheVariants.{Nested, Syntax, NoMemory}
use Rattle.nss_symbols.specs.Symbols.{Symbol}
use Rattle.nss_symbols.specs.Nest.{IsFirstOver, IsWithinNest}
use Rattle.nss_parser.specs.Sentence.{IsPlace, Parses}

-- The first token whose nest passes the limit stands before a fault of syntax, also where the
-- latter comes earlier.
abbrev pub Refuses : List Symbol → ParseFault → Type 0
Refuses tokens (Nested i) = IsFirstOver tokens i
Refuses tokens (Syntax i) = IsWithinNest tokens × IsPlace tokens i
Refuses tokens NoMemory = Unit {0}

-- the same for tokens whose nest was looked at before
abbrev pub Misreads : List Symbol → ParseFault → Type 0
Misreads tokens (Nested i) = ⊥
Misreads tokens (Syntax i) = IsPlace tokens i
Misreads tokens NoMemory = Unit {0}

-- A list of tokens is refused for one reason at most, want of memory aside.
abbrev pub OneRefusal : Type 0
OneRefusal = (tokens : List Symbol) (one other : ParseFault) → Refuses tokens one
    → Refuses tokens other → one ≢ NoMemory → other ≢ NoMemory → one ≡ other

-- A list of tokens with a tree and within the nest is refused only for want of memory.
abbrev pub NoRefusalOfTrees : Type 0
NoRefusalOfTrees = (tokens : List Symbol) (x : SourceTree) (fault : ParseFault) → Parses tokens x
    → IsWithinNest tokens → Refuses tokens fault → fault ≡ NoMemory
