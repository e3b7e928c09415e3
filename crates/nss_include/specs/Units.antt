-- The unit of a script: the tokens of its file, with each directive replaced by the tokens of the
-- file that it names, at the first mention, and by nothing later.
use Rattle.std.specs.Prelude.{◌≡◌, ◌≢◌, ℕ, ◌+◌, ◌≤◌, Bool, true, false, nat_lt, nat_le, if◌then◌else◌, List, [], ◌∷◌, ◌++◌, length, take, bytes_eq, Option, Some, None}
use Rattle.std.specs.List.{list_any, AllByRecursion}
use Rattle.nwq_value.specs.Limits.{file_limit, text_limit, token_limit}
use Rattle.nss_lexer.specs.Splitting.{Lexeme}
use Rattle.nss_include.specs.declared.fault.GatherFault.{GatherFault}
use Rattle.nss_include.specs.declared.fault.GatherFault.TheVariants.{Missing, Long, Bad, Tokens, Include}
use Rattle.nss_include.specs.declared.file.Source.{Source}
use Rattle.nss_include.specs.Names.{file_name, spot_in}
use Rattle.nss_include.specs.Pieces.{Piece, Token, Directive, BadDirective, BadByte, HasPieces}

-- what is under each name
abbrev pub Lookup : Type 0
Lookup = List ℕ → Option (List ℕ)

-- what keeps a file with this content, or with none, from being read
abbrev pub reading_fault : List ℕ → Option (List ℕ) → Option GatherFault
reading_fault name None = Some (Missing (take text_limit name))
reading_fault name (Some bytes) = if nat_le (length bytes) file_limit then None else Some
    (Long (take text_limit name))

-- a file of this name is in the unit
unfoldable pub is_among : List Source → List ℕ → Bool
is_among files name = list_any (λ f. bytes_eq f.name name) files

-- no two files have one name
abbrev pub HaveDistinctNames : List Source → Type 0
HaveDistinctNames [] = Unit {0}
HaveDistinctNames (file ∷ files) = AllByRecursion (λ other. other.name ≢ file.name) files
    × HaveDistinctNames files

-- the source with which the unit's files grow
abbrev pub source : List ℕ → List ℕ → Source
source name bytes = record { name = name; bytes = bytes }

-- the files of a unit so far, and how many tokens were counted, a directive being three
pub record Held : Type 0 where
  pub files : List Source
  pub count : ℕ

abbrev pub with_token : Held → Held
with_token held = record held { count = held.count + 1 }

abbrev pub with_directive : Held → Held
with_directive held = record held { count = held.count + 3 }

abbrev pub with_file : Held → List ℕ → List ℕ → Held
with_file held name bytes = record {
  files = held.files ++ source name bytes ∷ [];
  count = held.count + 3;
}

-- What a directive with its `#` there fails with: the count of tokens comes first, and then a file
-- that is not in the unit yet is read.
abbrev pub include_fault : Lookup → Held → Source → ℕ → List ℕ → Option GatherFault
include_fault lookup held file hash name =
    if nat_lt token_limit (held.count + 3) then Some (Tokens (spot_in file hash))
    else if is_among held.files name then None else reading_fault name (lookup name)

-- what a piece of a file fails with, if it does
abbrev pub piece_fault : Lookup → Held → Source → Piece → Option GatherFault
piece_fault lookup held file (Token t) = if nat_lt held.count token_limit then None else Some
    (Tokens (spot_in file t.start))
piece_fault lookup held file (Directive hash name) = include_fault lookup held file hash
    (file_name name)
piece_fault lookup held file (BadDirective hash) = Some (Include (spot_in file hash))
piece_fault lookup held file (BadByte place) = Some (Bad (spot_in file place))

-- From what is held before, these pieces of a file come to these tokens and to what is held after
-- them: all of them, or those up to the first fault.
pub data Unfolds (lookup : Lookup) : Source → List Piece → Held → List Lexeme → Held
    → Option GatherFault → Type 0 where
  ends : (file : Source) (held : Held) → Unfolds lookup file [] held [] held None
  fails : (file : Source) (piece : Piece) (more : List Piece) (held : Held) (fault : GatherFault)
      → piece_fault lookup held file piece ≡ Some fault
      → Unfolds lookup file (piece ∷ more) held [] held (Some fault)
  gives : (file : Source) (t : Lexeme) (more : List Piece) (held : Held) (tokens : List Lexeme)
      (after : Held) (ending : Option GatherFault)
      → piece_fault lookup held file (Token t) ≡ None
      → Unfolds lookup file more (with_token held) tokens after ending
      → Unfolds lookup file (Token t ∷ more) held (t ∷ tokens) after ending
  again : (file : Source) (hash : ℕ) (name : List ℕ) (more : List Piece) (held : Held)
      (tokens : List Lexeme) (after : Held)
      (ending : Option GatherFault)
      → piece_fault lookup held file (Directive hash name) ≡ None
      → is_among held.files (file_name name) ≡ true
      → Unfolds lookup file more (with_directive held) tokens after ending
      → Unfolds lookup file (Directive hash name ∷ more) held tokens after ending
  breaks_off : (file : Source) (hash : ℕ) (name : List ℕ) (more : List Piece) (held : Held)
      (bytes : List ℕ) (inner : List Piece)
      (tokens : List Lexeme) (after : Held) (fault : GatherFault)
      → piece_fault lookup held file (Directive hash name) ≡ None
      → is_among held.files (file_name name) ≡ false
      → lookup (file_name name) ≡ Some bytes → HasPieces bytes (length held.files) 0 inner
      → Unfolds lookup (source (file_name name) bytes) inner
      (with_file held (file_name name) bytes) tokens after (Some fault)
      → Unfolds lookup file (Directive hash name ∷ more) held tokens after (Some fault)
  includes : (file : Source) (hash : ℕ) (name : List ℕ) (more : List Piece) (held : Held)
      (bytes : List ℕ) (inner : List Piece)
      (first : List Lexeme) (between : Held) (tokens : List Lexeme) (after : Held)
      (ending : Option GatherFault)
      → piece_fault lookup held file (Directive hash name) ≡ None
      → is_among held.files (file_name name) ≡ false
      → lookup (file_name name) ≡ Some bytes → HasPieces bytes (length held.files) 0 inner
      → Unfolds lookup (source (file_name name) bytes) inner
      (with_file held (file_name name) bytes) first between None
      → Unfolds lookup file more between tokens after ending
      → Unfolds lookup file (Directive hash name ∷ more) held (first ++ tokens) after ending

-- what is held where the script alone was read
abbrev pub script_alone : List ℕ → List ℕ → Held
script_alone name bytes = record { files = source name bytes ∷ []; count = 0 }

-- The unit of a script has these tokens and files, or its tokens and files up to its first fault.
pub data IsUnit (lookup : Lookup) (script : List ℕ) : List Lexeme → List Source → Option GatherFault
    → Type 0 where
  unread : (fault : GatherFault)
      → reading_fault (file_name script) (lookup (file_name script)) ≡ Some fault
      → IsUnit lookup script [] [] (Some fault)
  is_read : (bytes : List ℕ) (all : List Piece) (tokens : List Lexeme) (after : Held)
      (ending : Option GatherFault)
      → lookup (file_name script) ≡ Some bytes → length bytes ≤ file_limit → HasPieces bytes 0 0 all
      → Unfolds lookup (source (file_name script) bytes) all
      (script_alone (file_name script) bytes) tokens after ending
      → IsUnit lookup script tokens after.files ending

-- a script has one unit, or one first fault
abbrev pub OneUnit : Type 0
OneUnit = (lookup : Lookup) (script : List ℕ) (ts us : List Lexeme) (fs gs : List Source)
    (x y : Option GatherFault)
    → IsUnit lookup script ts fs x → IsUnit lookup script us gs y → (ts ≡ us) × (fs ≡ gs) × (x ≡ y)
