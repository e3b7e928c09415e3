-- The unit of the script that a command names, with its tree, and where its tokens stand.
use Rattle.std.specs.Prelude.{ℕ, List, [], length, map, get_or, slice_get, Option, Some, None}
use Rattle.nwq_outside.specs.Outside as outside
use Rattle.nss_lexer.specs.Splitting.{Lexeme}
use Rattle.nss_tree.specs.Source.{SourceTree}
use Rattle.nss_symbols.specs.Symbols.{Symbol}
use Rattle.nss_symbols.specs.Tokens.{of_kind}
use Rattle.nss_symbols.specs.Nest.{IsFirstOver, IsWithinNest}
use Rattle.nss_parser.specs.Sentence.{IsPlace, Parses}
use Rattle.nss_include.specs.declared.fault.GatherFault.TheVariants as fault
use Rattle.nss_include.specs.declared.fault.Spot.{Spot}
use Rattle.nss_include.specs.declared.file.Source.{Source}
use Rattle.nss_include.specs.Names.{spot_in}
use Rattle.nss_include.specs.Units.{Lookup, IsUnit, source}
use Rattle.command_work.specs.declared.cause.Cause.{Cause}
use Rattle.command_work.specs.declared.cause.Cause.TheVariants as cause
use Rattle.command_work.specs.Refusal.{Refusal, Absent, TooLong, At}
use Rattle.command_work.specs.Work.{Work, Gives, Refused, Finds}

-- a script's unit, with its tree
pub record PlainScript : Type 0 where
  pub tokens : List Lexeme
  pub files : List Source
  pub tree : SourceTree

-- what the grammar sees of tokens
abbrev pub grammar_symbols : List Lexeme → List Symbol
grammar_symbols tokens = map (λ (t : Lexeme). of_kind t.kind t.text) tokens

-- ---- places

-- a file of a unit by its number; every token of a unit stands in one
abbrev pub file_at : List Source → ℕ → Source
file_at files n = get_or files n (source [] [])

-- where a token stands in its own file; where there is none, the end of the script's file
abbrev pub spot_of : List Source → Option Lexeme → Spot
spot_of files (Some t) = spot_in (file_at files t.file) t.start
spot_of files None = spot_in (file_at files 0) (length (file_at files 0).bytes)

-- the place of token i, or of the end where i is the count of the tokens
abbrev pub spot_at : List Source → List Lexeme → ℕ → Spot
spot_at files tokens i = spot_of files (slice_get tokens i)

abbrev pub at_spot : Cause → Spot → Refusal
at_spot why spot = At spot.name spot.line spot.at why

-- the refusal of a script at its token i
abbrev pub at_token : PlainScript → ℕ → Cause → Refusal
at_token script i why = at_spot why (spot_at script.files script.tokens i)

-- ---- what comes of a script

-- its unit with its tree; a file of the unit that isn't there or is too long; or why the unit is
-- refused, and where
pub data UnitFate : Type 0 where
  Whole : (script : PlainScript) → UnitFate
  Lacks : (name : List ℕ) → UnitFate
  Exceeds : (name : List ℕ) → UnitFate
  Faulty : (why : Cause) (spot : Spot) → UnitFate

-- The faults of the unit itself come in the order of its tokens. Of a whole unit the first token
-- whose nest passes the limit comes first, also where a fault of syntax stands before it; then the
-- exact place at which there is no tree.
pub data IsUnitFate (lookup : Lookup) (name : List ℕ) : UnitFate → Type 0 where
  lacks : (tokens : List Lexeme) (files : List Source) (file : List ℕ)
      → IsUnit lookup name tokens files (Some (fault.Missing file))
      → IsUnitFate lookup name (Lacks file)
  exceeds : (tokens : List Lexeme) (files : List Source) (file : List ℕ)
      → IsUnit lookup name tokens files (Some (fault.Long file))
      → IsUnitFate lookup name (Exceeds file)
  bad : (tokens : List Lexeme) (files : List Source) (spot : Spot)
      → IsUnit lookup name tokens files (Some (fault.Bad spot))
      → IsUnitFate lookup name (Faulty cause.Bad spot)
  many : (tokens : List Lexeme) (files : List Source) (spot : Spot)
      → IsUnit lookup name tokens files (Some (fault.Tokens spot))
      → IsUnitFate lookup name (Faulty cause.Tokens spot)
  include : (tokens : List Lexeme) (files : List Source) (spot : Spot)
      → IsUnit lookup name tokens files (Some (fault.Include spot))
      → IsUnitFate lookup name (Faulty cause.Include spot)
  nested : (tokens : List Lexeme) (files : List Source) (i : ℕ)
      → IsUnit lookup name tokens files None
      → IsFirstOver (grammar_symbols tokens) i
      → IsUnitFate lookup name (Faulty cause.Nested (spot_at files tokens i))
  syntax : (tokens : List Lexeme) (files : List Source) (i : ℕ)
      → IsUnit lookup name tokens files None
      → IsWithinNest (grammar_symbols tokens) → IsPlace (grammar_symbols tokens) i
      → IsUnitFate lookup name (Faulty cause.Syntax (spot_at files tokens i))
  whole : (script : PlainScript) → IsUnit lookup name script.tokens script.files None
      → IsWithinNest (grammar_symbols script.tokens)
      → Parses (grammar_symbols script.tokens) script.tree → IsUnitFate lookup name (Whole script)

abbrev pub unit_by : UnitFate → Work PlainScript
unit_by (Whole script) = Gives script
unit_by (Lacks file) = Refused (Absent file)
unit_by (Exceeds file) = Refused (TooLong file)
unit_by (Faulty why spot) = Refused (at_spot why spot)

-- the unit of the script of this name, with its tree
unfoldable pub unit_of : List ℕ → Work PlainScript
unit_of name = Finds (λ (c : outside.Contents) fate. IsUnitFate
    (outside.content c) name fate) unit_by
