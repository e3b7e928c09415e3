-- What the steps of a file come to, with those of the files that it includes. No public contract
-- names this: a unit is proved to be what its pieces come to.
use Rattle.std.specs.Prelude.{◌≡◌, ℕ, ◌+◌, true, false, nat_lt, if◌then◌else◌, List, [], ◌∷◌, ◌++◌, length, slice_get, Option, Some, None}
use Rattle.nwq_value.specs.Limits.{token_limit}
use Rattle.nss_lexer.specs.Splitting.{Lexeme}
use Rattle.nss_include.specs.declared.fault.GatherFault.{GatherFault}
use Rattle.nss_include.specs.declared.fault.GatherFault.TheVariants.{Bad, Tokens, Include}
use Rattle.nss_include.specs.declared.file.Source.{Source}
use Rattle.nss_include.specs.declared.step.Step.{Step}
use Rattle.nss_include.specs.declared.step.Step.TheVariants.{Ends, Breaks, Gives, Mentions, Misses}
use Rattle.nss_include.specs.Names.{file_name, spot_in}
use Rattle.nss_include.specs.Steps.{IsStep, lexeme_in}
use Rattle.nss_include.specs.Units.{Lookup, reading_fault, is_among, source}

-- what an include of this name fails with where so many tokens were counted
abbrev pub include_fault : Lookup → List Source → ℕ → Source → ℕ → List ℕ → Option GatherFault
include_fault lookup files count file at name =
    if nat_lt token_limit (count + 3) then Some (Tokens (spot_in file at))
    else if is_among files name then None else reading_fault name (lookup name)

-- what a step of a file fails with, if it does
abbrev pub step_fault : Lookup → List Source → ℕ → Source → Step → Option GatherFault
step_fault lookup files count file Ends = None
step_fault lookup files count file (Breaks place) = Some (Bad (spot_in file place))
step_fault lookup files count file (Gives span) = if nat_lt count token_limit then None else Some
    (Tokens (spot_in file span.start))
step_fault lookup files count file
    (Mentions at name after) = include_fault lookup files count file at (file_name name)
step_fault lookup files count file (Misses place) = Some (Include (spot_in file place))

-- From a place of a file on, where these files are in the unit and so many tokens were counted, the
-- steps come to these tokens, with the files and the count at their end: up to the file's end, or
-- up to a fault.
pub data Walks (lookup : Lookup) : ℕ → ℕ → List Source → ℕ → List Lexeme → List Source → ℕ
    → Option GatherFault → Type 0 where
  ends : (number at : ℕ) (files : List Source) (count : ℕ) (file : Source)
      → slice_get files number ≡ Some file
      → IsStep file.bytes number at Ends → Walks lookup number at files count [] files count None
  fails : (number at : ℕ) (files : List Source) (count : ℕ) (file : Source) (step : Step)
      (fault : GatherFault)
      → slice_get files number ≡ Some file → IsStep file.bytes number at step
      → step_fault lookup files count file step ≡ Some fault
      → Walks lookup number at files count [] files count (Some fault)
  gives : (number at : ℕ) (files : List Source) (count : ℕ) (file : Source) (span : _)
      (tokens : List Lexeme) (last : List Source) (total : ℕ)
      (ending : Option GatherFault)
      → slice_get files number ≡ Some file → IsStep file.bytes number at (Gives span)
      → step_fault lookup files count file (Gives span) ≡ None
      → Walks lookup number span.end files (count + 1) tokens last total ending
      → Walks lookup number at files count (lexeme_in file.bytes span ∷ tokens) last total ending
  again : (number at : ℕ) (files : List Source) (count : ℕ) (file : Source) (hash : ℕ)
      (name : List ℕ) (after : ℕ)
      (tokens : List Lexeme) (last : List Source) (total : ℕ) (ending : Option GatherFault)
      → slice_get files number ≡ Some file → IsStep file.bytes number at (Mentions hash name after)
      → step_fault lookup files count file (Mentions hash name after) ≡ None
      → is_among files (file_name name) ≡ true
      → Walks lookup number after files (count + 3) tokens last total ending
      → Walks lookup number at files count tokens last total ending
  breaks_off : (number at : ℕ) (files : List Source) (count : ℕ) (file : Source) (hash : ℕ)
      (name : List ℕ) (after : ℕ) (bytes : List ℕ)
      (tokens : List Lexeme) (last : List Source) (total : ℕ) (fault : GatherFault)
      → slice_get files number ≡ Some file → IsStep file.bytes number at (Mentions hash name after)
      → step_fault lookup files count file (Mentions hash name after) ≡ None
      → is_among files (file_name name) ≡ false
      → lookup (file_name name) ≡ Some bytes
      → Walks lookup (length files) 0 (files ++ source (file_name name) bytes ∷ [])
      (count + 3) tokens last total (Some fault)
      → Walks lookup number at files count tokens last total (Some fault)
  includes : (number at : ℕ) (files : List Source) (count : ℕ) (file : Source) (hash : ℕ)
      (name : List ℕ) (after : ℕ) (bytes : List ℕ)
      (inner : List Lexeme) (between : List Source) (counted : ℕ) (tokens : List Lexeme)
      (last : List Source) (total : ℕ)
      (ending : Option GatherFault)
      → slice_get files number ≡ Some file → IsStep file.bytes number at (Mentions hash name after)
      → step_fault lookup files count file (Mentions hash name after) ≡ None
      → is_among files (file_name name) ≡ false
      → lookup (file_name name) ≡ Some bytes
      → Walks lookup (length files) 0 (files ++ source (file_name name) bytes ∷ [])
      (count + 3) inner between counted None
      → Walks lookup number after between counted tokens last total ending
      → Walks lookup number at files count (inner ++ tokens) last total ending
