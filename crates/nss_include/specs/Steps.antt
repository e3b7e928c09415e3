-- What a file goes on with at a place, as the code finds it: a token, an include, a fault or its
-- end. No public contract names this: a unit is proved to be what its pieces come to.
use Rattle.std.specs.Prelude.{◌≡◌, ℕ, ◌-◌, ◌≤◌, Bool, true, false, List, length, take, drop, codes, bytes_eq, if◌then◌else◌, Option, Some, None}
use Rattle.nss_lexer.specs.Lexemes.{IsLexeme}
use Rattle.nss_lexer.specs.Strings.{string_value}
use Rattle.nss_lexer.specs.Splitting.{Lexeme, First, Found, AtEnd, BadAt, IsFirst}
use Rattle.nss_include.specs.declared.step.Span.{Span}
use Rattle.nss_include.specs.declared.step.Step.{Step}
use Rattle.nss_include.specs.declared.step.Step.TheVariants.{Ends, Breaks, Gives, Mentions, Misses}
use Rattle.nss_include.specs.Names.{is_include_name}
use Rattle.nss_include.specs.Pieces.{is_hash, is_include, is_string}

-- the token of a span of a file's bytes
abbrev pub lexeme_in : List ℕ → Span → Lexeme
lexeme_in bytes span = record {
  kind = span.kind;
  text = take (span.end - span.start) (drop span.start bytes);
  file = span.file;
  start = span.start;
  end = span.end;
}

-- the name `include` stands first
abbrev pub begins_include : First → Bool
begins_include (Found t) = is_include t
begins_include AtEnd = false
begins_include (BadAt place) = false

-- a directive whose string this is, up to this end
unfoldable pub named_step : ℕ → List ℕ → ℕ → Step
named_step hash text end = if is_include_name (string_value text) then Mentions hash
    (string_value text) end else Misses hash

-- A directive whose `#` stands at this place goes on so, where this stands first behind its
-- `include`.
abbrev pub directive_step : ℕ → First → Step
directive_step hash AtEnd = Misses hash
directive_step hash (BadAt place) = Breaks place
directive_step hash (Found t) = if is_string t.kind then named_step hash t.text t.end else Misses hash

-- What a file, by its bytes and number, goes on with at a place. A `#` with the name `include`
-- behind it, in the same file, begins a directive.
pub data IsStep (bytes : List ℕ) (file : ℕ) : ℕ → Step → Type 0 where
  ends : (at : ℕ) → IsFirst bytes file at AtEnd → IsStep bytes file at Ends
  breaks : (at place : ℕ) → IsFirst bytes file at (BadAt place)
      → IsStep bytes file at (Breaks place)
  other : (at : ℕ) (span : Span) → IsFirst bytes file at (Found (lexeme_in bytes span))
      → is_hash (lexeme_in bytes span) ≡ false
      → IsStep bytes file at (Gives span)
  sign : (at : ℕ) (span : Span) (x : First) → IsFirst bytes file at (Found (lexeme_in bytes span))
      → IsFirst bytes file span.end x → begins_include x ≡ false → IsStep bytes file at (Gives span)
  begins : (at : ℕ) (t u : Lexeme) (x : First) (step : Step) → IsFirst bytes file at (Found t)
      → is_hash t ≡ true
      → IsFirst bytes file t.end (Found u) → is_include u ≡ true → IsFirst bytes file u.end x
      → step ≡ directive_step t.start x → IsStep bytes file at step

-- What stands behind a token with this text and end: the end of the name `include`, where the token
-- is a `#` and that name stands first behind it.
pub data Behind (bytes : List ℕ) (file : ℕ) (text : List ℕ) (end : ℕ) : Option ℕ → Type 0 where
  no_hash : bytes_eq text (codes "#") ≡ false → Behind bytes file text end None
  no_include : (x : First) → IsFirst bytes file end x → begins_include x ≡ false
      → Behind bytes file text end None
  include : (u : Lexeme) → bytes_eq text (codes "#") ≡ true → IsFirst bytes file end (Found u)
      → is_include u ≡ true
      → Behind bytes file text end (Some u.end)

-- a directive goes on so behind its `include`
pub record DirectiveGoesOn (bytes : List ℕ) (file hash at : ℕ) (step : Step) : Type 0 where
  pub first : First
  pub stands : IsFirst bytes file at first
  pub is : step ≡ directive_step hash first

-- the places of a step lie in the file, and its token is one
abbrev pub IsWithin : List ℕ → ℕ → Step → Type 0
IsWithin bytes file Ends = Unit {0}
IsWithin bytes file (Breaks place) = place ≤ length bytes
IsWithin bytes file (Gives span) = (span.file ≡ file) × (span.start ≤ span.end)
    × (span.end ≤ length bytes) × IsLexeme span.kind (lexeme_in bytes span).text
IsWithin bytes file (Mentions hash name after) = (hash ≤ length bytes) × (after ≤ length bytes)
    × (is_include_name name ≡ true)
IsWithin bytes file (Misses place) = place ≤ length bytes
