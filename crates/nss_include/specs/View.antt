-- A unit as contracts see it, and what each unit keeps.
use Rattle.std.specs.Prelude.{◌≡◌, ℕ, ◌<◌, ◌≤◌, List, [], length, slice_get, Option, Some, None, is_some}
use Rattle.std.specs.List.{AllByRecursion}
use Rattle.nwq_value.specs.Limits.{file_limit, token_limit}
use Rattle.nss_lexer.specs.Lexemes.{IsLexeme}
use Rattle.nss_lexer.specs.Splitting.{Lexeme}
use Rattle.nss_include.specs.declared.file.Source.{Source}
use Rattle.nss_include.specs.declared.step.Span.{Span}
use Rattle.nwq_value.specs.Index.{number_under}
use Rattle.nss_include.specs.Steps.{lexeme_in}
use Rattle.nss_include.specs.Units.{is_among}

-- the files of a unit, in order of first mention, and its tokens
pub record Gathered : Type 0 where
  pub files : List Source
  pub tokens : List Lexeme

abbrev pub bytes_of : Option Source → List ℕ
bytes_of None = []
bytes_of (Some file) = file.bytes

-- the token of a span of one of these files
abbrev pub lexeme_of : List Source → Span → Lexeme
lexeme_of files span = lexeme_in (bytes_of (slice_get files span.file)) span

-- the span lies in one of these files, and its bytes spell a token
pub record IsSpan (files : List Source) (span : Span) : Type 0 where
  pub file : span.file < length files
  pub order : span.start ≤ span.end
  pub within : span.end ≤ length (bytes_of (slice_get files span.file))
  pub lexeme : IsLexeme span.kind (lexeme_of files span).text

-- the token stands in one of these files
pub record StandsIn (files : List Source) (t : Lexeme) : Type 0 where
  pub file : t.file < length files
  pub order : t.start ≤ t.end
  pub within : t.end ≤ length (bytes_of (slice_get files t.file))

-- files of a unit, as many as have a number of 16 bits. A unit never comes to so many, since each
-- include takes three of its tokens.
abbrev pub file_count_limit : ℕ
file_count_limit = 65536

-- what every unit keeps: its files have the size of files, its tokens are few, and its spans lie in
-- its files
pub record IsSound (files : List Source) (spans : List Span) : Type 0 where
  pub sizes : AllByRecursion (λ f. length f.bytes ≤ file_limit) files
  pub few : length files ≤ file_count_limit
  pub short : length spans ≤ token_limit
  pub inside : AllByRecursion (IsSpan files) spans

-- an index has the names of these files, and no others
abbrev pub HasNames : List Source → List (List ℕ × ℕ) → Type 0
HasNames files names = (name : List ℕ) → is_some (number_under name names) ≡ is_among files name
