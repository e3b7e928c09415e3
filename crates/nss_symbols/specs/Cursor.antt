-- How code sees tokens while it reads, and what a reader in code gives by the reader on lists.
use Rattle.std.specs.Prelude.{◌≡◌, ◌≤◌, List, [], ◌∷◌, length, take, Result, Ok, Err}
use Rattle.nwq_value.specs.Limits.{name_limit, text_limit}
use Rattle.nss_lexer.specs.Strings.{IsString, string_value}
use Rattle.nss_symbols.specs.declared.symbol.Seen.{Seen}
use Rattle.nss_symbols.specs.declared.symbol.Seen.TheVariants as seen
use Rattle.nss_symbols.specs.declared.cursor.Misfit.{Misfit}
use Rattle.nss_symbols.specs.declared.cursor.Stop.{Stop}
use Rattle.nss_symbols.specs.declared.cursor.Stop.TheVariants.{NoMemory, Syntax, TooDeep}
use Rattle.nss_symbols.specs.Symbols as symbol
use Rattle.nss_symbols.specs.Symbols.{Symbol, Numbered}
use Rattle.nss_symbols.specs.Outcome.{Outcome, Got, Stuck, Deep}

-- what the grammar sees of it
abbrev pub plain_symbol : Seen → Symbol
plain_symbol (seen.Name bytes) = symbol.Name bytes.now
plain_symbol (seen.Int v) = symbol.Int v
plain_symbol seen.Float = symbol.Float
plain_symbol (seen.Text text) = symbol.Text (take text_limit (string_value text.now))
plain_symbol (seen.Fixed m) = symbol.Fixed m
plain_symbol seen.Unknown = symbol.Unknown

-- a name's bytes fit a text, and a string is one
abbrev pub IsSound : Seen → Type 0
IsSound (seen.Name bytes) = length bytes.now ≤ name_limit
IsSound (seen.Text text) = IsString text.now
IsSound _ = Unit {0}

abbrev pub AreSound : List Seen → Type 0
AreSound [] = Unit {0}
AreSound (s ∷ ss) = IsSound s × AreSound ss

-- Why a reader stopped, and where the cursor stands then.
abbrev pub Stops : {A : Type 0} → Stop → Outcome A → List Numbered → Type 0
Stops NoMemory o new = Unit {0}
Stops Syntax o new = o ≡ Stuck new
Stops TooDeep o new = o ≡ Deep

-- The result, seen through a view, and the tokens that are left are the outcome.
abbrev pub Reads : {X A : Type 0} → (X → A) → Outcome A → Result X Stop → List Numbered → Type 0
Reads view o (Ok x) new = o ≡ Got (view x) new
Reads view o (Err e) new = Stops e o new

-- The same of a call that takes no memory: where it gives nothing, the next token can't stand
-- there.
abbrev pub Passes : {X A : Type 0} → (X → A) → Outcome A → Result X Misfit → List Numbered → Type 0
Passes view o (Ok x) new = o ≡ Got (view x) new
Passes view o (Err e) new = o ≡ Stuck new
