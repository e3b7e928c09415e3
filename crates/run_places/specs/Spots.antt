-- Where a place of a script's code stands in its sources.
use Rattle.std.specs.Prelude.{ℕ, List, slice_get, Option, None, Some}
use Rattle.std.specs.Option.{option_and_then, option_map}
use Rattle.nss_include.specs.declared.file.Source.{Source}
use Rattle.nss_include.specs.View.{Gathered}
use Rattle.nss_lexer.specs.Splitting.{Lexeme}
use Rattle.nss_tree.specs.Source.{SourceTree}
use Rattle.nss_tree.specs.Units.{structure, constant, global, function}
use Rattle.typing_rules.specs.Typed.{TypedItem, TypedUnit}
use Rattle.code_places.specs.Functions.{function_at}
use Rattle.code_places.specs.Seeking.{token_at}
use Rattle.run_places.specs.declared.spots.Spot.{Spot}

-- a file's name and its bytes, and an offset in them
pub record Place : Type 0 where
  pub name : List ℕ
  pub bytes : List ℕ
  pub at : ℕ

abbrev pub plain_spot : Spot → Place
plain_spot s = record { name = s.name.now; bytes = s.bytes.now; at = s.at }

-- where a token begins, in its own file
abbrev pub place_of : List Source → Option Lexeme → Option Place
place_of files None = None
place_of files (Some t) =
    option_map (λ (f : Source). record { name = f.name; bytes = f.bytes; at = t.start }) (slice_get files t.file)

abbrev pub spot_of : List Source → List Lexeme → ℕ → Option Place
spot_of files tokens token = place_of files (slice_get tokens token)

-- the place of the token of the node whose code the byte at this place of the script's file lies in
abbrev pub spot_at : Gathered → SourceTree → TypedUnit → ℕ → Option Place
spot_at unit tree typed place =
    option_and_then (λ token. spot_of unit.files unit.tokens token) (token_at tree typed place)

abbrev pub name_of : TypedItem → Option (List ℕ)
name_of (function m t x ps body) = Some x
name_of (structure m x ls) = None
name_of (constant m t x k) = None
name_of (global m t ds) = None

-- the name of the function whose code that byte lies in
abbrev pub function_named : TypedUnit → ℕ → Option (List ℕ)
function_named u place = option_and_then (λ number.
    option_and_then name_of (slice_get u.items number)) (function_at u place)
