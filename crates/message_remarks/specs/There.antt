-- A note on a place of a script's code.
use Rattle.std.specs.Prelude.{◌≡◌, ℕ, Bool, true, false, List, [], ◌++◌, codes, Option, None, Some}
use Rattle.nss_include.specs.View.{Gathered}
use Rattle.nss_tree.specs.Source.{SourceTree}
use Rattle.typing_rules.specs.Typed.{TypedUnit}
use Rattle.run_places.specs.Spots.{Place, function_named, spot_at}
use Rattle.message_text.specs.Shown.{ShowsPlace}
use Rattle.message_sentences.specs.Form.{ShowsSpot}
use Rattle.message_sentences.specs.Template.{filled}

-- the words for a function, or for an action that stands in it
abbrev pub function_text : Bool → Option (List ℕ) → List ℕ
function_text in_action None = codes "the first values of globals"
function_text true (Some name) = filled name (codes "an action of `%`")
function_text false (Some name) = filled name (codes "`%`")

-- the line of a place with the caret, or nothing
abbrev pub ShowsLine : Bool → List ℕ → ℕ → List ℕ → Type 0
ShowsLine true bytes at line = ShowsPlace bytes at line
ShowsLine false bytes at line = line ≡ []

-- File, line and column are those of the token of the node whose code the byte at a place of the
-- script's file lies in, so is the line that is shown, and the function that is named is the one
-- whose code that byte lies in.
pub record ShowsThere (unit : Gathered) (tree : SourceTree) (typed : TypedUnit) (at : ℕ)
    (text : List ℕ) : Type 0 where
  pub place : Place
  pub found : spot_at unit tree typed at ≡ Some place
  pub spot : List ℕ
  pub shows_spot : ShowsSpot place.name place.bytes place.at spot
  pub in_action : Bool
  pub before : List ℕ
  pub behind : List ℕ
  pub shows : Bool
  pub line : List ℕ
  pub shows_line : ShowsLine shows place.bytes place.at line
  pub is : text ≡ spot ++ (codes ": note: " ++ (before
      ++ (function_text in_action (function_named typed at) ++ (behind ++ (codes "\n" ++ line)))))
