-- The form of messages and notes.
use Rattle.std.specs.Prelude.{◌≡◌, ℕ, Bool, ◌&&◌, not, ◌==◌, nat_le, IsTrue, List, ◌++◌, codes}
use Rattle.std.specs.List.{list_all}
use Rattle.nwq_text.specs.Escape.{escaped}
use Rattle.nwq_text.specs.Line.{line_number}
use Rattle.std.specs.Fmt.{decimal}
use Rattle.message_text.specs.Place.{HasColumn}
use Rattle.message_text.specs.Shown.{IsReadable, ShowsPlace}
use Rattle.message_sentences.specs.Template.{filled}

-- no control character of ASCII
abbrev pub is_printed : ℕ → Bool
is_printed b = nat_le 32 b && not (b == 127)

-- a name that a terminal shows as it is
pub record IsPlainName (name : List ℕ) : Type 0 where
  pub readable : IsReadable name
  pub printed : IsTrue (list_all is_printed name)

-- how the name of a file is shown: as it is where a terminal shows that, and else escaped
pub record ShowsName (name shown : List ℕ) : Type 0 where
  pub plain : IsPlainName name → shown ≡ name
  pub other : (IsPlainName name → ⊥) → shown ≡ escaped name

-- FILE:LINE:COLUMN of a place
pub record ShowsSpot (name bytes : List ℕ) (at : ℕ) (text : List ℕ) : Type 0 where
  pub file : List ℕ
  pub named : ShowsName name file
  pub column : ℕ
  pub counted : HasColumn bytes at column
  pub is : text ≡ file ++ (codes ":" ++ (decimal (line_number bytes at)
      ++ (codes ":" ++ decimal column)))

-- what begins a message on a place
pub record ShowsHead (name bytes : List ℕ) (at : ℕ) (text : List ℕ) : Type 0 where
  pub spot : List ℕ
  pub place : ShowsSpot name bytes at spot
  pub is : text ≡ spot ++ codes ": error: "

-- what ends the first line of a message
abbrev pub kind_text : List ℕ → List ℕ
kind_text kind = codes " [" ++ kind ++ codes "]\n"

-- what ends a message on a place: the kind, and the line with the caret
pub record ShowsEnd (kind bytes : List ℕ) (at : ℕ) (text : List ℕ) : Type 0 where
  pub line : List ℕ
  pub place : ShowsPlace bytes at line
  pub is : text ≡ kind_text kind ++ line

abbrev pub note_text : List ℕ → List ℕ → List ℕ
note_text sentence piece = codes ": note: " ++ filled piece sentence ++ codes "\n"

-- a note on a place, with the line and the caret
pub record ShowsNoteAt (name bytes : List ℕ) (at : ℕ) (sentence piece text : List ℕ) : Type 0 where
  pub spot : List ℕ
  pub place : ShowsSpot name bytes at spot
  pub line : List ℕ
  pub shown : ShowsPlace bytes at line
  pub is : text ≡ spot ++ (note_text sentence piece ++ line)

-- a note on a whole file
pub record ShowsNote (name sentence piece text : List ℕ) : Type 0 where
  pub file : List ℕ
  pub named : ShowsName name file
  pub is : text ≡ file ++ note_text sentence piece

-- a message on a whole file
pub record ShowsWhole (name sentence kind text : List ℕ) : Type 0 where
  pub file : List ℕ
  pub named : ShowsName name file
  pub is : text ≡ file ++ (codes ": error: " ++ (sentence ++ kind_text kind))
