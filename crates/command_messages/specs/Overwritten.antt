-- Which words are noted, of those that name files which a command read.
use Rattle.std.specs.Prelude.{◌≡◌, ℕ, Bool, true, false, String, List, [], ◌∷◌, ◌++◌, bytes_eq, string_bytes}
use Rattle.std.specs.Global.{Global}
use Rattle.std.specs.List.{list_any}
use Rattle.message_sentences.specs.Form.{ShowsNote}
use Rattle.command_messages.specs.declared.overwritten.Input.{Input}

-- the file is one of those that the command wrote
abbrev pub is_written : List (String Global) → List ℕ → Bool
is_written written file = list_any (λ name. bytes_eq (string_bytes name) file) written

-- the note on a word that names such a file, or nothing
abbrev pub ShowsLost : Bool → List ℕ → Input → List ℕ → Type 0
ShowsLost true sentence input text = ShowsNote input.file.now sentence input.word.now text
ShowsLost false sentence input text = text ≡ []

-- each word whose file the command wrote has a note, in the order of the words, and no other has
pub data ShowAllLost (written : List (String Global)) (sentence : List ℕ) : List Input → List ℕ → Type 0 where
  None : ShowAllLost written sentence [] []
  Next : (inputs : List Input) → (input : Input) → (text note : List ℕ)
      → ShowAllLost written sentence inputs text
      → ShowsLost (is_written written input.file.now) sentence input note
      → ShowAllLost written sentence (inputs ++ input ∷ []) (text ++ note)
