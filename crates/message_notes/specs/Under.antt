-- What the caret of a note on a plan stands under.
use Rattle.std.specs.Prelude.{◌≡◌, ℕ, zero, suc, ◌+◌, ◌==◌, min, if◌then◌else◌, List, [], ◌∷◌, length, drop}
use Rattle.nwq_text.specs.Cuts.{IsFree}
use Rattle.plan_text.specs.Fields.{parted}
use Rattle.message_sentences.specs.Form.{ShowsNoteAt}
use Rattle.message_notes.specs.declared.lacks.Lack.{Lack}
use Rattle.message_notes.specs.declared.lacks.Lack.TheVariants as lack

-- where a field of a line begins: behind so many blanks, or at the end where there are fewer
abbrev pub field_place : ℕ → List ℕ → ℕ
field_place zero line = 0
field_place (suc n) [] = 0
field_place (suc n) (b ∷ bs) = 1 + (if b == 32 then field_place n bs else field_place (suc n) bs)

-- what asks in vain, and what follows it in its line
abbrev pub field_in : Lack → (nth label tag : List ℕ) → List ℕ
field_in lack.Tag nth label tag = tag
field_in lack.Number nth label tag = parted nth (parted label tag)
field_in lack.Label nth label tag = parted label tag

-- The place stands under it: in a line of a word, a time, a number, a label or a script's name, and
-- a tag, each but the last without a blank.
abbrev pub IsUnder : Lack → List ℕ → ℕ → Type 0
IsUnder lack line at =
    (word due nth label tag : List ℕ) → IsFree 32 word → IsFree 32 due → IsFree 32 nth
    → IsFree 32 label → line ≡ parted word (parted due (parted nth (parted label tag)))
    → drop at line ≡ field_in lack nth label tag

-- a note there on a line of the plan that begins at the place
pub record ShowsLack (name bytes : List ℕ) (place : ℕ) (line : List ℕ) (lack : Lack)
    (text : List ℕ) : Type 0 where
  pub at : ℕ
  pub under : IsUnder lack line at
  pub sentence : List ℕ
  pub piece : List ℕ
  pub note : ShowsNoteAt name bytes (min (place + at) (length bytes)) sentence piece text
