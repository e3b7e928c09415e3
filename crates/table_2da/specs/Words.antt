-- The words of a line.
use Rattle.std.specs.Prelude.{◌≡◌, ◌≢◌, ℕ, Bool, true, false, ◌==◌, ◌||◌, if◌then◌else◌, List, [], ◌∷◌, ◌++◌, codes, map, bytes_eq}
use Rattle.std.specs.List.{AllByRecursion}
use Rattle.nwq_text.specs.Cuts.{IsFree}
use Rattle.table_2da.specs.declared.words.Part.{Part}
use Rattle.table_2da.specs.declared.words.Part.TheVariants.{Columns, Row}

-- a space or a tab
abbrev pub is_blank : ℕ → Bool
is_blank b = b == 32 || b == 9

abbrev pub AreBlanks : List ℕ → Type 0
AreBlanks bytes = AllByRecursion (λ b. is_blank b ≡ true) bytes

abbrev pub AreUnblank : List ℕ → Type 0
AreUnblank bytes = AllByRecursion (λ b. is_blank b ≡ false) bytes

-- a word, which stands bare or between quotes
pub data PlainWord : Type 0 where
  Bare : List ℕ → PlainWord
  Quoted : List ℕ → PlainWord

-- a bare word has no blank, and its first byte is no quote; further ones may be
abbrev pub IsBare : List ℕ → Type 0
IsBare [] = ⊥
IsBare (b ∷ bs) = (b ≢ 34) × AreUnblank (b ∷ bs)

-- a bare word goes to a blank or to the line's end
abbrev pub EndsWord : List ℕ → Type 0
EndsWord [] = Unit {0}
EndsWord (b ∷ bs) = is_blank b ≡ true

-- Blanks, this word and the rest make the line. Directly behind a quoted word the next one may
-- begin.
pub record IsBareBefore (line word rest : List ℕ) : Type 0 where
  pub blanks : List ℕ
  pub blank : AreBlanks blanks
  pub bare : IsBare word
  pub ends : EndsWord rest
  pub is : line ≡ blanks ++ (word ++ rest)

pub record IsQuotedBefore (line word rest : List ℕ) : Type 0 where
  pub blanks : List ℕ
  pub blank : AreBlanks blanks
  pub free : IsFree 34 word
  pub is : line ≡ blanks ++ 34 ∷ (word ++ 34 ∷ rest)

abbrev pub BeginsWith : List ℕ → PlainWord → List ℕ → Type 0
BeginsWith line (Bare word) rest = IsBareBefore line word rest
BeginsWith line (Quoted word) rest = IsQuotedBefore line word rest

-- The line is made of these words. One in which a quote stays open is made of none.
pub data Words : List ℕ → List PlainWord → Type 0 where
  none : (line : List ℕ) → AreBlanks line → Words line []
  more : (line rest : List ℕ) (word : PlainWord) (words : List PlainWord)
      → BeginsWith line word rest → Words rest words
      → Words line (word ∷ words)

-- what a word says as the name of a column
abbrev pub name_of : PlainWord → List ℕ
name_of (Bare bytes) = bytes
name_of (Quoted bytes) = bytes

-- what a word says as a cell: four stars without quotes stand for the empty cell
abbrev pub cell_of_word : PlainWord → List ℕ
cell_of_word (Bare bytes) = if bytes_eq bytes (codes "****") then [] else bytes
cell_of_word (Quoted bytes) = bytes

abbrev pub text_in : Part → PlainWord → List ℕ
text_in Columns word = name_of word
text_in Row word = cell_of_word word

-- the words of a line say this in that part of a file
pub record Says (part : Part) (line : List ℕ) (texts : List (List ℕ)) : Type 0 where
  pub words : List PlainWord
  pub are : Words line words
  pub say : texts ≡ map (text_in part) words
