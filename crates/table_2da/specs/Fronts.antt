-- What a line begins with, as the code gives it.
use Rattle.std.specs.Prelude.{◌≡◌, ℕ, List, ◌∷◌, ◌++◌}
use Rattle.table_2da.specs.declared.words.Front.{Front}
use Rattle.table_2da.specs.declared.words.Front.TheVariants.{Nothing, Open, Begins}
use Rattle.table_2da.specs.declared.words.Word.{Word}
use Rattle.table_2da.specs.declared.words.Word.TheVariants as word
use Rattle.nwq_text.specs.Cuts.{IsFree}
use Rattle.table_2da.specs.Words.{AreBlanks, PlainWord, Bare, Quoted, BeginsWith}

-- the word without the borrow of its bytes
abbrev pub plain : Word → PlainWord
plain (word.Bare bytes) = Bare bytes.now
plain (word.Quoted bytes) = Quoted bytes.now

-- a quote opens behind blanks, and none follows it
pub record IsOpen (line : List ℕ) : Type 0 where
  pub blanks : List ℕ
  pub rest : List ℕ
  pub blank : AreBlanks blanks
  pub free : IsFree 34 rest
  pub is : line ≡ blanks ++ 34 ∷ rest

abbrev pub IsFront : List ℕ → Front → Type 0
IsFront line Nothing = AreBlanks line
IsFront line Open = IsOpen line
IsFront line (Begins word rest) = BeginsWith line (plain word) rest.now
