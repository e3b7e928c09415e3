-- What single steps of the reading answer.
use Rattle.std.specs.Prelude.{ℕ, Bool, true, false, if◌then◌else◌, List, [], ◌∷◌, Option, MatchOption, Result, Ok, Err}
use Rattle.table_2da.specs.declared.fault.TableFault.{TableFault}
use Rattle.table_2da.specs.declared.fault.TableFault.TheVariants.{Line, NoMemory}
use Rattle.table_2da.specs.Table.{PlainTable}
use Rattle.table_2da.specs.Words.{is_blank}
use Rattle.table_2da.specs.Grammar.{Follow, Gives, IsHeading, IsSecond}

-- a step goes on by the relation, or says that nothing does
abbrev pub Took : {A : Type 0} → (A → Type 0) → Bool → A → Type 0
Took P true new = P new
Took {A} P false new = (a : A) → P a → ⊥

-- what is read has the property, or nothing has it
abbrev pub Found : {A : Type 0} → (A → Type 0) → Option A → Type 0
Found {A} P read = MatchOption read ((a : A) → P a → ⊥) P

-- what follows the blanks at the front
unfoldable pub behind_blanks : List ℕ → List ℕ
behind_blanks [] = []
behind_blanks (b ∷ bs) = if is_blank b then behind_blanks bs else b ∷ bs

-- ---- rows

-- the lines behind the third give these rows
abbrev pub ReadsOn : ℕ → List (List ℕ) → List (List (List ℕ)) → Type 0
ReadsOn width lines rows = Follow width 4 [] lines (Ok rows)

-- one of these lines behind the third is the first that breaks a rule
abbrev pub TableStopsAt : ℕ → List (List ℕ) → TableFault → Type 0
TableStopsAt width lines (Line n) = Follow width 4 [] lines (Err n)
TableStopsAt width lines NoMemory = Unit {0}

-- ---- the first lines

-- lines behind the second make these ends, where the first two are what they should be
abbrev pub ThirdOn : List (List ℕ) → Result PlainTable ℕ → Type 0
ThirdOn lines end = (heading second : List ℕ) → IsHeading heading → IsSecond second
    → Gives (heading ∷ second ∷ lines) end

-- lines behind the first do, where that is a heading
abbrev pub SecondOn : List (List ℕ) → Result PlainTable ℕ → Type 0
SecondOn lines end = (heading : List ℕ) → IsHeading heading → Gives (heading ∷ lines) end

-- what was read is such an end; want of memory may come at any text
abbrev pub Comes : (Result PlainTable ℕ → Type 0) → Result PlainTable TableFault → Type 0
Comes IsEnd (Ok table) = IsEnd (Ok table)
Comes IsEnd (Err (Line n)) = IsEnd (Err n)
Comes IsEnd (Err NoMemory) = Unit {0}
