-- What comes of the bytes of a 2DA table: it can't be that they have no table, and that no line is
-- the first that breaks a rule.
use Rattle.std.proofs.Common.{◌⊎◌, inl, inr, ℕ, ◌+◌, List, [], ◌∷◌, length, Result, Ok, Err}
use Rattle.table_2da.specs.Grammar.{IsHeading, IsSecond, HasColumns, Adds, Follow, whole, goes, stops, FirstIs, with_columns, Gives, headless, no_second, no_columns, headed, GivesOf}
use Rattle.table_2da.specs.Table.{PlainTable}
use Rattle.nwq_text.specs.Lines.{lines_of}
use Rattle.nwq_top.proofs.Undeniable.{Undeniable, surely, by_it, with_it, either_way}

abbrev Cells : Type 0
Cells = List (List (List ℕ))

module _ (width : ℕ) where
  abbrev Follows : ℕ → Cells → List (List ℕ) → Type 0
  Follows n rows lines = (end : Result Cells ℕ) × Follow width n rows lines end

  abbrev Added : Cells → List ℕ → Type 0
  Added rows line = (next : Cells) × Adds width rows line next

  line_by : (n : ℕ) (rows : Cells) (line : List ℕ) (lines : List (List ℕ)) → ((next : Cells) → Undeniable (Follows (n + 1) next lines))
      → Added rows line ⊎ (Added rows line → ⊥) → Undeniable (Follows n rows (line ∷ lines))
  line_by n rows line lines rest (inl adds) = with_it (rest adds.0) (λ f. (f.0, goes n rows adds.0 line lines f.0 adds.1 f.1))
  line_by n rows line lines rest (inr baffles) = surely (Err n, stops n rows line lines (λ next adds. baffles (next, adds)))

  follows : (n : ℕ) (rows : Cells) (lines : List (List ℕ)) → Undeniable (Follows n rows lines)
  follows n rows [] = surely (Ok rows, whole n rows)
  follows n rows (line ∷ lines) = by_it (either_way (Added rows line)) (line_by n rows line lines (λ next. follows (n + 1) next lines))

abbrev Given : List (List ℕ) → Type 0
Given lines = (r : Result PlainTable ℕ) × Gives lines r

columns_by : (heading second : List ℕ) (lines : List (List ℕ)) → IsHeading heading → IsSecond second → FirstIs HasColumns lines ⊎ (FirstIs HasColumns lines → ⊥)
    → Undeniable (Given (heading ∷ second ∷ lines))
columns_by heading second [] h s (inl has) = absurd has
columns_by heading second (line ∷ lines) h s (inl has) =
    with_it (follows (length has.0) 4 [] lines) (λ f. (with_columns has.0 f.0, headed heading second line lines has.0 f.0 h s has.1 f.1))
columns_by heading second lines h s (inr none) = surely (Err 3, no_columns heading second lines h s none)

second_by : (heading : List ℕ) (lines : List (List ℕ)) → IsHeading heading → FirstIs IsSecond lines ⊎ (FirstIs IsSecond lines → ⊥) → Undeniable (Given (heading ∷ lines))
second_by heading [] h (inl has) = absurd has
second_by heading (second ∷ lines) h (inl s) = by_it (either_way (FirstIs HasColumns lines)) (columns_by heading second lines h s)
second_by heading lines h (inr none) = surely (Err 2, no_second heading lines h none)

heading_by : (lines : List (List ℕ)) → FirstIs IsHeading lines ⊎ (FirstIs IsHeading lines → ⊥) → Undeniable (Given lines)
heading_by [] (inl has) = absurd has
heading_by (heading ∷ lines) (inl h) = by_it (either_way (FirstIs IsSecond lines)) (second_by heading lines h)
heading_by lines (inr none) = surely (Err 1, headless lines none)

pub table_comes : (bytes : List ℕ) → Undeniable ((r : Result PlainTable ℕ) × GivesOf bytes r)
table_comes bytes = by_it (either_way (FirstIs IsHeading (lines_of bytes))) (heading_by (lines_of bytes))
