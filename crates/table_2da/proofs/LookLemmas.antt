-- Names compared without regard to case, and cells that are looked up.
use Rattle.std.proofs.Common.{◌≡◌, ℕ, ℤ, ◌+◌, Bool, not, cond, nat_lt, IsTrue, ◌↔◌, List, [], ◌∷◌, length, map, Option, Some, None, slice_get, unwrap_or, refl, sym, ap, ◌∙◌}
use Rattle.std.proofs.lemmas.Bool.Decides.{same_from_decides}
use Rattle.std.proofs.lemmas.Slice.Eq.{bytes_eq-Decides}
use Rattle.std.specs.Char.{to_ascii_lowercase}
use Rattle.std.specs.Str.{bytes_eq}
use Rattle.std.specs.List.{position, prefix_len}
use Rattle.std.specs.Option.{option_map}
use Rattle.std.proofs.lemmas.Option.{slice_get-map}
use Rattle.std.proofs.lemmas.List.{length-map}
use Rattle.table_2da.specs.declared.range.Range.{Range}
use Rattle.table_2da.specs.Ranges.{bytes_at, cells_at, rows_at}
use Rattle.table_2da.specs.Look.{same_name, column_named, row_numbered, cell_at, cell_in}

-- a test that is true exactly where the folded names are equal is the test of names
pub same_by_test : (a b : List ℕ) (r : Bool) → IsTrue r ↔ (map to_ascii_lowercase a ≡ map to_ascii_lowercase b) → r ≡ same_name a b
unfolding same_name
same_by_test a b r test =
    same_from_decides r (bytes_eq (map to_ascii_lowercase a) (map to_ascii_lowercase b)) test
    (bytes_eq-Decides (map to_ascii_lowercase a) (map to_ascii_lowercase b))

-- ---- ranges

prefix_at : (test : List ℕ → Bool) (file : List ℕ) (ranges : List Range)
    → prefix_len (λ range. test (bytes_at file range)) ranges ≡ prefix_len test (cells_at file ranges)
prefix_at test file [] = refl
prefix_at test file (r ∷ ranges) = ap (λ n. cond (test (bytes_at file r)) (1 + n) 0) (prefix_at test file ranges)

-- the place of a column among the ranges is its place among the names
column_at : (file name : List ℕ) (columns : List Range)
    → position (λ column. same_name (bytes_at file column) name) columns ≡ column_named name (cells_at file columns)
column_at file name columns =
    let prefix = prefix_at (λ column. not (same_name column name)) file columns in
    let count = length-map columns (bytes_at file) in
    ap (λ n. cond (nat_lt n (length columns)) (Some n) None) prefix
    ∙ ap (λ n. cond (nat_lt (prefix_len (λ column. not (same_name column name)) (cells_at file columns)) n)
    (Some (prefix_len (λ column. not (same_name column name)) (cells_at file columns))) None) (sym count)

module _ (file name : List ℕ) (row : ℤ) (columns : List Range) (rows : List (List Range)) where
  abbrev found : Option ℕ
  found = position (λ column. same_name (bytes_at file column) name) columns

  in_table : (place : Option ℕ) (cells : List Range) → found ≡ place → cells_at file cells ≡ row_numbered row (rows_at file rows)
      → cell_at place (cells_at file cells) ≡ cell_in name row (record { columns = cells_at file columns; rows = rows_at file rows })
  in_table place cells p r =
      ap (λ o. cell_at o (cells_at file cells)) (sym p ∙ column_at file name columns)
      ∙ ap (cell_at (column_named name (cells_at file columns))) r

  pub no_column : found ≡ None → [] ≡ cell_in name row (record { columns = cells_at file columns; rows = rows_at file rows })
  no_column p = ap (λ o. cell_at o (row_numbered row (rows_at file rows))) (sym p ∙ column_at file name columns)

  pub one_cell : (place : ℕ) (cells : List Range) (cell : Option Range) → found ≡ Some place → cells_at file cells ≡ row_numbered row (rows_at file rows)
      → cell ≡ slice_get cells place
      → unwrap_or (option_map (bytes_at file) cell) [] ≡ cell_in name row (record { columns = cells_at file columns; rows = rows_at file rows })
  one_cell place cells cell p r is =
      ap (λ o. unwrap_or (option_map (bytes_at file) o) []) is ∙ ap (λ o. unwrap_or o []) (sym (slice_get-map (bytes_at file) cells place))
      ∙ in_table (Some place) cells p r

-- the same place among equal columns of an equal file
pub found_is : (file file2 name : List ℕ) (columns columns2 : List Range) (place : Option ℕ) → file2 ≡ file → columns2 ≡ columns
    → place ≡ position (λ column. same_name (bytes_at file2 column) name) columns2 → position (λ column. same_name (bytes_at file column) name) columns ≡ place
found_is file file2 name columns columns2 place f c is =
    sym (is ∙ ap (λ x. position (λ column. same_name (bytes_at x column) name) columns2) f ∙ ap (position (λ column. same_name (bytes_at file column) name)) c)
