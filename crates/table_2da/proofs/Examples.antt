-- Look-ups that were worked out by hand.
use Rattle.std.proofs.Common.{◌≡◌, List, [], ◌∷◌, pos, negsuc, codes, refl}
use Rattle.table_2da.specs.Look.{same_name, cell_of}
use Rattle.table_2da.specs.Table.{PlainTable}
use Rattle.table_2da.specs.declared.tables.Named.{Named}

abbrev swords : PlainTable
swords = record {
  columns = codes "LABEL" ∷ codes "COST" ∷ [];
  rows = (codes "Sword" ∷ codes "10" ∷ []) ∷ ([] ∷ codes "5" ∷ []) ∷ (codes "Axe" ∷ []) ∷ [];
}

abbrev tables : List Named
tables = record { name = codes "x"; table = swords } ∷ []

by_name_in_either_case : cell_of tables (codes "X") (codes "cost") (pos 0) ≡ codes "10"
unfolding cell_of same_name
by_name_in_either_case = refl

empty_cell : cell_of tables (codes "x") (codes "LABEL") (pos 1) ≡ []
unfolding cell_of same_name
empty_cell = refl

missing_cell : cell_of tables (codes "x") (codes "COST") (pos 2) ≡ []
unfolding cell_of same_name
missing_cell = refl

missing_row : cell_of tables (codes "x") (codes "COST") (pos 7) ≡ []
unfolding cell_of same_name
missing_row = refl

row_before_the_first : cell_of tables (codes "x") (codes "COST") (negsuc 0) ≡ []
unfolding cell_of same_name
row_before_the_first = refl

missing_column : cell_of tables (codes "x") (codes "PRICE") (pos 0) ≡ []
unfolding cell_of same_name
missing_column = refl

missing_table : cell_of tables (codes "y") (codes "COST") (pos 0) ≡ []
unfolding cell_of same_name
missing_table = refl
