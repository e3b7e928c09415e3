-- Rows that are kept in short, each with the number of what it shares with others.
use Rattle.std.specs.Prelude.{◌≡◌, ◌≤◌, ◌<◌, ℕ, List, length, map, Option, None, Some, slice_get}
use Rattle.stack_lists.specs.declared.rows.ShapeRow.{ShapeRow}
use Rattle.stack_lists.specs.declared.row_list.Setting.{Setting}
use Rattle.stack_lists.specs.declared.row_list.ShortRow.{ShortRow}

abbrev pub setting_of : ShapeRow → Setting
setting_of row = record {
  trial = row.trial;
  under = row.held.under;
  saved = row.held.saved;
  pending = row.held.pending;
}

abbrev pub with_setting : ShortRow → Option Setting → ShapeRow
with_setting short None = record {
  trial = 0;
  place = short.place;
  held = record { cells = short.cells; under = 0; saved = 0; pending = 0 };
}
with_setting short (Some setting) = record {
  trial = setting.trial;
  place = short.place;
  held = record {
    cells = short.cells;
    under = setting.under;
    saved = setting.saved;
    pending = setting.pending;
  };
}

-- the row in full
abbrev pub row_of : List Setting → ShortRow → ShapeRow
row_of settings short = with_setting short (slice_get settings short.setting)

abbrev pub rows_of : List Setting → List ShortRow → List ShapeRow
rows_of settings rows = map (row_of settings) rows

-- each row's setting is there
pub record HaveSettings (settings : List Setting) (rows : List ShortRow) : Type 0 where
  pub by : (k : ℕ) (short : ShortRow) → slice_get rows k ≡ Some short
      → short.setting < length settings

-- what was there is there still, under its number
pub record StillThere (before after : List Setting) : Type 0 where
  pub by : (k : ℕ) (setting : Setting) → slice_get before k ≡ Some setting
      → slice_get after k ≡ Some setting
  pub longer : length before ≤ length after
