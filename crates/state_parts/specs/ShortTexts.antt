-- Parts whose texts are as long as a string may be.
use Rattle.std.specs.Prelude.{ℕ, Bool, true, ◌&&◌, nat_le, List, length}
use Rattle.std.specs.List.{list_all}
use Rattle.nwq_value.specs.Limits.{text_limit}
use Rattle.state_format.specs.declared.parts.Cell.{Cell}
use Rattle.state_format.specs.declared.parts.Cell.TheVariants as cell
use Rattle.state_format.specs.declared.parts.Captured.{Captured}
use Rattle.state_format.specs.declared.parts.Item.{Item}
use Rattle.state_format.specs.declared.parts.Item.TheVariants as item
use Rattle.state_format.specs.declared.parts.Object.{Object}
use Rattle.state_format.specs.declared.parts.KindPart.{KindPart}
use Rattle.state_format.specs.declared.parts.KindPart.TheVariants as kind
use Rattle.state_format.specs.declared.parts.Entry.{Entry}

-- a text is as long as a string may be
abbrev pub is_short : List ℕ → Bool
is_short text = nat_le (length text) text_limit

abbrev pub is_short_cell : Cell → Bool
is_short_cell (cell.Int n) = true
is_short_cell (cell.Text text) = is_short text
is_short_cell (cell.Object o) = true
is_short_cell (cell.Effect e) = true
is_short_cell (cell.Event n) = true

abbrev pub are_short_cells : List Cell → Bool
are_short_cells cells = list_all is_short_cell cells

abbrev pub has_short_cells : Captured → Bool
has_short_cells c = are_short_cells c.globals && are_short_cells c.locals

abbrev pub is_short_item : Item → Bool
is_short_item (item.Do c) = has_short_cells c
is_short_item (item.Wait ms) = true
is_short_item (item.Speak text) = is_short text

abbrev pub are_short_items : List Item → Bool
are_short_items items = list_all is_short_item items

abbrev pub has_short_items : Object → Bool
has_short_items o = are_short_items o.items

abbrev pub is_short_kind : KindPart → Bool
is_short_kind (kind.Event o script user) = is_short script
is_short_kind (kind.Stored o c) = has_short_cells c
is_short_kind (kind.Turn o) = true
is_short_kind (kind.Unapply o) = true

abbrev pub is_short_entry : Entry → Bool
is_short_entry e = is_short_kind e.kind
