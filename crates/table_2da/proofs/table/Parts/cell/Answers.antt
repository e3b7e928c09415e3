use Rattle.std.proofs.Common.{[], Some, None, unwrap_or, w32, ap, ◌∙◌}
use Rattle.std.specs.Option.{option_copied}
use Rattle.std.proofs.lemmas.Int.{to_z-of_z}
use Rattle.table_2da.specs.Look.{row_numbered}
use Rattle.table_2da.specs.Ranges.{bytes_at, rows_at}
use Rattle.table_2da.proofs.LookLemmas.{no_column, one_cell, found_is}
use Rattle.table_2da.proofs.table.Parts.cell.Goals as goal

pub returns-in_err-place : goal.returns-in_err-place
returns-in_err-place c =
    let file = c.args.self.now.file.items in
    record {
      cell = ap (λ r. unwrap_or (option_copied r) []) c.from_residual.ensures
          ∙ no_column file c.args.column.now c.args.row c.args.self.now.columns c.args.self.now.rows
          (found_is file c.as_slice-file.result.now c.args.column.now c.args.self.now.columns c.as_slice.result.now None c.as_slice-file.ensures.value
          c.as_slice.ensures.items c.in_err-place.ensures.place);
    }

pub returns-in_err-cell : goal.returns-in_err-cell
returns-in_err-cell c =
    let file = c.args.self.now.file.items in
    record {
      cell = ap (λ r. unwrap_or (option_copied r) []) c.from_residual-in_err-cell.ensures
          ∙ one_cell file c.args.column.now c.args.row c.args.self.now.columns c.args.self.now.rows c.in_ok-place.place c.in_ok-cells.cells.now None
          (found_is file c.as_slice-file.result.now c.args.column.now c.args.self.now.columns c.as_slice.result.now (Some c.in_ok-place.place) c.as_slice-file.ensures.value
          c.as_slice.ensures.items c.in_ok-place.ensures.place)
          (c.in_ok-cells.ensures.cells file ∙ ap (λ row. row_numbered row (rows_at file c.as_slice-2.result.now)) (to_z-of_z w32 c.args.row c.ranges.row)
          ∙ ap (λ rows. row_numbered c.args.row (rows_at file rows)) c.as_slice-2.ensures.items) c.in_err-cell.ensures.item;
    }

pub returns : goal.returns
returns c =
    let file = c.args.self.now.file.items in
    record {
      cell = c.bytes_at.ensures.bytes ∙ ap (λ f. bytes_at f c.in_ok-cell.cell.now) c.as_slice-file.ensures.value
          ∙ one_cell file c.args.column.now c.args.row c.args.self.now.columns c.args.self.now.rows c.in_ok-place.place c.in_ok-cells.cells.now (Some c.in_ok-cell.cell.now)
          (found_is file c.as_slice-file.result.now c.args.column.now c.args.self.now.columns c.as_slice.result.now (Some c.in_ok-place.place) c.as_slice-file.ensures.value
          c.as_slice.ensures.items c.in_ok-place.ensures.place)
          (c.in_ok-cells.ensures.cells file ∙ ap (λ row. row_numbered row (rows_at file c.as_slice-2.result.now)) (to_z-of_z w32 c.args.row c.ranges.row)
          ∙ ap (λ rows. row_numbered c.args.row (rows_at file rows)) c.as_slice-2.ensures.items) c.in_ok-cell.ensures.item;
    }
