use Rattle.std.proofs.Common.{◌+◌, ◌-◌, length}
use Rattle.table_2da.specs.Fronts.{plain}
use Rattle.table_2da.specs.Grammar.{nothing}
use Rattle.table_2da.specs.Ranges.{rows_at}
use Rattle.table_2da.proofs.RangeLemmas.{rest_there, stands_within}
use Rattle.table_2da.proofs.RowLemmas.{open_adds, row_took}
use Rattle.table_2da.proofs.read.add_row.Goals as goal

pub returns-in-Nothing : goal.returns-in-Nothing
returns-in-Nothing c = record { took = λ file s. nothing c.args.line.now c.in-Nothing.ensures.front }

pub returns-in-Open : goal.returns-in-Open
returns-in-Open c = record { took = λ file s a. open_adds c.args.width (rows_at file c.args.rows.now) a c.args.line.now c.in-Open.ensures.front }

pub returns-in-Begins : goal.returns-in-Begins
returns-in-Begins c = record {
  took = row_took c.args.width c.args.place (c.args.place + (length c.args.line.now - length c.in-Begins.rest.now)) c.args.rows.now c.add_cells.new.rows
      c.args.line.now c.in-Begins.rest.now (plain c.in-Begins.field-0) c.add_cells.result c.in-Begins.ensures.front
      (λ file s. stands_within file c.args.line.now c.in-Begins.rest.now c.args.place (length c.args.line.now - length c.in-Begins.rest.now) s
      (rest_there c.args.line.now c.in-Begins.rest.now (plain c.in-Begins.field-0) c.in-Begins.ensures.front))
      c.add_cells.ensures.took;
}
