use Rattle.std.proofs.Common.{◌<◌, length, sym, ap, subst, ◌∙◌}
use Rattle.std.specs.Option.{option_map}
use Rattle.table_2da.specs.declared.words.Part.TheVariants.{Row}
use Rattle.table_2da.specs.Grammar.{row_limit}
use Rattle.table_2da.specs.Ranges.{cells_at, rows_at, SaysFew}
use Rattle.table_2da.specs.Steps.{Found}
use Rattle.table_2da.proofs.RowLemmas.{cells_unsaid, cells_added, rows_count, rows_last}
use Rattle.table_2da.proofs.read.add_cells.Goals as goal

pub returns-in-None : goal.returns-in-None
returns-in-None c = record {
  took = λ file s a adds.
      cells_unsaid c.args.width (rows_at file c.args.rows.now) a c.args.line.now
      (subst (λ read. Found (SaysFew Row c.args.width c.args.line.now) (option_map (cells_at file) read)) c.in-None.is (c.in_ok-ranges_of.ensures.said file s)) adds;
}

pub returns-in_ok-push-in-Some : goal.returns-in_ok-push-in-Some
returns-in_ok-push-in-Some c =
    let room : length c.args.rows.now < row_limit = subst (λ n. n < row_limit) c.len.ensures.len c.if-len-ge-MOST_ROWS.false in
    record {
      took = λ file s.
          cells_added c.args.width (rows_at file c.args.rows.now) (rows_at file c.push.new.self) c.args.line.now (cells_at file c.in-Some.cells)
          (subst (λ read. Found (SaysFew Row c.args.width c.args.line.now) (option_map (cells_at file) read)) c.in-Some.is (c.in_ok-ranges_of.ensures.said file s))
          (subst (λ n. n < row_limit) (sym (rows_count file c.args.rows.now)) room)
          (ap (rows_at file) c.in_ok-push-in-Some.ensures.ok ∙ rows_last file c.args.rows.now c.in-Some.cells);
    }
