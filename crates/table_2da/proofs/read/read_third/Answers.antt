use Rattle.std.proofs.Common.{Ok, length, sym, subst, ◌∙◌}
use Rattle.std.specs.Option.{option_map}
use Rattle.table_2da.specs.Grammar.{IsColumns}
use Rattle.table_2da.specs.Ranges.{cells_at, rows_at, StandsAt}
use Rattle.table_2da.specs.Steps.{Found, TableStopsAt, ReadsOn, ThirdOn}
use Rattle.table_2da.proofs.RangeLemmas.{line_there}
use Rattle.table_2da.proofs.RowLemmas.{cells_count}
use Rattle.table_2da.proofs.TableLemmas.{third_missing, third_bad, third_rows, third_fault}
use Rattle.table_2da.proofs.read.read_third.Goals as goal

pub returns-in_default : goal.returns-in_default
returns-in_default c = record { comes = third_missing c.args.lines.now.left c.in_default.ensures.none }

pub columns_of-requires-clause-stands : goal.columns_of-requires-clause-stands
columns_of-requires-clause-stands c =
    subst (λ text. StandsAt text c.in-Some.line.place c.in-Some.line.bytes.now) c.requires.file
    (line_there c.args.lines.now.text c.in-Some.line.bytes.now c.in-Some.line.place c.in-Some.ensures.inside c.in-Some.ensures.place)

pub returns-in_default-2 : goal.returns-in_default-2
returns-in_default-2 c = record {
  comes = third_bad c.args.lines.now.left _ c.in-Some.line.bytes.now c.in-Some.ensures.first
      (subst (λ columns. Found (IsColumns c.in-Some.line.bytes.now) (option_map (cells_at c.args.file.now) columns)) c.in_default-2.is c.in_ok-columns.ensures.columns);
}

pub returns-in-Err : goal.returns-in-Err
returns-in-Err c =
    let are = subst (λ columns. Found (IsColumns c.in-Some.line.bytes.now) (option_map (cells_at c.args.file.now) columns)) c.in-Some-2.is c.in_ok-columns.ensures.columns in
    record {
      comes = third_fault c.args.lines.now.left _ c.in-Some.line.bytes.now (cells_at c.args.file.now c.in-Some-2.columns) c.in-Err.fault c.in-Some.ensures.first are
          (subst (λ n. TableStopsAt n c.next_line.new.self.left c.in-Err.fault) (c.len.ensures.len ∙ sym (cells_count c.args.file.now c.in-Some-2.columns)) c.in-Err.ensures.fault);
    }

pub returns-in_ok-of-in-Ok : goal.returns-in_ok-of-in-Ok
returns-in_ok-of-in-Ok c =
    let are = subst (λ columns. Found (IsColumns c.in-Some.line.bytes.now) (option_map (cells_at c.args.file.now) columns)) c.in-Some-2.is c.in_ok-columns.ensures.columns in
    let rows = subst (λ n. ReadsOn n c.next_line.new.self.left (rows_at c.next_line.new.self.text c.in-Ok.rows))
    (c.len.ensures.len ∙ sym (cells_count c.args.file.now c.in-Some-2.columns)) c.in-Ok.ensures.rows in
    let here = subst (λ text. ReadsOn (length (cells_at c.args.file.now c.in-Some-2.columns)) c.next_line.new.self.left (rows_at text c.in-Ok.rows))
    (c.in-Some.ensures.text ∙ c.requires.file) rows in
    record {
      comes = subst (λ table. ThirdOn c.args.lines.now.left (Ok table)) (sym c.in_ok-of-in-Ok.ensures.parts)
          (third_rows c.args.lines.now.left _ c.in-Some.line.bytes.now (cells_at c.args.file.now c.in-Some-2.columns) (rows_at c.args.file.now c.in-Ok.rows)
          c.in-Some.ensures.first are here);
    }
