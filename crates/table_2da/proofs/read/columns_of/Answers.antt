use Rattle.std.proofs.Common.{◌≡◌, true, false, sym, ap, subst, ◌∙◌}
use Rattle.std.specs.Option.{option_map}
use Rattle.table_2da.specs.declared.words.Part.TheVariants.{Columns}
use Rattle.table_2da.specs.Grammar.{are_columns, column_limit}
use Rattle.table_2da.specs.Ranges.{cells_at, SaysFew}
use Rattle.table_2da.specs.Steps.{Found}
use Rattle.table_2da.proofs.RowLemmas.{columns_unsaid, columns_refused}
use Rattle.table_2da.proofs.read.columns_of.Goals as goal

pub returns-in-None : goal.returns-in-None
returns-in-None c = record {
  columns = columns_unsaid c.args.line.now
      (subst (λ read. Found (SaysFew Columns column_limit c.args.line.now) (option_map (cells_at c.args.file.now) read)) c.in-None.is
      (c.in_ok-ranges_of.ensures.said c.args.file.now c.requires.stands));
}

pub returns-then-are_columns : goal.returns-then-are_columns
returns-then-are_columns c =
    let few = subst (λ read. Found (SaysFew Columns column_limit c.args.line.now) (option_map (cells_at c.args.file.now) read)) c.in-Some.is
    (c.in_ok-ranges_of.ensures.said c.args.file.now c.requires.stands) in
    let are : are_columns (cells_at c.args.file.now c.in-Some.names) ≡ true
    = ap (λ names. are_columns (cells_at c.args.file.now names)) (sym c.as_slice.ensures.items) ∙ sym c.are_columns.ensures.columns ∙ c.if-are_columns.true in
    record { columns = record { says = few.says; are = are } }

pub returns-else-are_columns : goal.returns-else-are_columns
returns-else-are_columns c =
    let few = subst (λ read. Found (SaysFew Columns column_limit c.args.line.now) (option_map (cells_at c.args.file.now) read)) c.in-Some.is
    (c.in_ok-ranges_of.ensures.said c.args.file.now c.requires.stands) in
    let other : are_columns (cells_at c.args.file.now c.in-Some.names) ≡ false
    = ap (λ names. are_columns (cells_at c.args.file.now names)) (sym c.as_slice.ensures.items) ∙ sym c.are_columns.ensures.columns ∙ c.if-are_columns.false in
    record { columns = λ a is. columns_refused c.args.line.now (cells_at c.args.file.now c.in-Some.names) a few.says other is }
