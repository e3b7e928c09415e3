use Rattle.std.proofs.Common.{sym, ap, ◌∙◌}
use Rattle.table_2da.proofs.TableLemmas.{first_missing, first_bad, first_table, first_fault}
use Rattle.table_2da.proofs.read.read_table.Goals as goal

pub returns-in_default-clause-fault : goal.returns-in_default-clause-fault
returns-in_default-clause-fault c = first_missing c.args.bytes.now (ap (λ r. r.left) (sym c.of-lines.ensures.all) ∙ c.in_default.ensures.none)

pub returns-then-not-is_heading-clause-fault : goal.returns-then-not-is_heading-clause-fault
returns-then-not-is_heading-clause-fault c =
    first_bad c.args.bytes.now c.in-Some.line.bytes.now _ (ap (λ r. r.left) (sym c.of-lines.ensures.all) ∙ c.in-Some.ensures.first) c.if-not-is_heading.ensures.heading

pub returns-clause-table : goal.returns-clause-table
returns-clause-table c =
    first_table c.args.bytes.now c.in-Some.line.bytes.now _ c.read_second.result (ap (λ r. r.left) (sym c.of-lines.ensures.all) ∙ c.in-Some.ensures.first)
    c.if-not-is_heading.ensures.heading c.read_second.ensures.comes

pub returns-clause-fault : goal.returns-clause-fault
returns-clause-fault c =
    first_fault c.args.bytes.now c.in-Some.line.bytes.now _ c.read_second.result (ap (λ r. r.left) (sym c.of-lines.ensures.all) ∙ c.in-Some.ensures.first)
    c.if-not-is_heading.ensures.heading c.read_second.ensures.comes
