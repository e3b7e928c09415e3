use Rattle.std.proofs.Common.{Some, subst}
use Rattle.nwq_value.specs.Index.{Puts}
use Rattle.gff_write.proofs.LabelLemmas.{values_grow, table_grows}
use Rattle.gff_write.proofs.labels.push_label.Goals as goal

pub returns-clause-table : goal.returns-clause-table
returns-clause-table c =
    let puts = subst (λ label. Puts label (Some c.len-number.result) c.args.numbers.now c.set.new.self) c.as_slice.ensures c.in_ok-set.ensures.ok in
    table_grows c.args.rows.now.entries c.args.numbers.now c.args.label.now c.requires.table c.insert.new.self.entries c.set.new.self c.len-number.result c.len-number.ensures.len
    c.in_ok-insert.ensures.entries c.requires.new puts

pub returns-clause-rows : goal.returns-clause-rows
returns-clause-rows c =
    values_grow c.args.rows.now.entries c.args.numbers.now c.args.label.now c.requires.table c.insert.new.self.entries c.len-number.result c.len-number.ensures.len c.in_ok-insert.ensures.entries
