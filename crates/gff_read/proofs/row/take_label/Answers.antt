use Rattle.gff_read.proofs.RowLemmas.{inserts_label}
use Rattle.gff_read.proofs.row.take_label.Goals as goal

pub returns-then-branch-clause-added : goal.returns-then-branch-clause-added
returns-then-branch-clause-added c = inserts_label c.args.used.now c.insert.new.self c.before_zero-text.result c.held.result c.held.ensures.same c.in_ok-insert.ensures.updates
