use Rattle.table_2da.proofs.LookLemmas.{same_by_test}
use Rattle.table_2da.proofs.table.same_name.Goals as goal

pub returns : goal.returns
returns c =
    record { test = same_by_test c.args.a.now c.args.b.now c.eq_ignore_ascii_case.result c.eq_ignore_ascii_case.ensures.test }
