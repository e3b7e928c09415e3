use Rattle.std.proofs.Common.{◌∙◌}
use Rattle.std.specs.Bool.{nat_eq}
use Rattle.indexmap.proofs.CallerLemmas.{insert_entry-new}
use Rattle.nwq_value.proofs.table.push_routine.Goals as goal

pub returns-in-Ok-clause-entries : goal.returns-in-Ok-clause-entries
returns-in-Ok-clause-entries c =
    c.in-Ok.ensures.entries ∙ insert_entry-new nat_eq c.args.routines.now c.args.number c.args.routine c.requires.free
