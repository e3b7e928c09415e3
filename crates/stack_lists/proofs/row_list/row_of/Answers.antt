use Rattle.stack_lists.proofs.RowListLemmas.{get_past}
use Rattle.stack_lists.proofs.row_list.row_of.Goals as goal

pub unreachable-requires : goal.unreachable-requires
unreachable-requires c = get_past c.args.settings.now c.args.short.setting c.in-None.ensures.item c.requires.there
