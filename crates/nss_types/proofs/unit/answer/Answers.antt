use Rattle.std.proofs.Common.{◌∙◌, ap, map}
use Rattle.nss_tree.specs.Reading.{plain_item}
use Rattle.typing_rules.specs.Verdicts.{heads}
use Rattle.nss_types.proofs.unit.answer.Goals as goal

pub answer_by-answered-requires : goal.answer_by-answered-requires
answer_by-answered-requires c = record { declared = c.in_ok-declared.ensures ∙ ap (λ ys. heads c.args.table.now (map plain_item ys)) c.as_slice.ensures.items }
