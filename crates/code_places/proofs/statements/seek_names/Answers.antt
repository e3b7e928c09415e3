use Rattle.std.proofs.Common.{◌∙◌, ap, sym, option_map}
use Rattle.typing_rules.specs.Reading.{plain}
use Rattle.typing_rules.specs.UnitReading.{typed_names}
use Rattle.code_places.specs.Numbers as numbers
use Rattle.code_places.specs.Marks as marks
use Rattle.code_places.specs.Seeking.{sought}
use Rattle.code_places.proofs.Loops.{done, step}
use Rattle.code_places.proofs.Seeking.{parts, sought_none}
use Rattle.code_places.proofs.statements.seek_names.Goals as goal

pub loop-name-preserved : goal.loop-name-preserved
loop-name-preserved c =
    step (λ ys. sought (marks.names_marks c.args.layout.now c.loop-name.node (typed_names ys)) c.loop-name.seek)
    (λ ys. sought (marks.names_marks c.args.layout.now c.behind_if-node.result (typed_names ys)) c.seek_initial-seek.result) _ _ c.name-item.result _
    c.name-item.is c.loop-name-test.true
    (λ ys. sym (parts c.loop-name.seek _ _ c.seek_initial-seek.ensures
    (ap (λ n. sought (marks.names_marks c.args.layout.now n (typed_names ys)) c.seek_initial-seek.result)
    (c.behind_if-node.ensures ∙ ap (λ n. numbers.behind_if n (option_map plain c.name-item.result.value)) c.next.ensures))))
    c.loop-name.invariant

pub returns : goal.returns
returns c = done (λ ys. sought (marks.names_marks c.args.layout.now c.loop-name.node (typed_names ys)) c.loop-name.seek) _ _ _ _ c.loop-name-test.false (sought_none c.loop-name.seek)
    c.loop-name.invariant
