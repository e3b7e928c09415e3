use Rattle.std.proofs.Common.{◌∙◌, ap, sym}
use Rattle.nwq_value.specs.declared.value.Ty.TheVariants.{Void}
use Rattle.code_places.specs.Marks as marks
use Rattle.code_places.specs.Seeking.{sought}
use Rattle.code_places.proofs.Loops.{done, step_any}
use Rattle.code_places.proofs.Seeking.{sought_more, sought_none}
use Rattle.code_places.proofs.lines.pass_started.Goals as goal

pub loop-cell-preserved : goal.loop-cell-preserved
loop-cell-preserved c =
    step_any (λ ys. sought (marks.started_marks c.args.node ys) c.loop-cell.seek) (λ ys. sought (marks.started_marks c.args.node ys) c.pass-seek.result) _ _ Void _
    c.loop-cell-test.true
    (λ x ys. sought_more (marks.mark 2 c.args.node) (marks.started_marks c.args.node ys) c.loop-cell.seek
    ∙ ap (sought (marks.started_marks c.args.node ys)) (sym c.pass-seek.ensures))
    c.loop-cell.invariant

pub returns : goal.returns
returns c = done (λ ys. sought (marks.started_marks c.args.node ys) c.loop-cell.seek) _ _ _ _ c.loop-cell-test.false (sought_none c.loop-cell.seek) c.loop-cell.invariant
