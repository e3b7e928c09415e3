use Rattle.std.proofs.Common.{◌∙◌, ap, sym, refl}
use Rattle.nss_tree.specs.Reading.{tree_of_stmts}
use Rattle.nss_tree.specs.Readings.{stmts_more}
use Rattle.nss_tree.specs.Statements.{map_stmts}
use Rattle.typing_rules.specs.Reading.{plain}
use Rattle.typing_rules.specs.UnitReading.{typed_stmts}
use Rattle.code_places.specs.Marks as marks
use Rattle.code_places.specs.Seeking.{sought}
use Rattle.code_places.proofs.Loops.{done, step}
use Rattle.code_places.proofs.Seeking.{parts, sought_none}
use Rattle.code_places.proofs.statements.seek_tests.Goals as goal

pub loop-stmt-preserved : goal.loop-stmt-preserved
loop-stmt-preserved c =
    step (λ ys. sought (marks.tests_marks c.args.of (typed_stmts ys)) c.loop-stmt.seek) (λ ys. sought (marks.tests_marks c.args.of (typed_stmts ys)) c.seek_test-seek.result) _ _
    c.stmt-item.result _ c.stmt-item.is c.loop-stmt-test.true
    (λ ys. ap (λ zs. sought (marks.tests_marks c.args.of (map_stmts plain zs)) c.loop-stmt.seek) (stmts_more c.stmt-item.result ys)
    ∙ sym (parts c.loop-stmt.seek _ (marks.tests_marks c.args.of (typed_stmts ys)) c.seek_test-seek.ensures refl))
    c.loop-stmt.invariant

pub returns : goal.returns
unfolding tree_of_stmts
returns c = done (λ ys. sought (marks.tests_marks c.args.of (typed_stmts ys)) c.loop-stmt.seek) _ _ c.loop-stmt.seek _ c.loop-stmt-test.false (sought_none c.loop-stmt.seek) c.loop-stmt.invariant
