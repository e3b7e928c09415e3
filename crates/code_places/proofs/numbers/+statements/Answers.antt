use Rattle.std.proofs.Common.{◌≡◌, ◌∙◌, ap, ap₂, sym, refl, option_map}
use Rattle.nwq_value.specs.declared.value.Ty.{Ty}
use Rattle.nwq_value.specs.declared.engine.Const.{Const}
use Rattle.nss_tree.specs.declared.statements.Stmt.{Stmt}
use Rattle.nss_tree.specs.Readings.{stmts_more, tree_for_loop, tree_if_else}
use Rattle.nss_tree.specs.Reading.{tree_of_stmts}
use Rattle.nss_tree.specs.Statements.{map_stmt, map_stmts}
use Rattle.typing_rules.specs.declared.expressions.Expression.{Expression}
use Rattle.typing_rules.specs.declared.places.Variable.{Variable}
use Rattle.typing_rules.specs.Reading.{plain}
use Rattle.typing_rules.specs.UnitReading.{typed_stmt, typed_stmts}
use Rattle.code_places.specs.Numbers as numbers
use Rattle.code_places.proofs.Loops.{done, step}
use Rattle.code_places.proofs.numbers.+statements.Goals as goal

abbrev S : Type 0
S = Stmt Expression Const Ty Variable

-- behind a statement in a box
boxed : (a b : numbers.Number) (x v : S) → a ≡ b → x ≡ v → numbers.behind_stmt a (typed_stmt x) ≡ numbers.behind_stmt b (typed_stmt v)
boxed a b x v e f = ap₂ (λ n z. numbers.behind_stmt n (typed_stmt z)) e f

pub behind_stmt-returns-in-IfElse : goal.behind_stmt-returns-in-IfElse
behind_stmt-returns-in-IfElse t c =
    c.behind_stmt-in-IfElse.ensures
    ∙ (boxed _ _ _ _ (c.behind_stmt-node.ensures
    ∙ boxed _ _ _ _ (c.behind-in-IfElse.ensures ∙ ap (λ n. numbers.behind n (plain c.in-IfElse.condition)) c.next-node.ensures) c.deref-in-IfElse.ensures) c.deref-in-IfElse-2.ensures
    ∙ ap (λ s. numbers.behind_stmt c.args.node (map_stmt plain s)) (sym (tree_if_else _ _ _ _ _ c.in-IfElse.is)))

pub behind_stmt-returns-in-For : goal.behind_stmt-returns-in-For
behind_stmt-returns-in-For t c =
    c.behind_stmt-in-For.ensures
    ∙ (boxed _ _ _ _ (c.behind_if-in-For.ensures ∙ ap (λ n. numbers.behind_if n (option_map plain c.in-For.step)) (c.behind_if-node.ensures
    ∙ ap (λ n. numbers.behind_if n (option_map plain c.in-For.condition)) (c.behind_if.ensures
    ∙ ap (λ n. numbers.behind_if n (option_map plain c.in-For.start)) c.next-node.ensures))) c.deref-in-For.ensures
    ∙ ap (λ s. numbers.behind_stmt c.args.node (map_stmt plain s)) (sym (tree_for_loop _ _ _ _ _ _ c.in-For.is)))

pub behind_stmts-loop-stmt-preserved : goal.behind_stmts-loop-stmt-preserved
behind_stmts-loop-stmt-preserved t c =
    step (λ ys. numbers.behind_stmts c.loop-stmt.node (typed_stmts ys)) (λ ys. numbers.behind_stmts c.behind_stmt-node.result (typed_stmts ys)) _ _ c.stmt-item.result _
    c.stmt-item.is c.loop-stmt-test.true
    (λ ys. ap (λ zs. numbers.behind_stmts c.loop-stmt.node (map_stmts plain zs)) (stmts_more c.stmt-item.result ys)
    ∙ ap (λ k. numbers.behind_stmts k (typed_stmts ys)) (sym c.behind_stmt-node.ensures))
    c.loop-stmt.invariant

pub behind_stmts-returns : goal.behind_stmts-returns
unfolding tree_of_stmts
behind_stmts-returns t c =
    done (λ ys. numbers.behind_stmts c.loop-stmt.node (typed_stmts ys)) _ _ c.loop-stmt.node _ c.loop-stmt-test.false refl c.loop-stmt.invariant
