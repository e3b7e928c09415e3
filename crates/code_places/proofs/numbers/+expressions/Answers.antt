use Rattle.std.proofs.Common.{◌≡◌, ◌∙◌, ap, ap₂, sym}
use Rattle.typing_rules.specs.Reading.{plain, plain_all}
use Rattle.typing_rules.specs.Readings.{plain_all_more, plain_all_none, plain_assign, plain_binary}
use Rattle.typing_rules.specs.declared.expressions.Expression.{Expression}
use Rattle.code_places.specs.Numbers as numbers
use Rattle.code_places.proofs.Loops.{done, step}
use Rattle.code_places.proofs.numbers.+expressions.Goals as goal

two_behind : (k of a b : numbers.Number) (x y v w : Expression) → of ≡ numbers.next k → a ≡ numbers.behind of (plain x) → b ≡ numbers.behind a (plain y) → x ≡ v → y ≡ w
    → b ≡ numbers.behind (numbers.behind (numbers.next k) (plain v)) (plain w)
two_behind k of a b x y v w e f g h i =
    g ∙ ap₂ (λ n z. numbers.behind n (plain z)) (f ∙ ap₂ (λ n z. numbers.behind n (plain z)) e h) i

pub behind-returns-in-Binary : goal.behind-returns-in-Binary
behind-returns-in-Binary t c =
    two_behind c.args.node _ _ _ c.deref-in-Binary.result.now c.deref-in-Binary-2.result.now _ _ c.next-node.ensures c.behind-in-Binary.ensures c.behind-in-Binary-2.ensures
    c.deref-in-Binary.ensures c.deref-in-Binary-2.ensures
    ∙ ap (numbers.behind c.args.node) (sym (plain_binary _ _ _ _ _ c.in-Binary.is))

pub behind-returns-in-Assign : goal.behind-returns-in-Assign
behind-returns-in-Assign t c =
    two_behind c.args.node _ _ _ c.deref-in-Assign.result.now c.deref-in-Assign-2.result.now _ _ c.next-node.ensures c.behind-in-Assign.ensures c.behind-in-Assign-2.ensures
    c.deref-in-Assign.ensures c.deref-in-Assign-2.ensures
    ∙ ap (numbers.behind c.args.node) (sym (plain_assign _ _ _ _ _ c.in-Assign.is))

pub behind_all-loop-argument-preserved : goal.behind_all-loop-argument-preserved
behind_all-loop-argument-preserved t c =
    step (λ ys. numbers.behind_all c.loop-argument.node (plain_all ys)) (λ ys. numbers.behind_all c.behind-node.result (plain_all ys)) _ _ c.argument-item.result _
    c.argument-item.is c.loop-argument-test.true
    (λ ys. ap (numbers.behind_all c.loop-argument.node) (plain_all_more _ ys) ∙ ap (λ k. numbers.behind_all k (plain_all ys)) (sym c.behind-node.ensures))
    c.loop-argument.invariant

pub behind_all-returns : goal.behind_all-returns
behind_all-returns t c =
    done (λ ys. numbers.behind_all c.loop-argument.node (plain_all ys)) _ _ _ _ c.loop-argument-test.false
    (ap (numbers.behind_all c.loop-argument.node) plain_all_none) c.loop-argument.invariant
