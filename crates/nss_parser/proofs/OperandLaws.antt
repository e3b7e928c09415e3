-- An operator and the operand after it, read at once.
use Rattle.std.proofs.Common.{◌≡◌, ℕ, ◌+◌, List, Some, Option, refl, ap, ◌∙◌}
use Rattle.nss_tree.specs.Expressions as tree
use Rattle.nss_tree.specs.Expressions.{PlainExpr}
use Rattle.nss_tree.specs.declared.operators.PrefixOperator.{PrefixOperator}
use Rattle.nss_tree.specs.declared.operators.BinaryOperator.{BinaryOperator}
use Rattle.nss_tree.specs.declared.operators.AssignOperator.{AssignOperator}
use Rattle.nss_symbols.specs.Symbols.{Numbered}
use Rattle.nss_symbols.specs.Outcome.{Outcome, Got, Stuck, Deep, Parser, and_then, ◌>>=◌, pure, take, first}
use Rattle.nss_parser.specs.Operators.{level_of, unary_level}
use Rattle.nss_parser.specs.ReadExpression.{prefix_of, assign_of, operand, prefix, operation, assigned, prefix_by, assigned_by}

module _ (level : ℕ → Parser PlainExpr) (least : ℕ) (f : ℕ → PlainExpr → PlainExpr) where
  after_operand : (n : ℕ) (o : Outcome PlainExpr) → and_then o (λ x. pure (f n x)) ≡ and_then (and_then {B = ℕ × PlainExpr} o (λ x. pure (n, x))) (λ p. pure (f p.0 p.1))
  after_operand n (Got x r) = refl
  after_operand n (Stuck r) = refl
  after_operand n Deep = refl

  after_number : (o : Outcome ℕ) → and_then o (λ n. level least >>= λ x. pure (f n x)) ≡ and_then (and_then {B = ℕ × PlainExpr} o (λ n. level least >>= λ x. pure (n, x))) (λ p. pure (f p.0 p.1))
  after_number (Got n r) = after_operand n (level least r)
  after_number (Stuck r) = refl
  after_number Deep = refl

  operand_is : (i : List Numbered) → and_then (take i) (λ n. level least >>= λ x. pure (f n x)) ≡ and_then (operand level least i) (λ p. pure (f p.0 p.1))
  unfolding operand
  operand_is i = after_number (take i)

module _ (d : ℕ) (level : ℕ → Parser PlainExpr) where
  pub prefix_is : (o : PrefixOperator) (i : List Numbered) → prefix_of (first i) ≡ Some o → prefix d level i ≡ and_then (operand level unary_level i) (λ p. pure (tree.prefix p.0 o p.1))
  unfolding prefix
  prefix_is o i e = ap (λ (z : Option PrefixOperator). prefix_by d level z i) e ∙ operand_is level unary_level (λ n x. tree.prefix n o x) i

  pub operation_is : (o : BinaryOperator) (left : PlainExpr) (i : List Numbered) → operation d level o left i ≡ and_then (operand level (level_of o + 1) i) (λ p. pure (tree.binary p.0 o left p.1))
  unfolding operation
  operation_is o left i = operand_is level (level_of o + 1) (λ n x. tree.binary n o left x) i

  pub assigned_is : (o : AssignOperator) (left : PlainExpr) (i : List Numbered) → assign_of (first i) ≡ Some o
      → assigned d level left i ≡ and_then (operand level 0 i) (λ p. pure (tree.assign p.0 o left p.1))
  unfolding assigned
  assigned_is o left i e = ap (λ (z : Option AssignOperator). assigned_by d level left z i) e ∙ operand_is level 0 (λ n x. tree.assign n o left x) i
