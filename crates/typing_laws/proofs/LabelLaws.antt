-- What is made of expressions weighs more than its code has labels.
use Rattle.std.proofs.Common.{◌≡◌, ◌≤◌, ◌+◌, ℕ, Bool, true, false, List, [], ◌∷◌, Option, Some, None, arith, refl}
use Rattle.std.specs.Prelude.{if◌then◌else◌}
use Rattle.typing_rules.specs.Typed.{TypedExpr, TypedExprs, TypedItem, TypedName, literal, name, call, member, prefix, postfix, binary, assign, no_typed, more_typed}
use Rattle.typing_rules.specs.Cells.{is_captured}
use Rattle.emission_rules.specs.Bounds.{weight, all_weight, some_weight, names_weight}
use Rattle.emission_rules.specs.Expressions.{Shortcut, WhereTrue, WhereFalse, Never, argument_labels, shortcut, shortcut_labels, labels, all_labels}
use Rattle.emission_rules.specs.Statements.{names_labels, some_labels}
use Rattle.emission_rules.specs.Units.{globals_labels, start_labels}

shortcut_few : (s : Shortcut) → shortcut_labels s ≤ 2
shortcut_few WhereTrue = omega arith
shortcut_few WhereFalse = omega arith
shortcut_few Never = omega arith

argument_few : (captured : Bool) → argument_labels captured ≤ 1
argument_few true = omega arith
argument_few false = omega arith

mutual
  pub labels_few : (x : TypedExpr) → labels x + 32 ≤ weight x
  labels_few (literal k) = omega arith
  labels_few (name t p) = omega arith
  labels_few (call t f xs ks) = omega (arith, all_labels_few xs)
  labels_few (member t x offset) = omega (arith, labels_few x)
  labels_few (prefix t o x) = omega (arith, labels_few x)
  labels_few (postfix t o x) = omega (arith, labels_few x)
  labels_few (binary t o x y) = omega (arith, shortcut_few (shortcut o), labels_few x, labels_few y)
  labels_few (assign t o x y) = omega (arith, labels_few x, labels_few y)

  pub all_labels_few : (xs : TypedExprs) → all_labels xs ≤ all_weight xs
  all_labels_few no_typed = omega arith
  all_labels_few (more_typed x xs) = omega (arith, labels_few x, all_labels_few xs, argument_few (is_captured x))

pub some_few : (x : Option TypedExpr) → some_labels x ≤ some_weight x
some_few None = omega arith
some_few (Some x) = omega (arith, labels_few x)

pub names_few : (xs : List TypedName) → names_labels xs ≤ names_weight xs
names_few [] = omega arith
names_few (x ∷ xs) = omega (arith, some_few x.value, names_few xs)

-- the labels of a switch, one statement more
pub one_counted : (own : Bool) (n : ℕ) → (if own then 1 + n else n) ≡ (if own then 1 else 0) + n
one_counted true n = refl
one_counted false n = omega arith

pub start_few : (some : Bool) (items : List TypedItem) → start_labels some items ≤ 1 + globals_labels items
start_few true items = omega arith
start_few false items = omega arith
