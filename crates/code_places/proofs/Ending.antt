-- How large a statement is, so that the way through its parts comes to an end.
use Rattle.std.proofs.Common.{◌≡◌, ◌<◌, ◌+◌, ℕ, zero, suc, List, [], ◌∷◌, length, get_or, ap, refl, arith}
use Rattle.nwq_value.specs.declared.value.Ty.{Ty}
use Rattle.nwq_value.specs.declared.engine.Const.{Const}
use Rattle.nss_tree.specs.Reading.{tree_of_stmt}
use Rattle.nss_tree.specs.Readings.{stmts_more}
use Rattle.nss_tree.specs.Statements.{PlainStmt, map_stmt, map_stmts, block, if_only, if_else, while_loop, do_loop, for_loop, switch, no_stmt, more_stmts}
use Rattle.typing_rules.specs.declared.expressions.Expression.{Expression}
use Rattle.typing_rules.specs.declared.places.Variable.{Variable}
use Rattle.typing_rules.specs.Reading.{plain}
use Rattle.typing_rules.specs.UnitReading.{typed_stmt, typed_stmts}
use Rattle.typing_rules.specs.Typed.{TypedStmt, TypedStmts}
use Rattle.code_places.proofs.Stmts.{S}

abbrev mutual
  pub extent : TypedStmt → ℕ
  extent (block n xs) = 3 + extents xs
  extent (if_only n e a) = 3 + extent a
  extent (if_else n e a b) = 3 + extent a + extent b
  extent (while_loop n e a) = 3 + extent a
  extent (do_loop n a e) = 3 + extent a
  extent (for_loop n x y z a) = 3 + extent a
  extent (switch n e xs) = 3 + extents xs
  extent _ = 0

  pub extents : TypedStmts → ℕ
  extents no_stmt = 0
  extents (more_stmts x xs) = 1 + extent x + extents xs

-- what is smaller than a statement that is known
pub falls : (the : S) (p : PlainStmt Expression Const Ty Variable) (t n : ℕ) → tree_of_stmt the ≡ p → extent (typed_stmt the) ≡ t
    → n < extent (map_stmt plain p) → n < t
falls the p t n is at less =
    let same : extent (typed_stmt the) ≡ extent (map_stmt plain p) = ap (λ z. extent (map_stmt plain z)) is in
    omega (arith, less, at, same)

same_extent : (x y : S) → x ≡ y → extent (typed_stmt x) ≡ extent (typed_stmt y)
same_extent x y is = ap (λ z. extent (typed_stmt z)) is

pub one_part : (x y : S) → x ≡ y → extent (typed_stmt x) + 1 < 3 + extent (typed_stmt y)
one_part x y is = omega (arith, same_extent x y is)

pub two_parts : (x y v w : S) → x ≡ y → v ≡ w → extent (typed_stmt x) + extent (typed_stmt v) + 1 < 3 + extent (typed_stmt y) + extent (typed_stmt w)
two_parts x y v w is same = omega (arith, same_extent x y is, same_extent v w same)

pub all_parts : (xs ys : List S) → xs ≡ ys → extents (typed_stmts xs) + 2 < 3 + extents (typed_stmts ys)
all_parts xs ys is =
    let same : extents (typed_stmts xs) ≡ extents (typed_stmts ys) = ap (λ zs. extents (typed_stmts zs)) is in
    omega (arith, same)

-- one of a row
more_extents : (y : S) (ys : List S) → extents (typed_stmts (y ∷ ys)) ≡ 1 + extent (typed_stmt y) + extents (typed_stmts ys)
more_extents y ys = ap (λ zs. extents (map_stmts plain zs)) (stmts_more y ys)

pub next_falls : (xs : List S) (i : ℕ) (x : S) (t : ℕ) → x ≡ get_or xs i x → i < length xs → extents (typed_stmts xs) + 1 ≡ t → extent (typed_stmt x) < t
next_falls [] i x t is lt at = absurd (omega arith)
next_falls (y ∷ ys) zero x t is lt at = omega (arith, at, more_extents y ys, same_extent x y is)
next_falls (y ∷ ys) (suc i) x t is lt at =
    let less : extent (typed_stmt x) < extents (typed_stmts ys) + 1 = next_falls ys i x (extents (typed_stmts ys) + 1) is (omega arith) refl in
    omega (arith, at, less, more_extents y ys)
