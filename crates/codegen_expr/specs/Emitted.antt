-- Labelled code that grows at its end, and when an expression's code can be added.
use Rattle.std.specs.Prelude.{ℕ, ◌+◌, ◌<◌, ◌≤◌, ◌^◌, List, ◌++◌}
use Rattle.ncs_emit.specs.Labelled.{Line, LabelledCode}
use Rattle.typing_rules.specs.Typed.{TypedExpr, TypedExprs}
use Rattle.emission_rules.specs.Layout.{Layout}
use Rattle.emission_rules.specs.Bounds.{frame_limit, weight, all_weight, IsExpr, AreExprs}
use Rattle.emission_rules.specs.Expressions.{labels, all_labels}

-- the code with further lines, for which so many labels were made
abbrev pub extended : LabelledCode → List Line → ℕ → LabelledCode
extended code lines count = record { lines = code.lines ++ lines; labels = code.labels + count }

-- Where so many labels were made, an expression's code can be added at a depth: it keeps the
-- bounds, its calls are of functions that have labels, and depth and labels stay small numbers.
pub record CanBeEmitted (made : ℕ) (l : Layout) (depth : ℕ) (x : TypedExpr) : Type 0 where
  pub bounded : IsExpr made l x
  pub deep : depth + weight x ≤ frame_limit
  pub globals : l.globals ≤ frame_limit
  pub labelled : made + labels x < 2 ^ 32

-- the same of arguments
pub record AreReady (made : ℕ) (l : Layout) (depth : ℕ) (xs : TypedExprs) : Type 0 where
  pub bounded : AreExprs made l xs
  pub deep : depth + all_weight xs ≤ frame_limit
  pub globals : l.globals ≤ frame_limit
  pub labelled : made + all_labels xs < 2 ^ 32
