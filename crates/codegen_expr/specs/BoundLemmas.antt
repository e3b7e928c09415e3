-- Typed expressions keep the bounds of emission where more functions have labels, and their types
-- take few cells. No contract speaks of these lemmas: they serve the proofs here and of whole units.
use Rattle.std.proofs.Common.{◌≤◌, ◌+◌, ℕ, length, arith}
use Rattle.nwq_value.specs.Limits.{struct_cell_limit}
use Rattle.nwq_value.specs.declared.engine.Const.{Const}
use Rattle.nwq_value.specs.declared.engine.Const.TheVariants as const
use Rattle.typing_rules.specs.declared.places.Callee.{Callee}
use Rattle.typing_rules.specs.declared.places.Callee.TheVariants.{Unit as InUnit, Engine}
use Rattle.typing_rules.specs.Typed.{TypedExpr, TypedExprs, literal, name, call, member, prefix, postfix, binary, assign, no_typed, more_typed, type_of}
use Rattle.typing_rules.specs.Cells.{cells}
use Rattle.emission_rules.specs.Bounds.{IsCallee, IsExpr, AreExprs}
use Rattle.emission_rules.specs.Layout.{Layout}
use Rattle.emission_rules.specs.Expressions.{count_arguments}

-- ---- more functions have labels

pub callee_grows : (n m count : ℕ) (f : Callee) → n ≤ m → IsCallee n count f → IsCallee m count f
callee_grows n m count (InUnit f) le is = omega arith
callee_grows n m count (Engine routine) le is = is

mutual
  pub grows : (n m : ℕ) (l : Layout) (x : TypedExpr) → n ≤ m → IsExpr n l x → IsExpr m l x
  grows n m l (literal k) le is = is
  grows n m l (name t p) le is = is
  grows n m l (call t f xs ks) le is = (
    is.0,
    callee_grows n m (count_arguments xs + length ks) f le is.1,
    is.2,
    all_grow n m l xs le is.3,
  )
  grows n m l (member t x offset) le is = (is.0, is.1, is.2, grows n m l x le is.3)
  grows n m l (prefix t o x) le is = (is.0, grows n m l x le is.1)
  grows n m l (postfix t o x) le is = (is.0, grows n m l x le is.1)
  grows n m l (binary t o x y) le is =
      (is.0, is.1, is.2, grows n m l x le is.3, grows n m l y le is.4)
  grows n m l (assign t o x y) le is = (is.0, grows n m l x le is.1, grows n m l y le is.2)

  pub all_grow : (n m : ℕ) (l : Layout) (xs : TypedExprs) → n ≤ m → AreExprs n l xs
      → AreExprs m l xs
  all_grow n m l no_typed le are = tt
  all_grow n m l (more_typed x xs) le are = (grows n m l x le are.0, all_grow n m l xs le are.1)

-- ---- types take few cells

const_few : (l : Layout) (k : Const) → cells l.structs (type_of (literal k)) ≤ struct_cell_limit
const_few l (const.Int n) = omega arith
const_few l (const.Text bytes) = omega arith
const_few l const.SelfObject = omega arith
const_few l const.InvalidObject = omega arith

pub type_few : (n : ℕ) (l : Layout) (x : TypedExpr) → IsExpr n l x
    → cells l.structs (type_of x) ≤ struct_cell_limit
type_few n l (literal k) is = const_few l k
type_few n l (name t p) is = is.0.few
type_few n l (call t f xs ks) is = is.0.few
type_few n l (member t x offset) is = is.0.few
type_few n l (prefix t o x) is = is.0.few
type_few n l (postfix t o x) is = is.0.few
type_few n l (binary t o x y) is = is.0.few
type_few n l (assign t o x y) is = is.0.few
