-- A typed expression keeps the bounds that its code needs, and its weight is bounded by the size of
-- its source.
use Rattle.std.proofs.Common.{◌≡◌, ℕ, zero, suc, ◌+◌, ◌*◌, ◌≤◌, Bool, true, false, if◌then◌else◌, not, List, [], ◌∷◌, length, Option, None, Some, slice_get, bytes_eq, refl, sym, subst, arith}
use Rattle.std.proofs.lemmas.Option.{same_Some, none-some}
use Rattle.std.proofs.lemmas.Bool.{and_parts}
use Rattle.std.specs.Prelude.{◌&&◌, ◌||◌, IsTrue, slice_index_or}
use Rattle.std.specs.List.{AllByRecursion}
use Rattle.nwq_value.specs.declared.value.Ty.{Ty}
use Rattle.nwq_value.specs.declared.value.Ty.TheVariants as ty
use Rattle.nwq_value.specs.declared.engine.Const.{Const}
use Rattle.nwq_value.specs.declared.engine.Const.TheVariants as const
use Rattle.nwq_value.specs.declared.engine.Param.{Param}
use Rattle.nwq_value.specs.Engine.{EngineTable, IsTable, const_type}
use Rattle.nwq_value.specs.Limits.{struct_cell_limit}
use Rattle.nss_tree.specs.declared.operators.BinaryOperator.{BinaryOperator}
use Rattle.nss_tree.specs.declared.operators.BinaryOperator.TheVariants as bin
use Rattle.nss_tree.specs.declared.operators.AssignOperator.{AssignOperator}
use Rattle.nss_tree.specs.declared.operators.AssignOperator.TheVariants as asg
use Rattle.nss_tree.specs.declared.operators.PrefixOperator.{PrefixOperator}
use Rattle.nss_tree.specs.declared.operators.PostfixOperator.{PostfixOperator}
use Rattle.nss_tree.specs.Expressions.{PlainExpr, PlainExprs}
use Rattle.typing_rules.specs.declared.places.Place.TheVariants.{Local, Global}
use Rattle.typing_rules.specs.Types.{is_int, is_compared, same_type, sum_type, of_ints, binary_type, assigned_type, is_step}
use Rattle.typing_rules.specs.Typed.{TypedExpr, TypedExprs, type_of, is_place}
use Rattle.typing_rules.specs.Typed as typed
use Rattle.typing_rules.specs.Sight.{Meaning, variable, constant, Member, Members, Structure, Head, Sight, Called, members_of, members_in, find_member, name_means, callee}
use Rattle.typing_rules.specs.Rules.{name_rule, filled, all_taken, is_barred, filled_call, call_rule, member_at, member_rule, prefix_rule, postfix_rule, binary_rule, assigned, assign_rule}
use Rattle.typing_rules.specs.Nodes.{There}
use Rattle.typing_rules.specs.Nodes as node
use Rattle.typing_rules.specs.Meaning.{Types, AllTypes, TypesValue}
use Rattle.typing_rules.specs.Meaning as rule
use Rattle.typing_rules.specs.Cells.{Structs, cell_types}
use Rattle.emission_rules.specs.Bounds.{weight, all_weight, some_weight, IsCell, IsType, IsPlace, IsCallee, IsOperator, IsExpr, AreExprs, IsSome}
use Rattle.emission_rules.specs.Layout.{Layout}
use Rattle.nss_parser.specs.Sizes.{size, all_size, some_size, IsKnown, AreKnown, IsSomeKnown}
use Rattle.typing_laws.proofs.Lists.{Holds, holds_of, all_at, map_is, when_is, if_is}
use Rattle.typing_laws.proofs.InSight.{IsValue, IsMeaning, IsMember, IsStructure, InBounds, name_bounds}
use Rattle.typing_laws.proofs.Callees.{filled_given, IsCalled}

-- ---- types

-- at most 64 cells, each of a type that a cell may have
abbrev pub AreCells : List Ty → Type 0
AreCells ts = (length ts ≤ struct_cell_limit) × AllByRecursion IsCell ts

abbrev pub AreStructs : Structs → Type 0
AreStructs ks = AllByRecursion AreCells ks

struct_cells : (ks : Structs) (n : ℕ) → AreStructs ks → AreCells (slice_index_or ks n [])
struct_cells [] n h = (omega arith, tt)
struct_cells (k ∷ ks) zero h = h.0
struct_cells (k ∷ ks) (suc n) h = struct_cells ks n h.1

pub type_cells : (ks : Structs) (t : Ty) → AreStructs ks → IsValue t → AreCells (cell_types ks t)
type_cells ks ty.Void h v = (omega arith, tt)
type_cells ks ty.Int h v = (omega arith, (tt, tt))
type_cells ks ty.Text h v = (omega arith, (tt, tt))
type_cells ks ty.Object h v = (omega arith, (tt, tt))
type_cells ks ty.Effect h v = (omega arith, (tt, tt))
type_cells ks ty.Event h v = (omega arith, (tt, tt))
type_cells ks ty.Action h v = absurd v
type_cells ks (ty.Struct n) h v = struct_cells ks n h
type_cells ks ty.Refused h v = absurd v

pub is_type : (l : Layout) (t : Ty) → AreStructs l.structs → IsValue t → IsType l t
is_type l t h v = let c = type_cells l.structs t h v in record { few = c.0; kinds = c.1 }

const_value : (k : Const) → IsValue (const_type k)
const_value (const.Int n) = tt
const_value (const.Text bytes) = tt
const_value const.SelfObject = tt
const_value const.InvalidObject = tt

-- ---- operators

abbrev Operated : BinaryOperator → Ty → Ty → Type 0
Operated o s t = IsValue t × IsOperator o s

ints_value : (s r t : Ty) → of_ints s r ≡ Some t → IsValue t
ints_value ty.Int ty.Int t e = subst IsValue (same_Some _ t e) tt
ints_value s r t e = absurd (none-some t e)

sum_value : (s r t : Ty) → sum_type s r ≡ Some t → IsValue t
sum_value ty.Int ty.Int t e = subst IsValue (same_Some _ t e) tt
sum_value ty.Text ty.Text t e = subst IsValue (same_Some _ t e) tt
sum_value s r t e = absurd (none-some t e)

is_true : (b : Bool) → b ≡ true → IsTrue b
is_true b e = e

comparison_by : (a b : Bool) (t : Ty) → (if a && b then Some ty.Int else None) ≡ Some t → IsValue t × IsTrue a
comparison_by true true t e = (subst IsValue (same_Some _ t e) tt, is_true true refl)
comparison_by true false t e = absurd (none-some t e)
comparison_by false b t e = absurd (none-some t e)

operated : (o : BinaryOperator) (s r t : Ty) → binary_type o s r ≡ Some t → Operated o s t
operated bin.Or s r t e = (ints_value s r t e, tt)
operated bin.And s r t e = (ints_value s r t e, tt)
operated bin.BitOr s r t e = (ints_value s r t e, tt)
operated bin.BitXor s r t e = (ints_value s r t e, tt)
operated bin.BitAnd s r t e = (ints_value s r t e, tt)
operated bin.Equal s r t e = comparison_by (is_compared s) (same_type s r) t e
operated bin.NotEqual s r t e = comparison_by (is_compared s) (same_type s r) t e
operated bin.GreaterOrEqual s r t e = (ints_value s r t e, tt)
operated bin.Greater s r t e = (ints_value s r t e, tt)
operated bin.Less s r t e = (ints_value s r t e, tt)
operated bin.LessOrEqual s r t e = (ints_value s r t e, tt)
operated bin.ShiftLeft s r t e = (ints_value s r t e, tt)
operated bin.ShiftRight s r t e = (ints_value s r t e, tt)
operated bin.UnsignedShiftRight s r t e = (ints_value s r t e, tt)
operated bin.Add s r t e = (sum_value s r t e, tt)
operated bin.Subtract s r t e = (ints_value s r t e, tt)
operated bin.Multiply s r t e = (ints_value s r t e, tt)
operated bin.Divide s r t e = (ints_value s r t e, tt)
operated bin.Remainder s r t e = (ints_value s r t e, tt)

assigned_value : (o : AssignOperator) (s r t : Ty) → IsValue s → assigned_type o s r ≡ Some t → IsValue t
assigned_value asg.Set s r t v e = subst IsValue (same_Some s t (if_is (same_type s r) (Some s) t e).1) v
assigned_value asg.Add s r t v e = sum_value s r t e
assigned_value asg.Subtract s r t v e = ints_value s r t e
assigned_value asg.Multiply s r t v e = ints_value s r t e
assigned_value asg.Divide s r t v e = ints_value s r t e
assigned_value asg.Remainder s r t v e = ints_value s r t e
assigned_value asg.BitAnd s r t v e = ints_value s r t e
assigned_value asg.BitOr s r t v e = ints_value s r t e
assigned_value asg.BitXor s r t v e = ints_value s r t e
assigned_value asg.ShiftLeft s r t v e = ints_value s r t e
assigned_value asg.ShiftRight s r t v e = ints_value s r t e
assigned_value asg.UnsignedShiftRight s r t v e = ints_value s r t e

-- ---- members

member_pick : (b : Bool) (m : Member) (o : Option Member) → IsMember m → Holds IsMember o → Holds IsMember (if b then Some m else o)
member_pick true m o h k = h
member_pick false m o h k = k

found_member : (x : List ℕ) (ms : List Member) → AllByRecursion IsMember ms → Holds IsMember (find_member x ms)
found_member x [] h = tt
found_member x (m ∷ ms) h = member_pick (bytes_eq x m.called) m (find_member x ms) h.0 (found_member x ms h.1)

of_structure : (o : Option Structure) → Holds IsStructure o → Holds (λ m. AllByRecursion IsMember m.fields) (members_of o)
of_structure None h = tt
of_structure (Some s) h = h

at_members : (x : List ℕ) (o : Option Members) → Holds (λ m. AllByRecursion IsMember m.fields) o → Holds IsMember (member_at x o)
at_members x None h = tt
at_members x (Some m) h = found_member x m.fields h

member_bounds : (structs : List Structure) (x : List ℕ) (t : Ty) → AllByRecursion IsStructure structs → Holds IsMember (member_at x (members_in structs t))
member_bounds structs x ty.Void h = tt
member_bounds structs x ty.Int h = tt
member_bounds structs x ty.Text h = tt
member_bounds structs x ty.Object h = tt
member_bounds structs x ty.Effect h = tt
member_bounds structs x ty.Event h = tt
member_bounds structs x ty.Action h = tt
member_bounds structs x (ty.Struct n) h = at_members x (members_of (slice_get structs n)) (of_structure (slice_get structs n) (all_at IsStructure structs n h))
member_bounds structs x ty.Refused h = tt

-- ---- expressions

-- of a source of so many tokens
pub record IsGood (bodies : ℕ) (l : Layout) (n : ℕ) (t : TypedExpr) : Type 0 where
  pub kept : IsExpr bodies l t
  pub value : IsValue (type_of t)
  pub light : weight t ≤ 2048 * n

pub record AreGood (bodies : ℕ) (l : Layout) (n : ℕ) (ts : TypedExprs) : Type 0 where
  pub kept : AreExprs bodies l ts
  pub light : all_weight ts ≤ 2048 * n

pub record SomeGood (bodies : ℕ) (l : Layout) (n : ℕ) (t : Option TypedExpr) : Type 0 where
  pub kept : IsSome bodies l t
  pub light : some_weight t ≤ 2048 * n

placed : (b : Bool) (n : ℕ) → IsPlace (if b then Local n else Global n)
placed true n = tt
placed false n = tt

module _ (bodies : ℕ) (l : Layout) (good : AreStructs l.structs) where
  name_good : (at_file : Bool) (m : Option Meaning) (t : TypedExpr) → Holds IsMeaning m → name_rule at_file m ≡ Some t → IsGood bodies l 1 t
  name_good at_file None t h e = absurd (none-some t e)
  name_good at_file (Some (variable n is_local s)) t h e =
      subst (IsGood bodies l 1) (same_Some _ t e) (record { kept = (is_type l s good h, placed (at_file || is_local) n); value = h; light = omega arith })
  name_good at_file (Some (constant k)) t h e =
      subst (IsGood bodies l 1) (same_Some _ t e)
      (record { kept = (is_type l (const_type k) good (const_value k), h); value = const_value k; light = omega arith })

  called_good : (ts : TypedExprs) (d : Called) (t : TypedExpr) (n : ℕ) → IsCalled bodies d → AreGood bodies l n ts → d.is_callable ≡ true → filled_call ts d ≡ Some t
      → IsGood bodies l (3 + n) t
  called_good ts d t n h args free e =
      let is = map_is (λ ks. typed.call d.result d.callee ts ks) (filled ts d.params) t e in
      let f = filled_given ts d.params is.0 h.defaults is.1 in
      let v = h.result free in
      let a = args.light in let b = f.few_are in let c = h.few in
      subst (IsGood bodies l (3 + n)) is.2 (record {
        kept = (is_type l d.result good v, subst (λ k. IsCallee bodies k d.callee) (sym f.count_is) h.callee, f.constants, args.kept);
        value = v;
        light = omega arith;
      })

  call_good : (at_file b : Bool) (ts : TypedExprs) (d : Option Called) (t : TypedExpr) (n : ℕ) → Holds (IsCalled bodies) d → AreGood bodies l n ts
      → call_rule at_file b (ts, d) ≡ Some t → IsGood bodies l (3 + n) t
  call_good at_file b ts None t n h args e = absurd (none-some t e)
  call_good at_file b ts (Some d) t n h args e =
      let is = if_is (d.is_callable && (not (at_file && is_barred b d) && all_taken ts d.params)) (filled_call ts d) t e in
      called_good ts d t n h args (and_parts d.is_callable (not (at_file && is_barred b d) && all_taken ts d.params) is.0).0 is.1

  member_good : (c : Sight) (x : List ℕ) (u t : TypedExpr) (n : ℕ) → InBounds c → IsGood bodies l n u → member_rule c.structs x u ≡ Some t → IsGood bodies l (1 + n) t
  member_good c x u t n h g e =
      let is = map_is (λ (m : Member). typed.member m.ty u m.before) (member_at x (members_in c.structs (type_of u))) t e in
      let m = holds_of IsMember (member_at x (members_in c.structs (type_of u))) is.0 (member_bounds c.structs x (type_of u) h.structs) is.1 in
      let a = g.light in
      subst (IsGood bodies l (1 + n)) is.2
      (record { kept = (is_type l is.0.ty good m.0, is_type l (type_of u) good g.value, m.1, g.kept); value = m.0; light = omega arith })

  prefix_good : (o : PrefixOperator) (u t : TypedExpr) (n : ℕ) → IsGood bodies l n u → prefix_rule o u ≡ Some t → IsGood bodies l (1 + n) t
  prefix_good o u t n g e =
      let is = when_is (is_int (type_of u) && (not (is_step o) || is_place u)) (typed.prefix ty.Int o u) t e in
      let a = g.light in
      subst (IsGood bodies l (1 + n)) is.1 (record { kept = (is_type l ty.Int good tt, g.kept); value = tt; light = omega arith })

  postfix_good : (o : PostfixOperator) (u t : TypedExpr) (n : ℕ) → IsGood bodies l n u → postfix_rule o u ≡ Some t → IsGood bodies l (1 + n) t
  postfix_good o u t n g e =
      let is = when_is (is_int (type_of u) && is_place u) (typed.postfix ty.Int o u) t e in
      let a = g.light in
      subst (IsGood bodies l (1 + n)) is.1 (record { kept = (is_type l ty.Int good tt, g.kept); value = tt; light = omega arith })

  binary_good : (o : BinaryOperator) (u v t : TypedExpr) (n m : ℕ) → IsGood bodies l n u → IsGood bodies l m v → binary_rule o (u, v) ≡ Some t → IsGood bodies l (1 + (n + m)) t
  binary_good o u v t n m g k e =
      let is = map_is (λ s. typed.binary s o u v) (binary_type o (type_of u) (type_of v)) t e in
      let op = operated o (type_of u) (type_of v) is.0 is.1 in
      let a = g.light in let b = k.light in
      subst (IsGood bodies l (1 + (n + m))) is.2
      (record { kept = (is_type l is.0 good op.0, is_type l (type_of u) good g.value, op.1, g.kept, k.kept); value = op.0; light = omega arith })

  assign_good : (o : AssignOperator) (u v t : TypedExpr) (n m : ℕ) → IsGood bodies l n u → IsGood bodies l m v → assign_rule o (u, v) ≡ Some t → IsGood bodies l (1 + (n + m)) t
  assign_good o u v t n m g k e =
      let there = if_is (is_place u) (assigned o u v) t e in
      let is = map_is (λ s. typed.assign s o u v) (assigned_type o (type_of u) (type_of v)) t there.1 in
      let w = assigned_value o (type_of u) (type_of v) is.0 g.value is.1 in
      let a = g.light in let b = k.light in
      subst (IsGood bodies l (1 + (n + m))) is.2 (record { kept = (is_type l is.0 good w, g.kept, k.kept); value = w; light = omega arith })

module _ (bodies : ℕ) (l : Layout) (good : AreStructs l.structs) (hs : List Head)
    (calls : (table : EngineTable) (x : List ℕ) → IsTable table → Holds (Holds (IsCalled bodies)) (callee hs table x)) where
  mutual
    pub expr : (c : Sight) {b : Bool} {e : PlainExpr} {t : TypedExpr} → InBounds c → IsKnown e → Types hs c b e t → IsGood bodies l (size e) t
    expr c h known (rule.Types.int b n v) = record { kept = known; value = tt; light = omega arith }
    expr c h known (rule.Types.text b n v) = record { kept = known; value = tt; light = omega arith }
    expr c h known (rule.Types.object_self b n) = record { kept = tt; value = tt; light = omega arith }
    expr c h known (rule.Types.object_invalid b n) = record { kept = tt; value = tt; light = omega arith }
    expr c h known (rule.Types.name b n x {m = m} {t = t} is gives) =
        name_good bodies l good c.at_file m t (holds_of (Holds IsMeaning) (name_means c x) m (name_bounds c x h) is) gives
    expr c h known (rule.Types.call b n f {es = es} {ts = ts} {d = d} {t = t} args is gives) =
        call_good bodies l good c.at_file b ts d t (all_size es) (holds_of (Holds (IsCalled bodies)) (callee hs c.table f) d (calls c.table f h.table) is) (exprs c h known args) gives
    expr c h known (rule.Types.member b n x {e = e} {u = u} {t = t} typing gives) = member_good bodies l good c x u t (size e) h (expr c h known typing) gives
    expr c h known (rule.Types.prefix b n o {e = e} {u = u} {t = t} typing gives) = prefix_good bodies l good o u t (size e) (expr c h known typing) gives
    expr c h known (rule.Types.postfix b n o {e = e} {u = u} {t = t} typing gives) = postfix_good bodies l good o u t (size e) (expr c h known typing) gives
    expr c h known (rule.Types.binary b n o {d = d} {e = e} {u = u} {v = v} {t = t} left right gives) =
        binary_good bodies l good o u v t (size d) (size e) (expr c h known.0 left) (expr c h known.1 right) gives
    expr c h known (rule.Types.assign b n o {d = d} {e = e} {u = u} {v = v} {t = t} left right gives) =
        assign_good bodies l good o u v t (size d) (size e) (expr c h known.0 left) (expr c h known.1 right) gives

    pub exprs : (c : Sight) {ps : List Param} {es : PlainExprs} {ts : TypedExprs} → InBounds c → AreKnown es → AllTypes hs c ps es ts → AreGood bodies l (all_size es) ts
    exprs c h known (rule.AllTypes.none ps) = record { kept = tt; light = omega arith }
    exprs c h known (rule.AllTypes.more ps {e = e} {es = es} typing rest) =
        let g = expr c h known.0 typing in let k = exprs c h known.1 rest in
        let a = g.light in let b = k.light in record { kept = (g.kept, k.kept); light = omega arith }

  pub some : (c : Sight) {e : Option PlainExpr} {t : Option TypedExpr} → InBounds c → IsSomeKnown e → There (TypesValue hs c) e t → SomeGood bodies l (some_size e) t
  some c h known node.There.absent = record { kept = tt; light = omega arith }
  some c h known (node.There.present typing) = let g = expr c h known typing in record { kept = g.kept; light = g.light }
