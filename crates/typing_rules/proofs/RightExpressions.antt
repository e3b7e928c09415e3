-- Expressions, constants and lines: verdicts, faults and meaning agree.
use Rattle.std.proofs.Common.{◌≡◌, refl, subst, ℕ, ℤ, Bool, false, List, Some}
use Rattle.nss_tree.specs.declared.operators.PrefixOperator.{PrefixOperator}
use Rattle.nss_tree.specs.declared.operators.PostfixOperator.{PostfixOperator}
use Rattle.nss_tree.specs.declared.operators.BinaryOperator.{BinaryOperator}
use Rattle.nss_tree.specs.declared.operators.AssignOperator.{AssignOperator}
use Rattle.nss_tree.specs.declared.constants.Constant.{Constant}
use Rattle.nss_tree.specs.declared.constants.Constant.TheVariants as spelled
use Rattle.nss_tree.specs.declared.constants.TypeName.{TypeName}
use Rattle.nss_tree.specs.Expressions.{PlainExpr, PlainExprs}
use Rattle.nss_tree.specs.Expressions as tree
use Rattle.nss_tree.specs.Places.{token_of}
use Rattle.nwq_value.specs.declared.engine.Const.TheVariants as const
use Rattle.nwq_value.specs.declared.engine.Param.{Param}
use Rattle.typing_rules.specs.declared.fault.FaultKind.TheVariants.{RefusedType, Unknown, NotConst, Mismatch}
use Rattle.typing_rules.specs.Typed.{TypedExpr, TypedExprs, literal, no_typed}
use Rattle.typing_rules.specs.Nodes.{fine, Fits, at}
use Rattle.typing_rules.specs.Sight.{Head, Structure, Sight, name_means, callee, wanted, type_means, value_type}
use Rattle.typing_rules.specs.Rules.{name_rule, name_rows, float_rule, float_rows, call_rule, call_rows, takes_action, others, member_rule, member_rows, prefix_rule, prefix_rows, postfix_rule}
use Rattle.typing_rules.specs.Rules.{postfix_rows, binary_rule, binary_rows, assign_rule, assign_rows, constant_named, constant_means, constant_rule, constant_rows, line_rows}
use Rattle.typing_rules.specs.Verdicts.{verdict, all_fine, faults, all_faults, longer_typed, constant_value, constant_faults, line_verdict, line_type}
use Rattle.typing_rules.specs.Meaning.{Types, AllTypes, CallParts, TwoParts, TypesValue, FaultIn, FaultAmong, TypesConstant, FaultInConstant, TypesLine, FaultOfLine}
use Rattle.typing_rules.specs.Meaning as rules
use Rattle.typing_rules.proofs.Right.{Right, Image, said, node, leaf, looked, no_part, both, and_looked, maps, always}
use Rattle.typing_rules.proofs.Coverage.{name_covered}
use Rattle.typing_rules.proofs.InSight.{Each, IsThere, EntryTyped, StructTyped, Sighted, Valued, name_there, callee_there, type_there}

-- ---- what a typed expression was made of

int_back : (hs : List Head) (c : Sight) (b : Bool) (n : ℕ) (v : ℤ) (t : TypedExpr) → Types hs c b (tree.int n v) t → literal (const.Int v) ≡ t
int_back hs c b n v t (rules.Types.int d m w) = refl

text_back : (hs : List Head) (c : Sight) (b : Bool) (n : ℕ) (v : List ℕ) (t : TypedExpr) → Types hs c b (tree.text n v) t → literal (const.Text v) ≡ t
text_back hs c b n v t (rules.Types.text d m w) = refl

self_back : (hs : List Head) (c : Sight) (b : Bool) (n : ℕ) (t : TypedExpr) → Types hs c b (tree.object_self n) t → literal const.SelfObject ≡ t
self_back hs c b n t (rules.Types.object_self d m) = refl

invalid_back : (hs : List Head) (c : Sight) (b : Bool) (n : ℕ) (t : TypedExpr) → Types hs c b (tree.object_invalid n) t → literal const.InvalidObject ≡ t
invalid_back hs c b n t (rules.Types.object_invalid d m) = refl

float_back : (hs : List Head) (c : Sight) (b : Bool) (n : ℕ) (t : TypedExpr) → Types hs c b (tree.float n) t → ⊥
float_back hs c b n t h = elim h [ ]

name_back : (hs : List Head) (c : Sight) (b : Bool) (n : ℕ) (x : List ℕ) (t : TypedExpr) → Types hs c b (tree.name n x) t
    → Fits (λ m. name_means c x ≡ Some m) (name_rule c.at_file) t
name_back hs c b n x t (rules.Types.name d m y {m = o} e g) = record { typed = o; parts = e; gives = g }

call_back : (hs : List Head) (c : Sight) (b : Bool) (n : ℕ) (f : List ℕ) (es : PlainExprs) (t : TypedExpr) → Types hs c b (tree.call n f es) t
    → Fits (CallParts hs c f es) (call_rule c.at_file b) t
call_back hs c b n f es t (rules.Types.call d m g {ts = ts} {d = o} h e i) = record { typed = (ts, o); parts = (h, e); gives = i }

member_back : (hs : List Head) (c : Sight) (b : Bool) (n : ℕ) (e : PlainExpr) (x : List ℕ) (t : TypedExpr) → Types hs c b (tree.member n e x) t
    → Fits (TypesValue hs c e) (member_rule c.structs x) t
member_back hs c b n e x t (rules.Types.member d m y {u = u} h i) = record { typed = u; parts = h; gives = i }

prefix_back : (hs : List Head) (c : Sight) (b : Bool) (n : ℕ) (o : PrefixOperator) (e : PlainExpr) (t : TypedExpr) → Types hs c b (tree.prefix n o e) t
    → Fits (TypesValue hs c e) (prefix_rule o) t
prefix_back hs c b n o e t (rules.Types.prefix d m p {u = u} h i) = record { typed = u; parts = h; gives = i }

postfix_back : (hs : List Head) (c : Sight) (b : Bool) (n : ℕ) (o : PostfixOperator) (e : PlainExpr) (t : TypedExpr) → Types hs c b (tree.postfix n o e) t
    → Fits (TypesValue hs c e) (postfix_rule o) t
postfix_back hs c b n o e t (rules.Types.postfix d m p {u = u} h i) = record { typed = u; parts = h; gives = i }

binary_back : (hs : List Head) (c : Sight) (b : Bool) (n : ℕ) (o : BinaryOperator) (d e : PlainExpr) (t : TypedExpr) → Types hs c b (tree.binary n o d e) t
    → Fits (TwoParts hs c d e) (binary_rule o) t
binary_back hs c b n o d e t (rules.Types.binary a m p {u = u} {v = v} h i g) = record { typed = (u, v); parts = (h, i); gives = g }

assign_back : (hs : List Head) (c : Sight) (b : Bool) (n : ℕ) (o : AssignOperator) (d e : PlainExpr) (t : TypedExpr) → Types hs c b (tree.assign n o d e) t
    → Fits (TwoParts hs c d e) (assign_rule o) t
assign_back hs c b n o d e t (rules.Types.assign a m p {u = u} {v = v} h i g) = record { typed = (u, v); parts = (h, i); gives = g }

none_back : (hs : List Head) (c : Sight) (ps : List Param) (ts : TypedExprs) → AllTypes hs c ps tree.no_expr ts → no_typed ≡ ts
none_back hs c ps ts (rules.AllTypes.none qs) = refl

abbrev ArgumentParts : List Head → Sight → List Param → PlainExpr → PlainExprs → TypedExpr × TypedExprs → Type 0
ArgumentParts hs c ps e es p = Types hs c (takes_action ps) e p.0 × AllTypes hs c (others ps) es p.1

more_back : (hs : List Head) (c : Sight) (ps : List Param) (e : PlainExpr) (es : PlainExprs) (ts : TypedExprs) → AllTypes hs c ps (tree.more_exprs e es) ts
    → Image longer_typed (ArgumentParts hs c ps e es) ts
more_back hs c ps e es ts (rules.AllTypes.more qs {t = t} {ts = us} h i) = ((t, us), (h, i), refl)

-- ---- expressions

mutual
  pub right_expr : (hs : List Head) (c : Sight) (b : Bool) (e : PlainExpr)
      → Right (Valued hs c) (Types hs c b e) (fine (verdict hs c b e)) (faults hs c b e) (FaultIn hs c b e)
  right_expr hs c b (tree.int n v) = said (λ t e. subst (Types hs c b (tree.int n v)) e (rules.Types.int b n v)) (int_back hs c b n v) (always (literal (const.Int v)))
  right_expr hs c b (tree.float n) =
      said (λ t h. absurd (none_fits h)) (λ t h. absurd (float_back hs c b n t h)) (leaf float_rows float_rule (λ a e. (RefusedType, refl)) n no_part)
    where
      none_fits : {t : TypedExpr} → Fits (λ (u : Unit {0}). Unit {0}) float_rule t → ⊥
      none_fits h = absurd (let g = h.gives in cc)
  right_expr hs c b (tree.text n v) = said (λ t e. subst (Types hs c b (tree.text n v)) e (rules.Types.text b n v)) (text_back hs c b n v) (always (literal (const.Text v)))
  right_expr hs c b (tree.object_self n) =
      said (λ t e. subst (Types hs c b (tree.object_self n)) e (rules.Types.object_self b n)) (self_back hs c b n) (always (literal const.SelfObject))
  right_expr hs c b (tree.object_invalid n) =
      said (λ t e. subst (Types hs c b (tree.object_invalid n)) e (rules.Types.object_invalid b n)) (invalid_back hs c b n) (always (literal const.InvalidObject))
  right_expr hs c b (tree.name n x) =
      said (λ t h. rules.Types.name b n x h.parts h.gives) (name_back hs c b n x)
      (leaf name_rows (name_rule c.at_file) (name_covered c.at_file) n (looked (name_means c x) (λ v. name_there c x v.1.0)))
  right_expr hs c b (tree.call n f es) =
      said (λ t h. rules.Types.call b n f h.parts.0 h.parts.1 h.gives) (call_back hs c b n f es)
      (node (call_rows c.at_file b) (call_rule c.at_file b) (λ a e. (Mismatch, refl)) n
      (and_looked (right_all hs c (wanted hs c.table f) es) (callee hs c.table f) (λ v. callee_there hs c.table f v.0)))
  right_expr hs c b (tree.member n e x) =
      said (λ t h. rules.Types.member b n x h.parts h.gives) (member_back hs c b n e x)
      (node member_rows (member_rule c.structs x) (λ a i. (Unknown, refl)) n (right_expr hs c false e))
  right_expr hs c b (tree.prefix n o e) =
      said (λ t h. rules.Types.prefix b n o h.parts h.gives) (prefix_back hs c b n o e)
      (node (prefix_rows o) (prefix_rule o) (λ a i. (Mismatch, refl)) n (right_expr hs c false e))
  right_expr hs c b (tree.postfix n o e) =
      said (λ t h. rules.Types.postfix b n o h.parts h.gives) (postfix_back hs c b n o e)
      (node postfix_rows (postfix_rule o) (λ a i. (Mismatch, refl)) n (right_expr hs c false e))
  right_expr hs c b (tree.binary n o d e) =
      said (λ t h. rules.Types.binary b n o h.parts.0 h.parts.1 h.gives) (binary_back hs c b n o d e)
      (node binary_rows (binary_rule o) (λ a i. (Mismatch, refl)) n (both (right_expr hs c false d) (λ v i. v) (right_expr hs c false e)))
  right_expr hs c b (tree.assign n o d e) =
      said (λ t h. rules.Types.assign b n o h.parts.0 h.parts.1 h.gives) (assign_back hs c b n o d e)
      (node assign_rows (assign_rule o) (λ a i. (Mismatch, refl)) n (both (right_expr hs c false d) (λ v i. v) (right_expr hs c false e)))

  pub right_all : (hs : List Head) (c : Sight) (ps : List Param) (es : PlainExprs)
      → Right (Valued hs c) (AllTypes hs c ps es) (all_fine hs c ps es) (all_faults hs c ps es) (FaultAmong hs c ps es)
  right_all hs c ps tree.no_expr = said (λ t e. subst (AllTypes hs c ps tree.no_expr) e (rules.AllTypes.none ps)) (none_back hs c ps) (always no_typed)
  right_all hs c ps (tree.more_exprs e es) =
      said (λ t h. subst (AllTypes hs c ps (tree.more_exprs e es)) h.2 (rules.AllTypes.more ps h.1.0 h.1.1)) (more_back hs c ps e es)
      (maps longer_typed (both (right_expr hs c (takes_action ps) e) (λ v i. v) (right_all hs c (others ps) es)))

-- ---- constants and lines

constant_there : (c : Sight) (k : Constant) → Each EntryTyped c.names → IsThere (constant_means c k)
constant_there c (spelled.Int n negated v) h = (_, refl)
constant_there c (spelled.Float n negated) h = (_, refl)
constant_there c (spelled.Text n v) h = (_, refl)
constant_there c (spelled.Name n x) h = let m = name_there c x h in (constant_named m.0, rw m.1 refl)
constant_there c (spelled.ObjectSelf n) h = (_, refl)
constant_there c (spelled.ObjectInvalid n) h = (_, refl)

pub right_constant : (c : Sight) (k : Constant) → Right (Sighted c) (TypesConstant c k) (constant_value c k) (constant_faults c k) (FaultInConstant c k)
right_constant c k = leaf constant_rows constant_rule (λ a e. (NotConst, refl)) (token_of k) (looked (constant_means c k) (λ v. constant_there c k v.0))

pub right_line : (structs : List Structure) (n : ℕ) (t : TypeName)
    → Right (Each StructTyped structs) (TypesLine structs t) (line_type structs t) (at n (line_verdict structs t)) (FaultOfLine structs n t)
right_line structs n t = leaf line_rows value_type (λ a e. (Mismatch, refl)) n (looked (type_means structs t) (type_there structs t))
