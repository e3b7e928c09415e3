-- The typed tree of a unit by its rules, and which of its nodes are at fault. A node is at fault
-- where its parts are typed and its rule doesn't fit them: so one fault silences the nodes around
-- it, and a declaration that isn't typed what uses it.
use Rattle.std.specs.Prelude.{◌≡◌, ℕ, ℤ, Bool, false, List, [], ◌∷◌, Option, Some, is_some, ◌⊎◌}
use Rattle.nss_tree.specs.declared.operators.PrefixOperator.{PrefixOperator}
use Rattle.nss_tree.specs.declared.operators.PostfixOperator.{PostfixOperator}
use Rattle.nss_tree.specs.declared.operators.BinaryOperator.{BinaryOperator}
use Rattle.nss_tree.specs.declared.operators.AssignOperator.{AssignOperator}
use Rattle.nss_tree.specs.declared.constants.Constant.{Constant}
use Rattle.nss_tree.specs.declared.constants.TypeName.{TypeName}
use Rattle.nss_tree.specs.declared.units.Identifier.{Identifier}
use Rattle.nss_tree.specs.Expressions as tree
use Rattle.nss_tree.specs.Expressions.{PlainExpr, PlainExprs}
use Rattle.nss_tree.specs.Statements as stmt
use Rattle.nss_tree.specs.Units as item
use Rattle.nss_tree.specs.Source.{SourceDeclared, SourceStmt, SourceStmts, SourceItem, SourceTree, SourceLine, SourceParameter}
use Rattle.nss_tree.specs.Places.{token_of}
use Rattle.nwq_value.specs.declared.value.Ty.{Ty}
use Rattle.nwq_value.specs.declared.engine.Const.{Const}
use Rattle.nwq_value.specs.declared.engine.Const.TheVariants as const
use Rattle.nwq_value.specs.declared.engine.Param.{Param}
use Rattle.nwq_value.specs.Engine.{EngineTable}
use Rattle.typing_rules.specs.declared.fault.Fault.{Fault}
use Rattle.typing_rules.specs.Typed.{TypedExpr, TypedExprs, literal, no_typed, more_typed, TypedName, TypedStmt, TypedStmts, TypedLine, TypedParameter, TypedItem, TypedUnit}
use Rattle.typing_rules.specs.Nodes.{Fits, Own, There, FaultThere}
use Rattle.typing_rules.specs.Sight.{Head, Structure, Sight, Signature, Meaning, Meant, Called, start, name_means, callee, wanted, type_means, first_types, value_type, declared, scope_entered, inside, looped, switched}
use Rattle.typing_rules.specs.Rules.{name_rule, name_rows, float_rule, float_rows, call_rule, call_rows, takes_action, others, member_rule, member_rows, prefix_rule, prefix_rows, postfix_rule, postfix_rows, binary_rule, binary_rows, assign_rule, assign_rows, constant_means, constant_rule, constant_rows, constant_type, line_rows, variable_rule, variable_rows, constant_name_rule, constant_name_rows, Fields, no_fields, field_rule, field_rows, struct_rule, struct_rows, parameter_rule, parameter_rows, TypedHead, head_rule, head_rows, function_rule, function_rows, if_rule, if_rows, if_else_rule, if_else_rows, while_rule, do_rule, do_rows, for_rule, for_rows, switch_rule, switch_rows, break_rule, continue_rule, outside_rows, return_rule, return_rows, case_rule, case_rows, default_rule, default_rows, entry_rule, entry_rows}
use Rattle.typing_rules.specs.Verdicts.{line_type, after, after_then, field_added, after_line, parameter_declared, late_after, in_function, in_body, after_item, heads}

-- ---- expressions

mutual
  pub data Types (hs : List Head) (c : Sight) : Bool → PlainExpr → TypedExpr → Type 0 where
    int : (b : Bool) (n : ℕ) (v : ℤ) → Types hs c b (tree.int n v) (literal (const.Int v))
    text : (b : Bool) (n : ℕ) (v : List ℕ) → Types hs c b (tree.text n v) (literal (const.Text v))
    object_self : (b : Bool) (n : ℕ) → Types hs c b (tree.object_self n) (literal const.SelfObject)
    object_invalid : (b : Bool) (n : ℕ)
        → Types hs c b (tree.object_invalid n) (literal const.InvalidObject)
    name : (b : Bool) (n : ℕ) (x : List ℕ) {m : Option Meaning} {t : TypedExpr}
        → name_means c x ≡ Some m → name_rule c.at_file m ≡ Some t → Types hs c b (tree.name n x) t
    call : (b : Bool) (n : ℕ)
        (f : List ℕ) {es : PlainExprs} {ts : TypedExprs} {d : Option Called} {t : TypedExpr}
        → AllTypes hs c (wanted hs c.table f) es ts → callee hs c.table f ≡ Some d
        → call_rule c.at_file b (ts, d) ≡ Some t
        → Types hs c b (tree.call n f es) t
    member : (b : Bool) (n : ℕ) (x : List ℕ) {e : PlainExpr} {u t : TypedExpr}
        → Types hs c false e u → member_rule c.structs x u ≡ Some t
        → Types hs c b (tree.member n e x) t
    prefix : (b : Bool) (n : ℕ) (o : PrefixOperator) {e : PlainExpr} {u t : TypedExpr}
        → Types hs c false e u → prefix_rule o u ≡ Some t → Types hs c b (tree.prefix n o e) t
    postfix : (b : Bool) (n : ℕ) (o : PostfixOperator) {e : PlainExpr} {u t : TypedExpr}
        → Types hs c false e u → postfix_rule o u ≡ Some t → Types hs c b (tree.postfix n o e) t
    binary : (b : Bool) (n : ℕ) (o : BinaryOperator) {d e : PlainExpr} {u v t : TypedExpr}
        → Types hs c false d u → Types hs c false e v → binary_rule o (u, v) ≡ Some t
        → Types hs c b (tree.binary n o d e) t
    assign : (b : Bool) (n : ℕ) (o : AssignOperator) {d e : PlainExpr} {u v t : TypedExpr}
        → Types hs c false d u → Types hs c false e v → assign_rule o (u, v) ≡ Some t
        → Types hs c b (tree.assign n o d e) t

  -- arguments, each for its parameter
  pub data AllTypes (hs : List Head) (c : Sight) : List Param → PlainExprs → TypedExprs
      → Type 0 where
    none : (ps : List Param) → AllTypes hs c ps tree.no_expr no_typed
    more : (ps : List Param) {e : PlainExpr} {es : PlainExprs} {t : TypedExpr} {ts : TypedExprs}
        → Types hs c (takes_action ps) e t → AllTypes hs c (others ps) es ts
        → AllTypes hs c ps (tree.more_exprs e es) (more_typed t ts)

abbrev pub TypesValue : List Head → Sight → PlainExpr → TypedExpr → Type 0
TypesValue hs c e t = Types hs c false e t

-- the parts of a node, by what they are typed as
abbrev pub NoParts : Unit {0} → Type 0
NoParts u = Unit {0}

abbrev pub CallParts : List Head → Sight → List ℕ → PlainExprs → TypedExprs × Option Called → Type 0
CallParts hs c f es p = AllTypes hs c (wanted hs c.table f) es p.0
    × (callee hs c.table f ≡ Some p.1)

abbrev pub TwoParts : List Head → Sight → PlainExpr → PlainExpr → TypedExpr × TypedExpr → Type 0
TwoParts hs c d e p = TypesValue hs c d p.0 × TypesValue hs c e p.1

abbrev mutual
  pub FaultIn : List Head → Sight → Bool → PlainExpr → Fault → Type 0
  FaultIn hs c b (tree.int n v) f = ⊥
  FaultIn hs c b (tree.float n) f = Own n NoParts float_rule float_rows f
  FaultIn hs c b (tree.text n v) f = ⊥
  FaultIn hs c b (tree.object_self n) f = ⊥
  FaultIn hs c b (tree.object_invalid n) f = ⊥
  FaultIn hs c b (tree.name n x) f = Own n (λ m. name_means c x ≡ Some m)
      (name_rule c.at_file) name_rows f
  FaultIn hs c b (tree.call n g es) f =
      FaultAmong hs c (wanted hs c.table g) es f
      ⊎ Own n (CallParts hs c g es) (call_rule c.at_file b) (call_rows c.at_file b) f
  FaultIn hs c b (tree.member n e x) f = FaultIn hs c false e f
      ⊎ Own n (TypesValue hs c e) (member_rule c.structs x) member_rows f
  FaultIn hs c b (tree.prefix n o e) f = FaultIn hs c false e f
      ⊎ Own n (TypesValue hs c e) (prefix_rule o) (prefix_rows o) f
  FaultIn hs c b (tree.postfix n o e) f = FaultIn hs c false e f
      ⊎ Own n (TypesValue hs c e) (postfix_rule o) postfix_rows f
  FaultIn hs c b (tree.binary n o d e) f =
      (FaultIn hs c false d f ⊎ FaultIn hs c false e f)
      ⊎ Own n (TwoParts hs c d e) (binary_rule o) binary_rows f
  FaultIn hs c b (tree.assign n o d e) f =
      (FaultIn hs c false d f ⊎ FaultIn hs c false e f)
      ⊎ Own n (TwoParts hs c d e) (assign_rule o) assign_rows f

  pub FaultAmong : List Head → Sight → List Param → PlainExprs → Fault → Type 0
  FaultAmong hs c ps tree.no_expr f = ⊥
  FaultAmong hs c ps (tree.more_exprs e es) f = FaultIn hs c (takes_action ps) e f
      ⊎ FaultAmong hs c (others ps) es f

abbrev pub FaultInValue : List Head → Sight → PlainExpr → Fault → Type 0
FaultInValue hs c e f = FaultIn hs c false e f

-- ---- constants and lines

abbrev pub TypesConstant : Sight → Constant → Const → Type 0
TypesConstant c k v = Fits (λ m. constant_means c k ≡ Some m) constant_rule v

abbrev pub FaultInConstant : Sight → Constant → Fault → Type 0
FaultInConstant c k f = Own (token_of k)
    (λ m. constant_means c k ≡ Some m) constant_rule constant_rows f

abbrev pub TypesLine : List Structure → TypeName → Ty → Type 0
TypesLine structs t s = Fits (λ m. type_means structs t ≡ Some m) value_type s

abbrev pub FaultOfLine : List Structure → ℕ → TypeName → Fault → Type 0
FaultOfLine structs n t f = Own n (λ m. type_means structs t ≡ Some m) value_type line_rows f

-- ---- declared names of one line, whose type is given where it is typed

abbrev pub VariableParts : List Head → Sight → Option Ty → SourceDeclared → Ty × Option TypedExpr
    → Type 0
VariableParts hs c t d p = (t ≡ Some p.0) × There (TypesValue hs c) d.value p.1

pub data TypesNames (hs : List Head) : Sight → Option Ty → List SourceDeclared → List TypedName
    → Type 0 where
  none : (c : Sight) (t : Option Ty) → TypesNames hs c t [] []
  more : (c : Sight) (t : Option Ty) {d : SourceDeclared} {ds : List SourceDeclared} {u : TypedName} {us : List TypedName}
      → Fits (VariableParts hs c t d) (variable_rule c d) u
      → TypesNames hs (declared c d.name t) t ds us
      → TypesNames hs c t (d ∷ ds) (u ∷ us)

abbrev pub FaultInName : List Head → Sight → Option Ty → SourceDeclared → Fault → Type 0
FaultInName hs c t d f =
    FaultThere (FaultInValue hs c) d.value f
    ⊎ Own d.token (VariableParts hs c t d) (variable_rule c d) (variable_rows c d.name) f

abbrev pub FaultInNames : List Head → Sight → Option Ty → List SourceDeclared → Fault → Type 0
FaultInNames hs c t [] f = ⊥
FaultInNames hs c t (d ∷ ds) f = FaultInName hs c t d f
    ⊎ FaultInNames hs (declared c d.name t) t ds f

-- ---- statements

mutual
  pub data TypesStmt (hs : List Head) : Sight → SourceStmt → TypedStmt → Type 0 where
    block : (c : Sight) (n : ℕ) {xs : SourceStmts} {ts : TypedStmts}
        → TypesStmts hs (scope_entered c) xs ts → TypesStmt hs c (stmt.block n xs) (stmt.block n ts)
    empty : (c : Sight) (n : ℕ) → TypesStmt hs c (stmt.empty n) (stmt.empty n)
    expression : (c : Sight) (n : ℕ) {e : PlainExpr} {t : TypedExpr} → TypesValue hs c e t
        → TypesStmt hs c (stmt.expression n e) (stmt.expression n t)
    if_only : (c : Sight) (n : ℕ) {e : PlainExpr} {a : SourceStmt} {t : TypedExpr} {u s : TypedStmt}
        → TypesValue hs c e t → TypesStmt hs (inside c) a u → if_rule n (t, u) ≡ Some s
        → TypesStmt hs c (stmt.if_only n e a) s
    if_else : (c : Sight) (n : ℕ) {e : PlainExpr} {a b : SourceStmt} {t : TypedExpr} {u v s : TypedStmt}
        → TypesValue hs c e t → TypesStmt hs (inside c) a u → TypesStmt hs (after_then c a) b v
        → if_else_rule n (t, u, v) ≡ Some s
        → TypesStmt hs c (stmt.if_else n e a b) s
    while_loop : (c : Sight) (n : ℕ) {e : PlainExpr} {a : SourceStmt} {t : TypedExpr} {u s : TypedStmt}
        → TypesValue hs c e t → TypesStmt hs (looped c) a u → while_rule n (t, u) ≡ Some s
        → TypesStmt hs c (stmt.while_loop n e a) s
    do_loop : (c : Sight) (n : ℕ) {a : SourceStmt} {e : PlainExpr} {u s : TypedStmt} {t : TypedExpr}
        → TypesStmt hs (looped c) a u → TypesValue hs c e t → do_rule n (u, t) ≡ Some s
        → TypesStmt hs c (stmt.do_loop n a e) s
    for_loop : (c : Sight) (n : ℕ) {x y z : Option PlainExpr} {a : SourceStmt} {t u v : Option TypedExpr} {w s : TypedStmt}
        → There (TypesValue hs c) x t → There (TypesValue hs c) y u → There (TypesValue hs c) z v
        → TypesStmt hs (looped c) a w
        → for_rule n (t, u, v, w) ≡ Some s → TypesStmt hs c (stmt.for_loop n x y z a) s
    switch : (c : Sight) (n : ℕ) {e : PlainExpr} {xs : SourceStmts} {t : TypedExpr} {ts : TypedStmts} {s : TypedStmt}
        → TypesValue hs c e t → TypesStmts hs (switched c) xs ts → switch_rule c n (t, ts) ≡ Some s
        → TypesStmt hs c (stmt.switch n e xs) s
    break_off : (c : Sight) (n : ℕ) {s : TypedStmt} → break_rule c n tt ≡ Some s
        → TypesStmt hs c (stmt.break_off n) s
    continue_on : (c : Sight) (n : ℕ) {s : TypedStmt} → continue_rule c n tt ≡ Some s
        → TypesStmt hs c (stmt.continue_on n) s
    return_from : (c : Sight)
        (n : ℕ) {e : Option PlainExpr} {r : Ty} {t : Option TypedExpr} {s : TypedStmt}
        → c.result ≡ Some r → There (TypesValue hs c) e t → return_rule n (r, t) ≡ Some s
        → TypesStmt hs c (stmt.return_from n e) s
    declaration : (c : Sight) (n : ℕ)
        (t : TypeName) {ds : List SourceDeclared} {s : Ty} {us : List TypedName}
        → TypesLine c.structs t s → TypesNames hs c (line_type c.structs t) ds us
        → TypesStmt hs c (stmt.declaration n t ds) (stmt.declaration n s us)
    case_label : (c : Sight) (n : ℕ) {k : Constant} {v : Const} {s : TypedStmt}
        → TypesConstant c k v → case_rule c.labels n v ≡ Some s
        → TypesStmt hs c (stmt.case_label n k) s
    default_label : (c : Sight) (n : ℕ) {s : TypedStmt} → default_rule c.labels n tt ≡ Some s
        → TypesStmt hs c (stmt.default_label n) s

  pub data TypesStmts (hs : List Head) : Sight → SourceStmts → TypedStmts → Type 0 where
    none : (c : Sight) → TypesStmts hs c stmt.no_stmt stmt.no_stmt
    more : (c : Sight) {x : SourceStmt} {xs : SourceStmts} {t : TypedStmt} {ts : TypedStmts}
        → TypesStmt hs c x t → TypesStmts hs (after c x) xs ts
        → TypesStmts hs c (stmt.more_stmts x xs) (stmt.more_stmts t ts)

abbrev pub IfParts : List Head → Sight → Sight → PlainExpr → SourceStmt → TypedExpr × TypedStmt
    → Type 0
IfParts hs c d e a p = TypesValue hs c e p.0 × TypesStmt hs d a p.1

abbrev pub IfElseParts : List Head → Sight → PlainExpr → SourceStmt → SourceStmt
    → TypedExpr × TypedStmt × TypedStmt → Type 0
IfElseParts hs c e a b p = TypesValue hs c e p.0 × TypesStmt hs (inside c) a p.1
    × TypesStmt hs (after_then c a) b p.2

abbrev pub DoParts : List Head → Sight → SourceStmt → PlainExpr → TypedStmt × TypedExpr → Type 0
DoParts hs c a e p = TypesStmt hs (looped c) a p.0 × TypesValue hs c e p.1

abbrev pub ForParts : List Head → Sight → Option PlainExpr → Option PlainExpr → Option PlainExpr
    → SourceStmt
    → Option TypedExpr × Option TypedExpr × Option TypedExpr × TypedStmt → Type 0
ForParts hs c x y z a p = There (TypesValue hs c) x p.0 × There (TypesValue hs c) y p.1
    × There (TypesValue hs c) z p.2 × TypesStmt hs (looped c) a p.3

abbrev pub SwitchParts : List Head → Sight → PlainExpr → SourceStmts → TypedExpr × TypedStmts
    → Type 0
SwitchParts hs c e xs p = TypesValue hs c e p.0 × TypesStmts hs (switched c) xs p.1

abbrev pub ReturnParts : List Head → Sight → Option PlainExpr → Ty × Option TypedExpr → Type 0
ReturnParts hs c e p = (c.result ≡ Some p.0) × There (TypesValue hs c) e p.1

abbrev mutual
  pub FaultInStmt : List Head → Sight → SourceStmt → Fault → Type 0
  FaultInStmt hs c (stmt.block n xs) f = FaultInStmts hs (scope_entered c) xs f
  FaultInStmt hs c (stmt.empty n) f = ⊥
  FaultInStmt hs c (stmt.expression n e) f = FaultInValue hs c e f
  FaultInStmt hs c (stmt.if_only n e a) f =
      (FaultInValue hs c e f ⊎ FaultInStmt hs (inside c) a f)
      ⊎ Own n (IfParts hs c (inside c) e a) (if_rule n) if_rows f
  FaultInStmt hs c (stmt.if_else n e a b) f =
      (FaultInValue hs c e f ⊎ (FaultInStmt hs (inside c) a f
      ⊎ FaultInStmt hs (after_then c a) b f))
      ⊎ Own n (IfElseParts hs c e a b) (if_else_rule n) if_else_rows f
  FaultInStmt hs c (stmt.while_loop n e a) f =
      (FaultInValue hs c e f ⊎ FaultInStmt hs (looped c) a f)
      ⊎ Own n (IfParts hs c (looped c) e a) (while_rule n) if_rows f
  FaultInStmt hs c (stmt.do_loop n a e) f =
      (FaultInStmt hs (looped c) a f ⊎ FaultInValue hs c e f)
      ⊎ Own n (DoParts hs c a e) (do_rule n) do_rows f
  FaultInStmt hs c (stmt.for_loop n x y z a) f =
      (FaultThere (FaultInValue hs c) x f
      ⊎ (FaultThere (FaultInValue hs c) y f ⊎ (FaultThere (FaultInValue hs c) z f
      ⊎ FaultInStmt hs (looped c) a f))) ⊎ Own n (ForParts hs c x y z a) (for_rule n) for_rows f
  FaultInStmt hs c (stmt.switch n e xs) f =
      (FaultInValue hs c e f ⊎ FaultInStmts hs (switched c) xs f)
      ⊎ Own n (SwitchParts hs c e xs) (switch_rule c n) (switch_rows c) f
  FaultInStmt hs c (stmt.break_off n) f = Own n NoParts (break_rule c n) outside_rows f
  FaultInStmt hs c (stmt.continue_on n) f = Own n NoParts (continue_rule c n) outside_rows f
  FaultInStmt hs c (stmt.return_from n e) f =
      FaultThere (FaultInValue hs c) e f ⊎ Own n (ReturnParts hs c e) (return_rule n) return_rows f
  FaultInStmt hs c (stmt.declaration n t ds) f = FaultOfLine c.structs n t f
      ⊎ FaultInNames hs c (line_type c.structs t) ds f
  FaultInStmt hs c (stmt.case_label n k) f =
      FaultInConstant c k f ⊎ Own n (TypesConstant c k) (case_rule c.labels n)
      (case_rows c.labels) f
  FaultInStmt hs c (stmt.default_label n) f = Own n NoParts (default_rule c.labels n)
      (default_rows c.labels) f

  pub FaultInStmts : List Head → Sight → SourceStmts → Fault → Type 0
  FaultInStmts hs c stmt.no_stmt f = ⊥
  FaultInStmts hs c (stmt.more_stmts x xs) f = FaultInStmt hs c x f
      ⊎ FaultInStmts hs (after c x) xs f

-- ---- structs

pub data TypesFields (structs : List Structure) : Fields → Option Ty → List Identifier
    → List Identifier → Type 0 where
  none : (s : Fields) (t : Option Ty) → TypesFields structs s t [] []
  more : (s : Fields) (t : Option Ty) {x y : Identifier} {xs ys : List Identifier}
      → Fits (λ u. t ≡ Some u) (field_rule structs s x) y
      → TypesFields structs (field_added structs s t x) t xs ys
      → TypesFields structs s t (x ∷ xs) (y ∷ ys)

pub record TypesFieldLine (structs : List Structure) (s : Fields) (l : SourceLine)
    (u : TypedLine) : Type 0 where
  pub line : TypesLine structs l.ty u.ty
  pub fields : TypesFields structs s (line_type structs l.ty) l.names u.names
  pub token : l.token ≡ u.token

pub data TypesLines (structs : List Structure) : Fields → List SourceLine → List TypedLine
    → Type 0 where
  none : (s : Fields) → TypesLines structs s [] []
  more : (s : Fields) {l : SourceLine} {ls : List SourceLine} {u : TypedLine} {us : List TypedLine}
      → TypesFieldLine structs s l u → TypesLines structs (after_line structs s l) ls us
      → TypesLines structs s (l ∷ ls) (u ∷ us)

abbrev pub FaultInFields : List Structure → Fields → Option Ty → List Identifier → Fault → Type 0
FaultInFields structs s t [] f = ⊥
FaultInFields structs s t (x ∷ xs) f =
    Own x.token (λ u. t ≡ Some u) (field_rule structs s x) (field_rows structs s x) f
    ⊎ FaultInFields structs (field_added structs s t x) t xs f

abbrev pub FaultInLines : List Structure → Fields → List SourceLine → Fault → Type 0
FaultInLines structs s [] f = ⊥
FaultInLines structs s (l ∷ ls) f =
    (FaultOfLine structs l.token l.ty f
    ⊎ FaultInFields structs s (line_type structs l.ty) l.names f)
    ⊎ FaultInLines structs (after_line structs s l) ls f

-- ---- functions

abbrev pub ParameterParts : Sight → SourceParameter → Meant × Option Const → Type 0
ParameterParts c p q = (type_means c.structs p.ty ≡ Some q.0)
    × There (TypesConstant c) p.default q.1

pub data TypesParams : Sight → Bool → List SourceParameter → List TypedParameter → Type 0 where
  none : (c : Sight) (late : Bool) → TypesParams c late [] []
  more : (c : Sight) (late : Bool) {p : SourceParameter} {ps : List SourceParameter} {t : TypedParameter} {ts : List TypedParameter}
      → Fits (ParameterParts c p) (parameter_rule c late p) t
      → TypesParams (parameter_declared c p) (late_after late p) ps ts
      → TypesParams c late (p ∷ ps) (t ∷ ts)

abbrev pub FaultInParams : Sight → Bool → List SourceParameter → Fault → Type 0
FaultInParams c late [] f = ⊥
FaultInParams c late (p ∷ ps) f =
    (FaultThere (FaultInConstant c) p.default f
    ⊎ Own p.token (ParameterParts c p) (parameter_rule c late p) (parameter_rows c late p) f)
    ⊎ FaultInParams (parameter_declared c p) (late_after late p) ps f

-- the parameters, the type of the result, and the first declaration of the same function, if one
-- stands before
abbrev pub HeadParts : Sight → TypeName → List ℕ → List SourceParameter
    → List TypedParameter × Meant × Option Signature → Type 0
HeadParts c t x ps p =
    TypesParams (in_function c t) false ps p.0 × (type_means c.structs t ≡ Some p.1)
    × (first_types x c.seen ≡ Some p.2)

abbrev pub TypesHead : Sight → TypeName → List ℕ → List SourceParameter → Bool → TypedHead → Type 0
TypesHead c t x ps with_body h = Fits (HeadParts c t x ps) (head_rule c x with_body) h

abbrev pub FaultInHead : Sight → ℕ → TypeName → List ℕ → List SourceParameter → Bool → Fault
    → Type 0
FaultInHead c n t x ps with_body f =
    FaultInParams (in_function c t) false ps f
    ⊎ Own n (HeadParts c t x ps) (head_rule c x with_body) head_rows f

abbrev pub TypesBody : List Head → Sight → Option SourceStmts → Option TypedStmts → Type 0
TypesBody hs c body t = There (TypesStmts hs c) body t

abbrev pub FunctionParts : List Head → Sight → TypeName → List ℕ → List SourceParameter
    → Option SourceStmts → TypedHead × Option TypedStmts → Type 0
FunctionParts hs c t x ps body p = TypesHead c t x ps (is_some body) p.0
    × TypesBody hs (in_body c t ps) body p.1

-- ---- items

abbrev pub ConstantNameParts : Sight → TypeName → Constant → Ty × Const → Type 0
ConstantNameParts c t k p = Fits (λ m. type_means c.structs t ≡ Some m) constant_type p.0
    × TypesConstant c k p.1

pub data TypesItem (hs : List Head) (c : Sight) : SourceItem → TypedItem → Type 0 where
  structure : (n : ℕ) (x : List ℕ) {ls : List SourceLine} {us : List TypedLine}
      → Fits (TypesLines c.structs no_fields ls) (struct_rule c.structs x) us
      → TypesItem hs c (item.structure n x ls) (item.structure n x us)
  constant : (n : ℕ) (t : TypeName) (x : Identifier) (k : Constant) {s : Ty} {v : Const}
      → Fits (ConstantNameParts c t k) (constant_name_rule c x.name) (s, v)
      → TypesItem hs c (item.constant n t x k) (item.constant n s x v)
  global : (n : ℕ) (t : TypeName) {ds : List SourceDeclared} {s : Ty} {us : List TypedName}
      → TypesLine c.structs t s → TypesNames hs c (line_type c.structs t) ds us
      → TypesItem hs c (item.global n t ds) (item.global n s us)
  function : (n : ℕ) (t : TypeName) (x : List ℕ) (ps : List SourceParameter)
      (body : Option SourceStmts) {u : TypedItem}
      → Fits (FunctionParts hs c t x ps body) (function_rule n x) u
      → TypesItem hs c (item.function n t x ps body) u

abbrev pub FaultInItem : List Head → Sight → SourceItem → Fault → Type 0
FaultInItem hs c (item.structure n x ls) f =
    FaultInLines c.structs no_fields ls f
    ⊎ Own n (TypesLines c.structs no_fields ls) (struct_rule c.structs x) struct_rows f
FaultInItem hs c (item.constant n t x k) f =
    (Own n (λ m. type_means c.structs t ≡ Some m) constant_type line_rows f ⊎ FaultInConstant c k f)
    ⊎ Own x.token (ConstantNameParts c t k) (constant_name_rule c x.name)
    (constant_name_rows c x.name) f
FaultInItem hs c (item.global n t ds) f = FaultOfLine c.structs n t f
    ⊎ FaultInNames hs c (line_type c.structs t) ds f
FaultInItem hs c (item.function n t x ps body) f =
    (FaultInHead c n t x ps (is_some body) f ⊎ FaultThere (FaultInStmts hs (in_body c t ps)) body f)
    ⊎ Own n (FunctionParts hs c t x ps body) (function_rule n x) function_rows f

pub data TypesItems (hs : List Head) : Sight → List SourceItem → List TypedItem → Type 0 where
  none : (c : Sight) → TypesItems hs c [] []
  more : (c : Sight) {i : SourceItem} {is : List SourceItem} {t : TypedItem} {ts : List TypedItem}
      → TypesItem hs c i t → TypesItems hs (after_item c i) is ts
      → TypesItems hs c (i ∷ is) (t ∷ ts)

abbrev pub FaultInItems : List Head → Sight → List SourceItem → Fault → Type 0
FaultInItems hs c [] f = ⊥
FaultInItems hs c (i ∷ is) f = FaultInItem hs c i f ⊎ FaultInItems hs (after_item c i) is f

-- ---- units

-- the unit is typed so, under the table of a header
pub record TypesUnit (table : EngineTable) (u : SourceTree) (t : TypedUnit) : Type 0 where
  pub items : TypesItems (heads table u.items) (start table) u.items t.items
  pub entry : Fits NoParts (entry_rule (heads table u.items)) t.entry

-- A node of the unit is at fault. The function that a script begins with is a node behind the last
-- token.
abbrev pub FaultInUnit : EngineTable → SourceTree → Fault → Type 0
FaultInUnit table u f =
    FaultInItems (heads table u.items) (start table) u.items f
    ⊎ Own u.count NoParts (entry_rule (heads table u.items)) entry_rows f
