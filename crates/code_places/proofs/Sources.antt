-- The nodes of a typed tree are those of its source, number by number.
use Rattle.std.proofs.Common.{◌≡◌, ap, refl, subst, slice_get, ℕ, zero, suc, ◌&&◌, not, Bool, true, false, cond, List, [], ◌∷◌, ◌++◌, Option, None, Some, is_some, option_map, option_and_then}
use Rattle.std.proofs.lemmas.Option.{none-some, same_Some}
use Rattle.nss_tree.specs.Places.{places, places_if, places_each, of_constant, places_declared, places_expr, places_exprs, places_identifier, places_item, places_line, places_parameter}
use Rattle.nss_tree.specs.Places.{places_stmt, places_stmts}
use Rattle.nss_tree.specs.Source.{SourceDeclared, SourceItem, SourceLine, SourceParameter, SourceStmt, SourceStmts}
use Rattle.nss_tree.specs.Expressions.{PlainExpr, PlainExprs}
use Rattle.nss_tree.specs.declared.constants.Constant.{Constant}
use Rattle.nss_tree.specs.declared.units.Identifier.{Identifier}
use Rattle.nwq_value.specs.declared.value.Ty.{Ty}
use Rattle.nwq_value.specs.declared.engine.Const.{Const}
use Rattle.nwq_value.specs.declared.engine.Param.{Param}
use Rattle.typing_rules.specs.Typed.{TypedExpr, TypedExprs, TypedItem, TypedLine, TypedName, TypedParameter, TypedStmt, TypedStmts, TypedUnit}
use Rattle.typing_rules.specs.Typed as typed
use Rattle.typing_rules.specs.Nodes.{There, absent, present}
use Rattle.typing_rules.specs.Sight.{Called, Head, Meaning, Sight, Structure, variable, constant, value_type, any_type, members_in}
use Rattle.typing_rules.specs.Rules.{call_of, filled, filled_call, is_barred, all_taken, member_at, named, parameter_of, assigned, when, head_of, TypedHead, Fields}
use Rattle.typing_rules.specs.Types.{assigned_type, binary_type}
use Rattle.typing_rules.specs.Meaning.{AllTypes, Types, TypesFields, TypesItem, TypesItems, TypesLines, TypesNames, TypesParams, TypesStmt, TypesStmts, TypesUnit, TypesValue}
use Rattle.typing_rules.specs.Meaning as rules
use Rattle.code_places.specs.Nodes.{Node, nodes_body, nodes_default, nodes_expr, nodes_exprs, nodes_fields, nodes_if, nodes_item, nodes_items, nodes_lines, nodes_names, nodes_parameters}
use Rattle.code_places.specs.Nodes.{nodes_stmt, nodes_stmts, unit_nodes}
use Rattle.code_places.specs.Seeking.{node_at}
use Rattle.code_places.proofs.Found.{places_hold}
use Rattle.code_places.specs.Sources.{AreOf, IsOf, IsTyping, TokensAgree, TokensHold, expr_token}

both : (ts us : List ℕ) (ns ms : List Node) → AreOf ts ns → AreOf us ms → AreOf (ts ++ us) (ns ++ ms)
both [] us [] ms f g = g
both [] us (n ∷ ns) ms f g = absurd f
both (t ∷ ts) us [] ms f g = absurd f
both (t ∷ ts) us (n ∷ ns) ms f g = (f.0, both ts us ns ms f.1 g)

-- ---- what a rule gives

when_is : {A : Type 0} (b : Bool) (x y : A) → when b x ≡ Some y → x ≡ y
when_is true x y e = same_Some _ _ e
when_is false x y e = absurd (none-some y e)

if_is : {A : Type 0} (b : Bool) (o : Option A) (y : A) → cond b o None ≡ Some y → o ≡ Some y
if_is true o y e = e
if_is false o y e = absurd (none-some y e)

map_is : {A B : Type 0} (f : A → B) (o : Option A) (y : B) → option_map f o ≡ Some y → (a : A) × (f a ≡ y)
map_is f None y e = absurd (none-some y e)
map_is f (Some a) y e = (a, same_Some _ _ e)

then_is : {A B : Type 0} (f : A → Option B) (o : Option A) (b : B) → option_and_then f o ≡ Some b → (a : A) × (f a ≡ Some b)
then_is f None b e = absurd (none-some b e)
then_is f (Some a) b e = (a, e)

call_is : (at_file as_action : Bool) (xs : TypedExprs) (d : Option Called) (t : TypedExpr) → call_of at_file as_action xs d ≡ Some t
    → (d : Called) × ((ks : List Const) × (typed.call d.result d.callee xs ks ≡ t))
call_is at_file as_action xs None t e = absurd (none-some t e)
call_is at_file as_action xs (Some d) t e = (
  d,
  map_is (λ ks. typed.call d.result d.callee xs ks) (filled xs d.params) t
      (if_is (d.is_callable && (not (at_file && is_barred as_action d) && all_taken xs d.params)) (filled_call xs d) t e),
)

-- ---- expressions

name_of : (n : ℕ) (at_file : Bool) (m : Meaning) (t : TypedExpr) → named at_file m ≡ t → IsTyping n t → AreOf (n ∷ []) (nodes_expr t)
name_of n at_file (variable k l y) t e h = subst (λ z. IsTyping n z → AreOf (n ∷ []) (nodes_expr z)) e (λ g. (g, tt)) h
name_of n at_file (constant k) t e h = subst (λ z. IsTyping n z → AreOf (n ∷ []) (nodes_expr z)) e (λ g. (g, tt)) h

module _ {hs : List Head} {c : Sight} where
  typing : {b : Bool} {x : PlainExpr} {e : TypedExpr} (n : ℕ) → expr_token x ≡ n → Types hs c b x e → IsTyping n e
  typing {b = b} {x = x} n is h = record { heads = hs; sight = c; as_action = b; source = x; is = is; types = h }

  mutual
    expr_of : {b : Bool} {x : PlainExpr} {t : TypedExpr} → Types hs c b x t → AreOf (places_expr x) (nodes_expr t)
    expr_of (rules.Types.int b n v) = (typing n refl (rules.Types.int b n v), tt)
    expr_of (rules.Types.text b n v) = (typing n refl (rules.Types.text b n v), tt)
    expr_of (rules.Types.object_self b n) = (typing n refl (rules.Types.object_self b n), tt)
    expr_of (rules.Types.object_invalid b n) = (typing n refl (rules.Types.object_invalid b n), tt)
    expr_of (rules.Types.name b n x {m = m} {t = t} h g) =
        let a = map_is (named c.at_file) m t g in
        name_of n c.at_file a.0 t a.1 (typing n refl (rules.Types.name b n x h g))
    expr_of (rules.Types.call b n f {es = es} {ts = ts} {d = d} {t = t} h i g) =
        let a = call_is c.at_file b ts d t g in
        subst (λ z. IsTyping n z → AreOf (n ∷ places_exprs es) (nodes_expr z)) a.1.1 (λ k. (k, exprs_of h)) (typing n refl (rules.Types.call b n f h i g))
    expr_of (rules.Types.member b n x {e = e} {u = u} {t = t} h g) =
        let a = map_is (λ m. typed.member m.ty u m.before) (member_at x (members_in c.structs (typed.type_of u))) t g in
        subst (λ z. IsTyping n z → AreOf (n ∷ places_expr e) (nodes_expr z)) a.1 (λ k. (k, expr_of h)) (typing n refl (rules.Types.member b n x h g))
    expr_of (rules.Types.prefix b n o {e = e} {u = u} {t = t} h g) =
        subst (λ z. IsTyping n z → AreOf (n ∷ places_expr e) (nodes_expr z)) (when_is _ _ t g) (λ k. (k, expr_of h)) (typing n refl (rules.Types.prefix b n o h g))
    expr_of (rules.Types.postfix b n o {e = e} {u = u} {t = t} h g) =
        subst (λ z. IsTyping n z → AreOf (n ∷ places_expr e) (nodes_expr z)) (when_is _ _ t g) (λ k. (k, expr_of h)) (typing n refl (rules.Types.postfix b n o h g))
    expr_of (rules.Types.binary b n o {d = d} {e = e} {u = u} {v = v} {t = t} h i g) =
        let a = map_is (λ y. typed.binary y o u v) (binary_type o (typed.type_of u) (typed.type_of v)) t g in
        subst (λ z. IsTyping n z → AreOf (n ∷ (places_expr d ++ places_expr e)) (nodes_expr z)) a.1
        (λ k. (k, both (places_expr d) (places_expr e) (nodes_expr u) (nodes_expr v) (expr_of h) (expr_of i))) (typing n refl (rules.Types.binary b n o h i g))
    expr_of (rules.Types.assign b n o {d = d} {e = e} {u = u} {v = v} {t = t} h i g) =
        let a = map_is (λ y. typed.assign y o u v) (assigned_type o (typed.type_of u) (typed.type_of v)) t (if_is _ (assigned o u v) t g) in
        subst (λ z. IsTyping n z → AreOf (n ∷ (places_expr d ++ places_expr e)) (nodes_expr z)) a.1
        (λ k. (k, both (places_expr d) (places_expr e) (nodes_expr u) (nodes_expr v) (expr_of h) (expr_of i))) (typing n refl (rules.Types.assign b n o h i g))

    exprs_of : {ps : List Param} {xs : PlainExprs} {ts : TypedExprs} → AllTypes hs c ps xs ts → AreOf (places_exprs xs) (nodes_exprs ts)
    exprs_of (rules.AllTypes.none ps) = tt
    exprs_of (rules.AllTypes.more ps {e = e} {es = es} {t = t} {ts = ts} h i) = both (places_expr e) (places_exprs es) (nodes_expr t) (nodes_exprs ts) (expr_of h) (exprs_of i)

  some_of : {x : Option PlainExpr} {t : Option TypedExpr} → There (TypesValue hs c) x t → AreOf (places_if places_expr x) (nodes_if t)
  some_of absent = tt
  some_of (present h) = expr_of h

-- ---- names and statements

names_of : {hs : List Head} {c : Sight} {t : Option Ty} {ds : List SourceDeclared} {us : List TypedName} → TypesNames hs c t ds us
    → AreOf (places_each places_declared ds) (nodes_names us)
names_of (rules.TypesNames.none c t) = tt
names_of (rules.TypesNames.more c t {d = d} {ds = ds} {u = u} {us = us} h i) =
    subst (λ z. AreOf (d.token ∷ (places_if places_expr d.value ++ places_each places_declared ds)) (nodes_names (z ∷ us))) (when_is _ _ u h.gives)
    (refl, both (places_if places_expr d.value) (places_each places_declared ds) (nodes_if h.typed.1) (nodes_names us) (some_of h.parts.1) (names_of i))

mutual
  stmt_of : {hs : List Head} {c : Sight} {x : SourceStmt} {s : TypedStmt} → TypesStmt hs c x s → AreOf (places_stmt x) (nodes_stmt s)
  stmt_of (rules.TypesStmt.block c n h) = (refl, stmts_of h)
  stmt_of (rules.TypesStmt.empty c n) = (refl, tt)
  stmt_of (rules.TypesStmt.expression c n h) = (refl, expr_of h)
  stmt_of (rules.TypesStmt.if_only c n {e = e} {a = a} {t = t} {u = u} {s = s} h i g) =
      subst (λ z. AreOf (n ∷ (places_expr e ++ places_stmt a)) (nodes_stmt z)) (when_is _ _ s g)
      (refl, both (places_expr e) (places_stmt a) (nodes_expr t) (nodes_stmt u) (expr_of h) (stmt_of i))
  stmt_of (rules.TypesStmt.if_else c n {e = e} {a = a} {b = b} {t = t} {u = u} {v = v} {s = s} h i j g) =
      subst (λ z. AreOf (n ∷ (places_expr e ++ (places_stmt a ++ places_stmt b))) (nodes_stmt z)) (when_is _ _ s g) (
        refl,
        both (places_expr e) (places_stmt a ++ places_stmt b) (nodes_expr t) (nodes_stmt u ++ nodes_stmt v) (expr_of h)
            (both (places_stmt a) (places_stmt b) (nodes_stmt u) (nodes_stmt v) (stmt_of i) (stmt_of j)),
      )
  stmt_of (rules.TypesStmt.while_loop c n {e = e} {a = a} {t = t} {u = u} {s = s} h i g) =
      subst (λ z. AreOf (n ∷ (places_expr e ++ places_stmt a)) (nodes_stmt z)) (when_is _ _ s g)
      (refl, both (places_expr e) (places_stmt a) (nodes_expr t) (nodes_stmt u) (expr_of h) (stmt_of i))
  stmt_of (rules.TypesStmt.do_loop c n {a = a} {e = e} {u = u} {s = s} {t = t} h i g) =
      subst (λ z. AreOf (n ∷ (places_stmt a ++ places_expr e)) (nodes_stmt z)) (when_is _ _ s g)
      (refl, both (places_stmt a) (places_expr e) (nodes_stmt u) (nodes_expr t) (stmt_of h) (expr_of i))
  stmt_of (rules.TypesStmt.for_loop c n {x = x} {y = y} {z = z} {a = a} {t = t} {u = u} {v = v} {w = w} {s = s} h i j k g) =
      subst (λ q. AreOf (n ∷ (places_if places_expr x ++ (places_if places_expr y ++ (places_if places_expr z ++ places_stmt a)))) (nodes_stmt q)) (when_is _ _ s g) (
        refl,
        both (places_if places_expr x) (places_if places_expr y ++ (places_if places_expr z ++ places_stmt a)) (nodes_if t) (nodes_if u ++ (nodes_if v ++ nodes_stmt w)) (some_of h)
            (both (places_if places_expr y) (places_if places_expr z ++ places_stmt a) (nodes_if u) (nodes_if v ++ nodes_stmt w) (some_of i)
            (both (places_if places_expr z) (places_stmt a) (nodes_if v) (nodes_stmt w) (some_of j) (stmt_of k))),
      )
  stmt_of (rules.TypesStmt.switch c n {e = e} {xs = xs} {t = t} {ts = ts} {s = s} h i g) =
      subst (λ z. AreOf (n ∷ (places_expr e ++ places_stmts xs)) (nodes_stmt z)) (when_is _ _ s g)
      (refl, both (places_expr e) (places_stmts xs) (nodes_expr t) (nodes_stmts ts) (expr_of h) (stmts_of i))
  stmt_of (rules.TypesStmt.break_off c n {s = s} g) = subst (λ z. AreOf (n ∷ []) (nodes_stmt z)) (when_is _ _ s g) (refl, tt)
  stmt_of (rules.TypesStmt.continue_on c n {s = s} g) = subst (λ z. AreOf (n ∷ []) (nodes_stmt z)) (when_is _ _ s g) (refl, tt)
  stmt_of (rules.TypesStmt.return_from c n {e = e} {s = s} h i g) =
      subst (λ z. AreOf (n ∷ places_if places_expr e) (nodes_stmt z)) (when_is _ _ s g) (refl, some_of i)
  stmt_of (rules.TypesStmt.declaration c n t h i) = (refl, names_of i)
  stmt_of (rules.TypesStmt.case_label c n {k = k} {s = s} h g) = subst (λ z. AreOf (n ∷ of_constant k) (nodes_stmt z)) (when_is _ _ s g) (refl, (tt, tt))
  stmt_of (rules.TypesStmt.default_label c n {s = s} g) = subst (λ z. AreOf (n ∷ []) (nodes_stmt z)) (when_is _ _ s g) (refl, tt)

  stmts_of : {hs : List Head} {c : Sight} {xs : SourceStmts} {ts : TypedStmts} → TypesStmts hs c xs ts → AreOf (places_stmts xs) (nodes_stmts ts)
  stmts_of (rules.TypesStmts.none c) = tt
  stmts_of (rules.TypesStmts.more c {x = x} {xs = xs} {t = t} {ts = ts} h i) =
      both (places_stmt x) (places_stmts xs) (nodes_stmt t) (nodes_stmts ts) (stmt_of h) (stmts_of i)

-- ---- items

fields_of : {structs : List Structure} {s : Fields} {t : Option Ty} {xs ys : List Identifier} → TypesFields structs s t xs ys
    → AreOf (places_each places_identifier xs) (nodes_fields ys)
fields_of (rules.TypesFields.none s t) = tt
fields_of (rules.TypesFields.more s t h i) = (tt, fields_of i)

lines_of : {structs : List Structure} {s : Fields} {ls : List SourceLine} {us : List TypedLine} → TypesLines structs s ls us
    → AreOf (places_each places_line ls) (nodes_lines us)
lines_of (rules.TypesLines.none s) = tt
lines_of (rules.TypesLines.more s {l = l} {ls = ls} {u = u} {us = us} h i) =
    (tt, both (places_each places_identifier l.names) (places_each places_line ls) (nodes_fields u.names) (nodes_lines us) (fields_of h.fields) (lines_of i))

default_of : {P : Constant → Const → Type 0} {x : Option Constant} {v : Option Const} → There P x v → AreOf (places_if of_constant x) (nodes_default v)
default_of absent = tt
default_of (present h) = (tt, tt)

params_of : {c : Sight} {late : Bool} {ps : List SourceParameter} {ts : List TypedParameter} → TypesParams c late ps ts
    → AreOf (places_each places_parameter ps) (nodes_parameters ts)
params_of (rules.TypesParams.none c late) = tt
params_of (rules.TypesParams.more c late {p = p} {ps = ps} {t = t} {ts = ts} h i) =
    let v = then_is (parameter_of c late p h.typed.1) (value_type h.typed.0) t h.gives in
    subst (λ z. AreOf (p.token ∷ (places_if of_constant p.default ++ places_each places_parameter ps)) (nodes_parameters (z ∷ ts))) (when_is _ _ t v.1)
    (tt, both (places_if of_constant p.default) (places_each places_parameter ps) (nodes_default h.typed.1) (nodes_parameters ts) (default_of h.parts.1) (params_of i))

body_of : {hs : List Head} {c : Sight} {body : Option SourceStmts} {t : Option TypedStmts} → There (TypesStmts hs c) body t
    → AreOf (places_if places_stmts body) (nodes_body t)
body_of absent = tt
body_of (present h) = stmts_of h

item_of : {hs : List Head} {c : Sight} {i : SourceItem} {t : TypedItem} → TypesItem hs c i t → AreOf (places_item i) (nodes_item t)
item_of (rules.TypesItem.structure n x {ls = ls} {us = us} h) =
    (refl, subst (λ z. AreOf (places_each places_line ls) (nodes_lines z)) (when_is _ _ us h.gives) (lines_of h.parts))
item_of (rules.TypesItem.constant n t x k h) = (refl, (tt, (tt, tt)))
item_of (rules.TypesItem.global n t h i) = (refl, names_of i)
item_of {c = c} (rules.TypesItem.function n t x ps body {u = u} h) =
    let g = h.parts.0 in
    let v = then_is (λ y. head_of c x (is_some body) g.typed.2 (record { params = g.typed.0; result = y })) (any_type g.typed.1) h.typed.0 g.gives in
    let same = ap (λ (z : TypedHead). z.params) (when_is _ _ h.typed.0 v.1) in
    subst (λ z. AreOf (n ∷ (places_each places_parameter ps ++ places_if places_stmts body)) (nodes_item z)) (when_is _ _ u h.gives) (
      refl,
      both (places_each places_parameter ps) (places_if places_stmts body) (nodes_parameters h.typed.0.params) (nodes_body h.typed.1)
          (subst (λ z. AreOf (places_each places_parameter ps) (nodes_parameters z)) same (params_of g.parts.0)) (body_of h.parts.1),
    )

items_of : {hs : List Head} {c : Sight} {is : List SourceItem} {ts : List TypedItem} → TypesItems hs c is ts → AreOf (places_each places_item is) (nodes_items ts)
items_of (rules.TypesItems.none c) = tt
items_of (rules.TypesItems.more c {i = i} {is = is} {t = t} {ts = ts} h k) =
    both (places_item i) (places_each places_item is) (nodes_item t) (nodes_items ts) (item_of h) (items_of k)

pub tokens_agree : TokensAgree
unfolding places
tokens_agree table u t h = items_of h.items

-- ---- a token that is told

of_number : (ts : List ℕ) (ns : List Node) (n t : ℕ) (node : Node) → AreOf ts ns → slice_get ts n ≡ Some t → slice_get ns n ≡ Some node → IsOf t node
of_number [] ns n t node h e f = absurd cc
of_number (x ∷ ts) [] n t node h e f = absurd h
of_number (x ∷ ts) (y ∷ ns) zero t node h e f = subst (λ z. IsOf z node) (same_Some _ _ e) (subst (IsOf x) (same_Some _ _ f) h.0)
of_number (x ∷ ts) (y ∷ ns) (suc n) t node h e f = of_number ts ns n t node h.1 e f

both_some : {A B : Type 0} (f : A → Option B) (o : Option A) (b : B) → option_and_then f o ≡ Some b → (a : A) × ((o ≡ Some a) × (f a ≡ Some b))
both_some f None b e = absurd (none-some b e)
both_some f (Some a) b e = (a, (refl, e))

pub tokens_hold : TokensHold
tokens_hold table tree u typed place token h =
    let told = both_some (λ n. slice_get (places tree) n) (node_at u place) token h in
    let held = places_hold u place told.0 told.1.0 in
    let r = held.1.1 in (
      held.0,
      (
        held.1.0,
        record {
          before = r.before;
          code = r.code;
          behind = r.behind;
          whole = r.whole;
          from = r.from;
          to = r.to;
          is = record {
            node = r.is.node;
            has = of_number (places tree) (unit_nodes u) told.0 token r.is.node (tokens_agree table tree u typed) told.1.1 r.is.numbered;
            is = r.is.is;
          };
        },
      ),
    )
