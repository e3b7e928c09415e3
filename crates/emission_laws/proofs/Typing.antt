-- What the rules of typing say of switches, and of the first values of globals.
use Rattle.std.proofs.Common.{◌≡◌, ◌+◌, ◌⊎◌, inl, inr, ◌&&◌, ◌||◌, not, cond, ℕ, zero, suc, List, [], ◌∷◌, ◌++◌, Option, Some, None, Bool, true, false, slice_get, ◌∙◌, ap, refl, subst, option_map}
use Rattle.nss_tree.specs.Expressions.{PlainExpr, PlainExprs}
use Rattle.nss_tree.specs.Statements as stmt
use Rattle.nss_tree.specs.Units as unit
use Rattle.nss_tree.specs.Source.{SourceDeclared, SourceStmt, SourceStmts, SourceItem}
use Rattle.nwq_value.specs.declared.value.Ty.{Ty}
use Rattle.nwq_value.specs.declared.value.Ty.TheVariants.{Int}
use Rattle.nwq_value.specs.declared.engine.Const.{Const}
use Rattle.nwq_value.specs.declared.engine.Const.TheVariants as const
use Rattle.nwq_value.specs.declared.engine.Param.{Param}
use Rattle.nwq_value.specs.Engine.{const_type}
use Rattle.typing_rules.specs.declared.places.Callee.{Callee}
use Rattle.typing_rules.specs.declared.places.Callee.TheVariants.{Unit as InUnit, Engine}
use Rattle.typing_rules.specs.Types.{is_int}
use Rattle.typing_rules.specs.Typed.{TypedExpr, TypedExprs, TypedName, TypedStmt, TypedStmts, TypedItem, call}
use Rattle.typing_rules.specs.Nodes.{There}
use Rattle.typing_rules.specs.Sight.{Head, Sight, Labels, Meaning, variable, constant, Called, with_case, with_default, with_declaration, declared, switched}
use Rattle.typing_rules.specs.Rules.{named, is_of_unit, all_taken, filled, filled_call, call_rule, is_again, is_outside, has_default_label}
use Rattle.typing_rules.specs.Verdicts.{after, after_names, after_item}
use Rattle.typing_rules.specs.Meaning.{Types, AllTypes, TypesValue, TypesNames, TypesStmt, TypesStmts, TypesItem, TypesItems}
use Rattle.emission_rules.specs.Statements.{is_label, count_labels}
use Rattle.source_meaning.specs.Scripts.{Function, functions, global_names}
use Rattle.source_laws.specs.Laws.{CallsEngine, AllCallEngine}
use Rattle.source_laws.specs.FineStatements.{DeclaresNothing}
use Rattle.emission_laws.specs.WellTyped.{LabelsFirst, FitsSwitches, AllFitSwitches, SomeCallsEngine, NamesCallEngine}
use Rattle.emission_laws.specs.Laws.{SwitchesFit, FirstValuesCallEngine}

-- ---- rules

when_is : {A : Type 0} (b : Bool) (x y : A) → cond b (Some x) None ≡ Some y → x ≡ y
when_is true x y h = cc
when_is false x y h = absurd cc

mapped : {A B : Type 0} (f : A → B) (o : Option A) (y : B) → option_map f o ≡ Some y → (a : A) × (f a ≡ y)
mapped f None y h = absurd cc
mapped f (Some a) y h = (a, cc)

-- ---- first values

named_calls : (at_file : Bool) (m : Meaning) → CallsEngine (named at_file m)
named_calls at_file (variable n is_local t) = tt
named_calls at_file (constant k) = tt

allowed : (a u q r : Bool) (o : Option TypedExpr) (t : TypedExpr) → cond (a && (not (true && (u || q)) && r)) o None ≡ Some t → (u ≡ false) × (o ≡ Some t)
allowed true false false true o t h = (refl, h)
allowed true false false false o t h = absurd cc
allowed true false true r o t h = absurd cc
allowed true true q r o t h = absurd cc
allowed false u q r o t h = absurd cc

of_engine : (t : Ty) (f : Callee) (xs : TypedExprs) (ks : List Const) → is_of_unit f ≡ false → AllCallEngine xs → CallsEngine (call t f xs ks)
of_engine t (InUnit n) xs ks h all = absurd cc
of_engine t (Engine n) xs ks h all = all

call_calls : (at_file as_action : Bool) (xs : TypedExprs) (d : Option Called) (t : TypedExpr) → at_file ≡ true → call_rule at_file as_action (xs, d) ≡ Some t → AllCallEngine xs → CallsEngine t
call_calls false as_action xs d t is h all = absurd cc
call_calls true as_action xs None t is h all = absurd cc
call_calls true as_action xs (Some d) t is h all =
    let a = allowed d.is_callable (is_of_unit d.callee) _ (all_taken xs d.params) (filled_call xs d) t h in
    let m = mapped (λ (ks : List Const). call d.result d.callee xs ks) (filled xs d.params) t a.1 in
    subst CallsEngine m.1 (of_engine d.result d.callee xs m.0 a.0 all)

assigned_calls : {A : Type 0} (b : Bool) (f : A → TypedExpr) (o : Option A) (t : TypedExpr) → cond b (option_map f o) None ≡ Some t → ((a : A) → CallsEngine (f a)) → CallsEngine t
assigned_calls false f o t h all = absurd cc
assigned_calls true f o t h all = let r = mapped f o t h in subst CallsEngine r.1 (all r.0)

mutual
  calls_engine : (hs : List Head) (c : Sight) (b : Bool) (e : PlainExpr) (t : TypedExpr) → c.at_file ≡ true → Types hs c b e t → CallsEngine t
  calls_engine hs c b e t is (Types.int d n v) = tt
  calls_engine hs c b e t is (Types.text d n v) = tt
  calls_engine hs c b e t is (Types.object_self d n) = tt
  calls_engine hs c b e t is (Types.object_invalid d n) = tt
  calls_engine hs c b e t is (Types.name d n x {m = m} h g) = let r = mapped (named c.at_file) m t g in subst CallsEngine r.1 (named_calls c.at_file r.0)
  calls_engine hs c b e t is (Types.call d n f {es = es} {ts = ts} {d = o} h k g) = call_calls c.at_file b ts o t is g (all_call hs c _ es ts is h)
  calls_engine hs c b e t is (Types.member d n x {e = f} {u = u} h g) = let r = mapped _ _ t g in subst CallsEngine r.1 (calls_engine hs c false f u is h)
  calls_engine hs c b e t is (Types.prefix d n o {e = f} {u = u} h g) = subst CallsEngine (when_is _ _ t g) (calls_engine hs c false f u is h)
  calls_engine hs c b e t is (Types.postfix d n o {e = f} {u = u} h g) = subst CallsEngine (when_is _ _ t g) (calls_engine hs c false f u is h)
  calls_engine hs c b e t is (Types.binary a n o {d = p} {e = q} {u = u} {v = v} h k g) =
      let r = mapped _ _ t g in subst CallsEngine r.1 (calls_engine hs c false p u is h, calls_engine hs c false q v is k)
  calls_engine hs c b e t is (Types.assign a n o {d = p} {e = q} {u = u} {v = v} h k g) =
      assigned_calls _ _ _ t g (λ a. (calls_engine hs c false p u is h, calls_engine hs c false q v is k))

  all_call : (hs : List Head) (c : Sight) (ps : List Param) (es : PlainExprs) (ts : TypedExprs) → c.at_file ≡ true → AllTypes hs c ps es ts → AllCallEngine ts
  all_call hs c ps es ts is (AllTypes.none qs) = tt
  all_call hs c ps es ts is (AllTypes.more qs {e = e} {es = fs} {t = t} {ts = us} h k) = (λ value. calls_engine hs c _ e t is h, all_call hs c _ fs us is k)

some_calls : (hs : List Head) (c : Sight) (e : Option PlainExpr) (t : Option TypedExpr) → c.at_file ≡ true → There (TypesValue hs c) e t → SomeCallsEngine t
some_calls hs c e t is There.absent = tt
some_calls hs c e t is (There.present {a = a} {b = b} h) = calls_engine hs c false a b is h

names_call : (hs : List Head) (c : Sight) (t : Option Ty) (ds : List SourceDeclared) (us : List TypedName) → c.at_file ≡ true → TypesNames hs c t ds us → NamesCallEngine us
names_call hs c t ds us is (TypesNames.none d s) = tt
names_call hs c t ds us is (TypesNames.more d s {d = a} {ds = others} {u = u} {us = vs} h k) = (
  subst SomeCallsEngine (ap (λ (n : TypedName). n.value) (when_is _ _ u h.gives)) (some_calls hs d a.value h.typed.1 is h.parts.1),
  names_call hs (declared d a.name s) s others vs is k,
)

names_both : (xs ys : List TypedName) → NamesCallEngine xs → NamesCallEngine ys → NamesCallEngine (xs ++ ys)
names_both [] ys f g = g
names_both (x ∷ xs) ys f g = (f.0, names_both xs ys f.1 g)

still_file : (c : Sight) (t : Option Ty) (ds : List SourceDeclared) → c.at_file ≡ true → (after_names c t ds).at_file ≡ true
still_file c t [] is = is
still_file c t (d ∷ ds) is = still_file (declared c d.name t) t ds is

item_file : (c : Sight) (i : SourceItem) → c.at_file ≡ true → (after_item c i).at_file ≡ true
item_file c (unit.structure n x ls) is = is
item_file c (unit.constant n t x k) is = is
item_file c (unit.global n t ds) is = still_file c _ ds is
item_file c (unit.function n t x ps body) is = is

item_calls : (hs : List Head) (c : Sight) (i : SourceItem) (t : TypedItem) (ts : List TypedItem) → c.at_file ≡ true
    → TypesItem hs c i t → NamesCallEngine (global_names ts) → NamesCallEngine (global_names (t ∷ ts))
item_calls hs c i t ts is (TypesItem.structure n x h) rest = rest
item_calls hs c i t ts is (TypesItem.constant n y x k h) rest = rest
item_calls hs c i t ts is (TypesItem.global n y {ds = ds} {us = us} l h) rest = names_both us (global_names ts) (names_call hs c _ ds us is h) rest
item_calls hs c i t ts is (TypesItem.function n y x ps body h) rest =
    subst (λ (u : TypedItem). NamesCallEngine (global_names (u ∷ ts))) (when_is _ _ t h.gives) rest

items_call : (hs : List Head) (c : Sight) (is : List SourceItem) (ts : List TypedItem) → c.at_file ≡ true → TypesItems hs c is ts → NamesCallEngine (global_names ts)
items_call hs c is ts file (TypesItems.none d) = tt
items_call hs c is ts file (TypesItems.more d {i = i} {is = js} {t = t} {ts = us} h k) =
    item_calls hs d i t us file h (items_call hs (after_item d i) js us (item_file d i file) k)

pub first_values_call_engine : FirstValuesCallEngine
first_values_call_engine table source u typed = items_call _ _ source.items u.items refl typed.items

-- ---- switches

case_is : (a b c : Bool) (x y : TypedStmt) → cond (not a && (not b && c)) (Some x) None ≡ Some y → (b ≡ false) × (c ≡ true) × (x ≡ y)
case_is false false true x y h = (refl, refl, cc)
case_is false false false x y h = absurd cc
case_is false true c x y h = absurd cc
case_is true b c x y h = absurd cc

default_is : (a b : Bool) (x y : TypedStmt) → cond (not a && not b) (Some x) None ≡ Some y → (b ≡ false) × (x ≡ y)
default_is false false x y h = (refl, cc)
default_is false true x y h = absurd cc
default_is true b x y h = absurd cc

int_is : (t : Ty) → is_int t ≡ true → t ≡ Int
int_is Int h = refl
int_is t h = absurd cc

-- where no label may stand, none may after a statement
late_case : (o : Option Labels) (v : Option Const) → is_outside o ≡ true → is_outside (option_map (λ l. with_case l v) o) ≡ true
late_case None v h = refl
late_case (Some l) (Some (const.Int n)) h = h
late_case (Some l) v h = h

late_default : (o : Option Labels) → is_outside o ≡ true → is_outside (option_map with_default o) ≡ true
late_default None h = refl
late_default (Some l) h = h

late_declaration : (o : Option Labels) → is_outside (option_map with_declaration o) ≡ true
late_declaration None = refl
late_declaration (Some l) = refl

late_after : (c : Sight) (x : SourceStmt) → is_outside c.labels ≡ true → is_outside (after c x).labels ≡ true
late_after c (stmt.declaration n t ds) h = late_declaration _
late_after c (stmt.case_label n k) h = late_case c.labels _ h
late_after c (stmt.default_label n) h = late_default c.labels h
late_after c x h = h

-- a label stands where one may
label_stands : (hs : List Head) (c : Sight) (x : SourceStmt) (t : TypedStmt) → is_outside c.labels ≡ true → TypesStmt hs c x t → is_label t ≡ false
label_stands hs c x t late (TypesStmt.block d n h) = refl
label_stands hs c x t late (TypesStmt.empty d n) = refl
label_stands hs c x t late (TypesStmt.expression d n h) = refl
label_stands hs c x t late (TypesStmt.if_only d n h k g) = subst (λ (s : TypedStmt). is_label s ≡ false) (when_is _ _ t g) refl
label_stands hs c x t late (TypesStmt.if_else d n h k l g) = subst (λ (s : TypedStmt). is_label s ≡ false) (when_is _ _ t g) refl
label_stands hs c x t late (TypesStmt.while_loop d n h k g) = subst (λ (s : TypedStmt). is_label s ≡ false) (when_is _ _ t g) refl
label_stands hs c x t late (TypesStmt.do_loop d n h k g) = subst (λ (s : TypedStmt). is_label s ≡ false) (when_is _ _ t g) refl
label_stands hs c x t late (TypesStmt.for_loop d n h k l m g) = subst (λ (s : TypedStmt). is_label s ≡ false) (when_is _ _ t g) refl
label_stands hs c x t late (TypesStmt.switch d n h k g) = subst (λ (s : TypedStmt). is_label s ≡ false) (when_is _ _ t g) refl
label_stands hs c x t late (TypesStmt.break_off d n g) = subst (λ (s : TypedStmt). is_label s ≡ false) (when_is _ _ t g) refl
label_stands hs c x t late (TypesStmt.continue_on d n g) = subst (λ (s : TypedStmt). is_label s ≡ false) (when_is _ _ t g) refl
label_stands hs c x t late (TypesStmt.return_from d n r h g) = subst (λ (s : TypedStmt). is_label s ≡ false) (when_is _ _ t g) refl
label_stands hs c x t late (TypesStmt.declaration d n y h k) = refl
label_stands hs c x t late (TypesStmt.case_label d n {v = v} h g) = let r = case_is (is_again d.labels v)
    (is_outside d.labels) (is_int (const_type v)) (stmt.case_label n v) t g in absurd (cc (late, r.0))
label_stands hs c x t late (TypesStmt.default_label d n g) = let r = default_is (has_default_label d.labels) (is_outside d.labels) (stmt.default_label n) t g in absurd (cc (late, r.0))

none_behind : (hs : List Head) (c : Sight) (xs : SourceStmts) (ts : TypedStmts) → is_outside c.labels ≡ true → TypesStmts hs c xs ts → count_labels ts ≡ 0
none_behind hs c xs ts late (TypesStmts.none d) = refl
none_behind hs c xs ts late (TypesStmts.more d {x = x} {xs = ys} {t = t} {ts = us} h k) =
    ap (λ b. cond b (1 + count_labels us) (count_labels us)) (label_stands hs d x t late h) ∙ none_behind hs (after d x) ys us (late_after d x late) k

declares : (hs : List Head) (c : Sight) (x : SourceStmt) (xs : SourceStmts) (t : TypedStmt) (ts : TypedStmts) → TypesStmt hs c x t → TypesStmts hs (after c x) xs ts
    → DeclaresNothing t ⊎ (count_labels ts ≡ 0)
declares hs c x xs t ts (TypesStmt.block d n h) rest = inl tt
declares hs c x xs t ts (TypesStmt.empty d n) rest = inl tt
declares hs c x xs t ts (TypesStmt.expression d n h) rest = inl tt
declares hs c x xs t ts (TypesStmt.if_only d n h k g) rest = inl (subst DeclaresNothing (when_is _ _ t g) tt)
declares hs c x xs t ts (TypesStmt.if_else d n h k l g) rest = inl (subst DeclaresNothing (when_is _ _ t g) tt)
declares hs c x xs t ts (TypesStmt.while_loop d n h k g) rest = inl (subst DeclaresNothing (when_is _ _ t g) tt)
declares hs c x xs t ts (TypesStmt.do_loop d n h k g) rest = inl (subst DeclaresNothing (when_is _ _ t g) tt)
declares hs c x xs t ts (TypesStmt.for_loop d n h k l m g) rest = inl (subst DeclaresNothing (when_is _ _ t g) tt)
declares hs c x xs t ts (TypesStmt.switch d n h k g) rest = inl (subst DeclaresNothing (when_is _ _ t g) tt)
declares hs c x xs t ts (TypesStmt.break_off d n g) rest = inl (subst DeclaresNothing (when_is _ _ t g) tt)
declares hs c x xs t ts (TypesStmt.continue_on d n g) rest = inl (subst DeclaresNothing (when_is _ _ t g) tt)
declares hs c x xs t ts (TypesStmt.return_from d n r h g) rest = inl (subst DeclaresNothing (when_is _ _ t g) tt)
declares hs c x xs t ts (TypesStmt.declaration d n y h k) rest = inr (none_behind hs _ xs ts (late_declaration _) rest)
declares hs c x xs t ts (TypesStmt.case_label d n {v = v} h g) rest =
    let r = case_is (is_again d.labels v) (is_outside d.labels) (is_int (const_type v)) (stmt.case_label n v) t g in inl (subst DeclaresNothing r.2 tt)
declares hs c x xs t ts (TypesStmt.default_label d n g) rest =
    let r = default_is (has_default_label d.labels) (is_outside d.labels) (stmt.default_label n) t g in inl (subst DeclaresNothing r.1 tt)

labels_first : (hs : List Head) (c : Sight) (xs : SourceStmts) (ts : TypedStmts) → TypesStmts hs c xs ts → LabelsFirst ts
labels_first hs c xs ts (TypesStmts.none d) = tt
labels_first hs c xs ts (TypesStmts.more d {x = x} {xs = ys} {t = t} {ts = us} h k) = (declares hs d x ys t us h k, labels_first hs (after d x) ys us k)

mutual
  fits : (hs : List Head) (c : Sight) (x : SourceStmt) (t : TypedStmt) → TypesStmt hs c x t → FitsSwitches t
  fits hs c x t (TypesStmt.block d n {xs = xs} {ts = ts} h) = all_fit hs _ xs ts h
  fits hs c x t (TypesStmt.empty d n) = tt
  fits hs c x t (TypesStmt.expression d n h) = tt
  fits hs c x t (TypesStmt.if_only d n {a = a} {u = u} h k g) = subst FitsSwitches (when_is _ _ t g) (fits hs _ a u k)
  fits hs c x t (TypesStmt.if_else d n {a = a} {b = b} {u = u} {v = v} h k l g) = subst FitsSwitches (when_is _ _ t g) (fits hs _ a u k, fits hs _ b v l)
  fits hs c x t (TypesStmt.while_loop d n {a = a} {u = u} h k g) = subst FitsSwitches (when_is _ _ t g) (fits hs _ a u k)
  fits hs c x t (TypesStmt.do_loop d n {a = a} {u = u} h k g) = subst FitsSwitches (when_is _ _ t g) (fits hs _ a u h)
  fits hs c x t (TypesStmt.for_loop d n {a = a} {w = w} h k l m g) = subst FitsSwitches (when_is _ _ t g) (fits hs _ a w m)
  fits hs c x t (TypesStmt.switch d n {xs = xs} {ts = ts} h k g) = subst FitsSwitches (when_is _ _ t g) (labels_first hs (switched d) xs ts k, all_fit hs _ xs ts k)
  fits hs c x t (TypesStmt.break_off d n g) = subst FitsSwitches (when_is _ _ t g) tt
  fits hs c x t (TypesStmt.continue_on d n g) = subst FitsSwitches (when_is _ _ t g) tt
  fits hs c x t (TypesStmt.return_from d n r h g) = subst FitsSwitches (when_is _ _ t g) tt
  fits hs c x t (TypesStmt.declaration d n y h k) = tt
  fits hs c x t (TypesStmt.case_label d n {v = v} h g) = let r = case_is (is_again d.labels v) (is_outside d.labels)
      (is_int (const_type v)) (stmt.case_label n v) t g in subst FitsSwitches r.2 (int_is (const_type v) r.1)
  fits hs c x t (TypesStmt.default_label d n g) = let r = default_is (has_default_label d.labels) (is_outside d.labels) (stmt.default_label n) t g in subst FitsSwitches r.1 tt

  all_fit : (hs : List Head) (c : Sight) (xs : SourceStmts) (ts : TypedStmts) → TypesStmts hs c xs ts → AllFitSwitches ts
  all_fit hs c xs ts (TypesStmts.none d) = tt
  all_fit hs c xs ts (TypesStmts.more d {x = x} {xs = ys} {t = t} {ts = us} h k) = (fits hs _ x t h, all_fit hs _ ys us k)

abbrev EachFits : List Function → Type 0
EachFits [] = Unit {0}
EachFits (f ∷ fs) = AllFitSwitches f.body × EachFits fs

each_fits : (fs : List Function) (n : ℕ) (f : Function) → EachFits fs → slice_get fs n ≡ Some f → AllFitSwitches f.body
each_fits [] n f all h = absurd cc
each_fits (g ∷ fs) zero f all h = let same : g ≡ f = cc in subst (λ (k : Function). AllFitSwitches k.body) same all.0
each_fits (g ∷ fs) (suc n) f all h = each_fits fs n f all.1 h

body_fits : (hs : List Head) (c : Sight) (n : ℕ) (y : Ty) (x : List ℕ) (ps : _) (source : Option SourceStmts) (body : Option TypedStmts) (ts : List TypedItem) → There (TypesStmts hs c) source body
    → EachFits (functions ts) → EachFits (functions (unit.function n y x ps body ∷ ts))
body_fits hs c n y x ps source body ts There.absent rest = rest
body_fits hs c n y x ps source body ts (There.present {a = a} {b = b} h) rest = (all_fit hs c a b h, rest)

item_fits : (hs : List Head) (c : Sight) (i : SourceItem) (t : TypedItem) (ts : List TypedItem) → TypesItem hs c i t → EachFits (functions ts) → EachFits (functions (t ∷ ts))
item_fits hs c i t ts (TypesItem.structure n x h) rest = rest
item_fits hs c i t ts (TypesItem.constant n y x k h) rest = rest
item_fits hs c i t ts (TypesItem.global n y l h) rest = rest
item_fits hs c i t ts (TypesItem.function n y x ps body h) rest =
    subst (λ (u : TypedItem). EachFits (functions (u ∷ ts))) (when_is _ _ t h.gives) (body_fits hs _ n _ x _ body h.typed.1 ts h.parts.1 rest)

items_fit : (hs : List Head) (c : Sight) (is : List SourceItem) (ts : List TypedItem) → TypesItems hs c is ts → EachFits (functions ts)
items_fit hs c is ts (TypesItems.none d) = tt
items_fit hs c is ts (TypesItems.more d {i = i} {is = js} {t = t} {ts = us} h k) = item_fits hs d i t us h (items_fit hs (after_item d i) js us k)

pub switches_fit : SwitchesFit
switches_fit table source u typed f fn is = each_fits (functions u.items) f fn (items_fit _ _ source.items u.items typed.items) is
