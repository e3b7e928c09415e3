-- Typed statements of a function are fine, where its variables have the numbers of their positions
-- and types.
use Rattle.std.proofs.Common.{arith, ◌≡◌, ◌≤◌, ◌+◌, ◌⊎◌, inl, inr, ℕ, suc, List, [], ◌∷◌, ◌++◌, length, map, Option, Some, None, Bool, true, false, sym, subst, ◌∙◌, ap, refl}
use Rattle.std.specs.Prelude.{not, ◌&&◌}
use Rattle.std.specs.List.{AllByRecursion}
use Rattle.std.specs.Option.{option_map}
use Rattle.std.proofs.lemmas.List.{length-append, map-append, length-map}
use Rattle.std.proofs.lemmas.Option.{same_Some}
use Rattle.nss_tree.specs.Source.{SourceStmt, SourceStmts, SourceDeclared}
use Rattle.nss_tree.specs.Expressions.{PlainExpr}
use Rattle.nss_tree.specs.declared.constants.TypeName.{TypeName}
use Rattle.nss_tree.specs.Statements as stmt
use Rattle.nss_tree.specs.Statements.{block, empty, expression, if_only, if_else, while_loop, do_loop, for_loop, switch, break_off, continue_on, return_from, declaration, case_label, default_label}
use Rattle.nss_tree.specs.Statements.{no_stmt, more_stmts}
use Rattle.nwq_value.specs.declared.value.Ty.{Ty}
use Rattle.nwq_value.specs.declared.engine.Routine.{Routine}
use Rattle.nwq_value.specs.Engine.{EngineTable, const_type, IsRoutine, IsTable}
use Rattle.typing_rules.specs.Numbers.{number_of, numbers, all_numbers}
use Rattle.typing_rules.specs.Types.{is_void, is_int, same_type}
use Rattle.typing_rules.specs.Typed.{TypedExpr, TypedName, TypedStmt, TypedStmts, type_of}
use Rattle.typing_rules.specs.Nodes.{There, absent, present}
use Rattle.typing_rules.specs.Sight.{Meaning, variable, constant, Entry, Labels, Head, Sight, is_taken, crosses_with, cells as sight_cells, type_means, value_type, variable_of, declared}
use Rattle.typing_rules.specs.Sight.{scope_entered, inside, looped, switched, with_declaration, is_callable_role}
use Rattle.typing_rules.specs.Rules.{line_rows, value_fits, is_condition, result_fits, is_again, is_outside, has_default_label}
use Rattle.typing_rules.specs.Meaning.{TypesValue, TypesNames, TypesStmt, TypesStmts}
use Rattle.typing_rules.specs.Meaning as rules
use Rattle.typing_rules.specs.Verdicts as verdicts
use Rattle.typing_rules.specs.Verdicts.{line_type, after, after_then}
use Rattle.typing_rules.specs.Cells.{Structs, cells}
use Rattle.emission_rules.specs.Layout.{position, declared_cells, names_positions, positions, all_positions}
use Rattle.emission_rules.specs.Statements.{is_label}
use Rattle.stack_shape.specs.Calls.{action_count}
use Rattle.source_meaning.specs.Scripts.{Function}
use Rattle.source_laws.specs.Kept.{Site}
use Rattle.source_laws.specs.Carries.{type_of_name, declared_types, all_declared_types}
use Rattle.source_laws.specs.Fine.{IsFine}
use Rattle.source_laws.specs.FineStatements.{DeclaresNothing, HasNoLabels, LabelsStandFirst, IsFineValue, IsFineMaybe, IsFineTest, AreFineNames, IsFineReturn, IsFineStmt, AreFineStmts}
use Rattle.source_meaning.specs.Statements.{after_names, after_stmt}
use Rattle.typed_laws.proofs.Grammar.{IsNoDeclaration, IsMade, AreMade}
use Rattle.typed_laws.proofs.Types.{same_type_is, int_is, void_is, IsValueType, declared_is, all_last}
use Rattle.typed_laws.proofs.Bodies.{when_is, both_are, not_is, asked_is, AreHeads, AreBodies}
use Rattle.typed_laws.proofs.Expressions.{IsThere, IsMeaning, IsSeen, Sees, expr_fine}

-- ---- as many positions and types as numbers

names_as_many : (structs : Structs) (d : ℕ) (us : List TypedName) → length (names_positions structs d us) ≡ length (map number_of us)
names_as_many structs d [] = refl
names_as_many structs d (u ∷ us) = ap suc (names_as_many structs (d + cells structs u.name.ty) us)

types_as_many : (us : List TypedName) → length (map type_of_name us) ≡ length (map number_of us)
types_as_many us = length-map us type_of_name ∙ sym (length-map us number_of)

both_long : {A : Type 0} (xs ys : List A) (ns ms : List ℕ) → length xs ≡ length ns → length ys ≡ length ms → length (xs ++ ys) ≡ length (ns ++ ms)
both_long xs ys ns ms f g = let a = length-append xs ys in let b = length-append ns ms in omega (arith, a, b, f, g)

mutual
  positions_many : (structs : Structs) (d : ℕ) (t : TypedStmt) → length (positions structs d t) ≡ length (numbers t)
  positions_many structs d (block n xs) = all_positions_many structs d xs
  positions_many structs d (empty n) = refl
  positions_many structs d (expression n e) = refl
  positions_many structs d (if_only n e a) = positions_many structs d a
  positions_many structs d (if_else n e a b) = both_long _ _ _ _ (positions_many structs d a) (positions_many structs d b)
  positions_many structs d (while_loop n e a) = positions_many structs d a
  positions_many structs d (do_loop n a e) = positions_many structs d a
  positions_many structs d (for_loop n x y z a) = positions_many structs d a
  positions_many structs d (switch n e xs) = all_positions_many structs (d + 1) xs
  positions_many structs d (break_off n) = refl
  positions_many structs d (continue_on n) = refl
  positions_many structs d (return_from n e) = refl
  positions_many structs d (declaration n t us) = names_as_many structs d us
  positions_many structs d (case_label n k) = refl
  positions_many structs d (default_label n) = refl

  pub all_positions_many : (structs : Structs) (d : ℕ) (ts : TypedStmts) → length (all_positions structs d ts) ≡ length (all_numbers ts)
  all_positions_many structs d no_stmt = refl
  all_positions_many structs d (more_stmts t ts) = both_long _ _ _ _ (positions_many structs d t) (all_positions_many structs (d + declared_cells structs t) ts)

mutual
  types_many : (t : TypedStmt) → length (declared_types t) ≡ length (numbers t)
  types_many (block n xs) = all_types_many xs
  types_many (empty n) = refl
  types_many (expression n e) = refl
  types_many (if_only n e a) = types_many a
  types_many (if_else n e a b) = both_long _ _ _ _ (types_many a) (types_many b)
  types_many (while_loop n e a) = types_many a
  types_many (do_loop n a e) = types_many a
  types_many (for_loop n x y z a) = types_many a
  types_many (switch n e xs) = all_types_many xs
  types_many (break_off n) = refl
  types_many (continue_on n) = refl
  types_many (return_from n e) = refl
  types_many (declaration n t us) = types_as_many us
  types_many (case_label n k) = refl
  types_many (default_label n) = refl

  pub all_types_many : (ts : TypedStmts) → length (all_declared_types ts) ≡ length (all_numbers ts)
  all_types_many no_stmt = refl
  all_types_many (more_stmts t ts) = both_long _ _ _ _ (types_many t) (all_types_many ts)

-- lists of equal length that agree after one another
split_lists : {A : Type 0} (xs ys zs ws : List A) → xs ++ ys ≡ zs ++ ws → length zs ≡ length xs → (xs ≡ zs) × (ys ≡ ws)
split_lists [] ys [] ws e l = (refl, e)
split_lists [] ys (z ∷ zs) ws e l = absurd (omega arith)
split_lists (x ∷ xs) ys [] ws e l = absurd (omega arith)
split_lists (x ∷ xs) ys (z ∷ zs) ws e l =
    let first : x ≡ z = cc in
    let rest : xs ++ ys ≡ zs ++ ws = cc in
    let more : length zs ≡ length xs = omega (arith, l) in
    let s = split_lists xs ys zs ws rest more in
    (ap (λ r. r ∷ xs) first ∙ ap (λ rs. z ∷ rs) s.0, s.1)

pub split_map : {A : Type 0} (f : ℕ → A) (ns ms : List ℕ) (zs ws : List A) → map f (ns ++ ms) ≡ zs ++ ws → length zs ≡ length ns → (map f ns ≡ zs) × (map f ms ≡ ws)
split_map f ns ms zs ws e l = split_lists (map f ns) (map f ms) zs ws (sym (map-append f ns ms) ∙ e) (l ∙ sym (length-map ns f))

-- the variables of a statement have the positions and types of their numbers
pub record AreLaid (x : Site) (depth : ℕ) (t : TypedStmt) : Type 0 where
  pub places : map (position x.layout) (numbers t) ≡ positions x.layout.structs depth t
  pub types : map x.types (numbers t) ≡ declared_types t

pub record AllLaid (x : Site) (depth : ℕ) (ts : TypedStmts) : Type 0 where
  pub places : map (position x.layout) (all_numbers ts) ≡ all_positions x.layout.structs depth ts
  pub types : map x.types (all_numbers ts) ≡ all_declared_types ts

laid_first : (x : Site) (depth : ℕ) (t : TypedStmt) (ts : TypedStmts) → AllLaid x depth (more_stmts t ts) → AreLaid x depth t × AllLaid x (depth + declared_cells x.layout.structs t) ts
laid_first x depth t ts l =
    let p = split_map (position x.layout) (numbers t) (all_numbers ts) (positions x.layout.structs depth t)
    (all_positions x.layout.structs (depth + declared_cells x.layout.structs t) ts) l.places
    (positions_many x.layout.structs depth t) in
    let q = split_map x.types (numbers t) (all_numbers ts) (declared_types t) (all_declared_types ts) l.types (types_many t) in
    (record { places = p.0; types = q.0 }, record { places = p.1; types = q.1 })

laid_both : (x : Site) (depth m : ℕ) (e : TypedExpr) (a b : TypedStmt) → AreLaid x depth (if_else m e a b) → AreLaid x depth a × AreLaid x depth b
laid_both x depth m e a b l =
    let p = split_map (position x.layout) (numbers a) (numbers b) (positions x.layout.structs depth a) (positions x.layout.structs depth b) l.places (positions_many x.layout.structs depth a) in
    let q = split_map x.types (numbers a) (numbers b) (declared_types a) (declared_types b) l.types (types_many a) in
    (record { places = p.0; types = q.0 }, record { places = p.1; types = q.1 })

-- ---- labels

module _ (hs : List Head) where
  pub declares_nothing : (c : Sight) {a : SourceStmt} {t : TypedStmt} → TypesStmt hs c a t → IsNoDeclaration a → DeclaresNothing t
  declares_nothing c (rules.TypesStmt.block d n h) isnt = tt
  declares_nothing c (rules.TypesStmt.empty d n) isnt = tt
  declares_nothing c (rules.TypesStmt.expression d n h) isnt = tt
  declares_nothing c (rules.TypesStmt.if_only d n {t = e} {u = u} {s = s} h k r) isnt = subst DeclaresNothing (when_is (is_int (type_of e)) (if_only n e u) s r).1 tt
  declares_nothing c (rules.TypesStmt.if_else d n {t = e} {u = u} {v = v} {s = s} h k l r) isnt = subst DeclaresNothing (when_is (is_int (type_of e)) (if_else n e u v) s r).1 tt
  declares_nothing c (rules.TypesStmt.while_loop d n {t = e} {u = u} {s = s} h k r) isnt = subst DeclaresNothing (when_is (is_int (type_of e)) (while_loop n e u) s r).1 tt
  declares_nothing c (rules.TypesStmt.do_loop d n {u = u} {s = s} {t = e} h k r) isnt = subst DeclaresNothing (when_is (is_int (type_of e)) (do_loop n u e) s r).1 tt
  declares_nothing c (rules.TypesStmt.for_loop d n {t = t} {u = u} {v = v} {w = w} {s = s} h k l m r) isnt = subst DeclaresNothing (when_is (is_condition u) (for_loop n t u v w) s r).1 tt
  declares_nothing c (rules.TypesStmt.switch d n {t = e} {ts = ts} {s = s} h k r) isnt = subst DeclaresNothing (when_is (is_int (type_of e) && not (crosses_with d 1)) (switch n e ts) s r).1 tt
  declares_nothing c (rules.TypesStmt.break_off d n {s = s} r) isnt = subst DeclaresNothing (when_is d.may_break (break_off n) s r).1 tt
  declares_nothing c (rules.TypesStmt.continue_on d n {s = s} r) isnt = subst DeclaresNothing (when_is d.in_loop (continue_on n) s r).1 tt
  declares_nothing c (rules.TypesStmt.return_from d n {r = r} {t = t} {s = s} h k g) isnt = subst DeclaresNothing (when_is (result_fits r t) (return_from n t) s g).1 tt
  declares_nothing c (rules.TypesStmt.declaration d n t h k) isnt = absurd isnt
  declares_nothing c (rules.TypesStmt.case_label d n {v = v} {s = s} h r) isnt =
      subst DeclaresNothing (when_is (not (is_again d.labels v) && (not (is_outside d.labels) && is_int (const_type v))) (case_label n v) s r).1 tt
  declares_nothing c (rules.TypesStmt.default_label d n {s = s} r) isnt = subst DeclaresNothing (when_is (not (has_default_label d.labels) && not (is_outside d.labels)) (default_label n) s r).1 tt

  -- where no label may stand, none does, nor behind it
  record StaysOut (c : Sight) (a : SourceStmt) (t : TypedStmt) : Type 0 where
    no_label : is_label t ≡ false
    still : is_outside (after c a).labels ≡ true

  late_outside : (o : Option Labels) → is_outside (option_map with_declaration o) ≡ true
  late_outside None = refl
  late_outside (Some l) = refl

  stays_out : (c : Sight) {a : SourceStmt} {t : TypedStmt} → TypesStmt hs c a t → is_outside c.labels ≡ true → StaysOut c a t
  stays_out c (rules.TypesStmt.block d n h) out = record { no_label = refl; still = out }
  stays_out c (rules.TypesStmt.empty d n) out = record { no_label = refl; still = out }
  stays_out c (rules.TypesStmt.expression d n h) out = record { no_label = refl; still = out }
  stays_out c (rules.TypesStmt.if_only d n {t = e} {u = u} {s = s} h k r) out = record {
    no_label = subst
        (λ t. is_label t ≡ false) (when_is (is_int (type_of e)) (if_only n e u) s r).1 refl;
    still = out;
  }
  stays_out c (rules.TypesStmt.if_else d n {t = e} {u = u} {v = v} {s = s} h k l r) out = record {
    no_label = subst
        (λ t. is_label t ≡ false) (when_is (is_int (type_of e)) (if_else n e u v) s r).1 refl;
    still = out;
  }
  stays_out c (rules.TypesStmt.while_loop d n {t = e} {u = u} {s = s} h k r) out = record {
    no_label = subst
        (λ t. is_label t ≡ false) (when_is (is_int (type_of e)) (while_loop n e u) s r).1 refl;
    still = out;
  }
  stays_out c (rules.TypesStmt.do_loop d n {u = u} {s = s} {t = e} h k r) out = record {
    no_label = subst
        (λ t. is_label t ≡ false) (when_is (is_int (type_of e)) (do_loop n u e) s r).1 refl;
    still = out;
  }
  stays_out c (rules.TypesStmt.for_loop d n {t = t} {u = u} {v = v} {w = w} {s = s} h k l m r) out = record
      { no_label = subst (λ t. is_label t ≡ false) (when_is (is_condition u) (for_loop n t u v w) s r).1 refl; still = out }
  stays_out c (rules.TypesStmt.switch d n {t = e} {ts = ts} {s = s} h k r) out =
      record { no_label = subst (λ t. is_label t ≡ false) (when_is (is_int (type_of e) && not (crosses_with d 1)) (switch n e ts) s r).1 refl; still = out }
  stays_out c (rules.TypesStmt.break_off d n {s = s} r) out = record { no_label = subst (λ t. is_label t ≡ false) (when_is d.may_break (break_off n) s r).1 refl; still = out }
  stays_out c (rules.TypesStmt.continue_on d n {s = s} r) out = record { no_label = subst (λ t. is_label t ≡ false) (when_is d.in_loop (continue_on n) s r).1 refl; still = out }
  stays_out c (rules.TypesStmt.return_from d n {r = r} {t = t} {s = s} h k g) out = record {
    no_label = subst
        (λ t. is_label t ≡ false) (when_is (result_fits r t) (return_from n t) s g).1 refl;
    still = out;
  }
  stays_out c (rules.TypesStmt.declaration d n t {ds = ds} h k) out = record { no_label = refl; still = late_outside (verdicts.after_names c (line_type c.structs t) ds).labels }
  stays_out c (rules.TypesStmt.case_label d n {v = v} {s = s} h r) out =
      let w = when_is (not (is_again c.labels v) && (not (is_outside c.labels) && is_int (const_type v))) (case_label n v) s r in
      let b = both_are (not (is_again c.labels v)) (not (is_outside c.labels) && is_int (const_type v)) w.0 in
      let k = both_are (not (is_outside c.labels)) (is_int (const_type v)) b.1 in
      let never : true ≡ false = sym out ∙ not_is (is_outside c.labels) k.0 in
      absurd cc
  stays_out c (rules.TypesStmt.default_label d n {s = s} r) out =
      let w = when_is (not (has_default_label c.labels) && not (is_outside c.labels)) (default_label n) s r in
      let b = both_are (not (has_default_label c.labels)) (not (is_outside c.labels)) w.0 in
      let never : true ≡ false = sym out ∙ not_is (is_outside c.labels) b.1 in
      absurd cc

  no_labels : (c : Sight) {xs : SourceStmts} {ts : TypedStmts} → TypesStmts hs c xs ts → is_outside c.labels ≡ true → HasNoLabels ts
  no_labels c (rules.TypesStmts.none d) out = tt
  no_labels c (rules.TypesStmts.more d {x = a} {t = t} h k) out = let s = stays_out c h out in (s.no_label, no_labels (after c a) k s.still)

  -- a declaration is the last of its kind: no label stands behind it
  first_or_none : (c : Sight) {a : SourceStmt} {xs : SourceStmts} {t : TypedStmt} {ts : TypedStmts} → TypesStmt hs c a t → TypesStmts hs (after c a) xs ts → DeclaresNothing t ⊎ HasNoLabels ts
  first_or_none c {a = stmt.declaration n t ds} h k = inr (no_labels (after c (stmt.declaration n t ds)) k (late_outside (verdicts.after_names c (line_type c.structs t) ds).labels))
  first_or_none c {a = stmt.block n xs} h k = inl (declares_nothing c h tt)
  first_or_none c {a = stmt.empty n} h k = inl (declares_nothing c h tt)
  first_or_none c {a = stmt.expression n e} h k = inl (declares_nothing c h tt)
  first_or_none c {a = stmt.if_only n e b} h k = inl (declares_nothing c h tt)
  first_or_none c {a = stmt.if_else n e b d} h k = inl (declares_nothing c h tt)
  first_or_none c {a = stmt.while_loop n e b} h k = inl (declares_nothing c h tt)
  first_or_none c {a = stmt.do_loop n b e} h k = inl (declares_nothing c h tt)
  first_or_none c {a = stmt.for_loop n x y z b} h k = inl (declares_nothing c h tt)
  first_or_none c {a = stmt.switch n e xs} h k = inl (declares_nothing c h tt)
  first_or_none c {a = stmt.break_off n} h k = inl (declares_nothing c h tt)
  first_or_none c {a = stmt.continue_on n} h k = inl (declares_nothing c h tt)
  first_or_none c {a = stmt.return_from n e} h k = inl (declares_nothing c h tt)
  first_or_none c {a = stmt.case_label n v} h k = inl (declares_nothing c h tt)
  first_or_none c {a = stmt.default_label n} h k = inl (declares_nothing c h tt)

  pub labels_first : (c : Sight) {xs : SourceStmts} {ts : TypedStmts} → TypesStmts hs c xs ts → LabelsStandFirst ts
  labels_first c (rules.TypesStmts.none d) = tt
  labels_first c (rules.TypesStmts.more d {x = a} h k) = (first_or_none c h k, labels_first (after c a) k)

-- ---- what is declared comes into sight

more_in_sight : (x : Site) (file : Bool) (scope : List ℕ) (n : ℕ) (m : Meaning) → IsMeaning x file scope m → IsMeaning x file (n ∷ scope) m
more_in_sight x true scope n (variable k true t) h = h
more_in_sight x true scope n (variable k false t) h = (h.0, h.1, inr h.2)
more_in_sight x false scope n (variable k true t) h = (h.0, h.1, inr h.2)
more_in_sight x false scope n (variable k false t) h = h
more_in_sight x file scope n (constant k) h = tt

all_in_sight : (x : Site) (file : Bool) (scope : List ℕ) (n : ℕ) (es : List Entry) → AllByRecursion (IsSeen x file scope) es → AllByRecursion (IsSeen x file (n ∷ scope)) es
all_in_sight x file scope n [] h = tt
all_in_sight x file scope n (e ∷ es) h = ((λ m same. more_in_sight x file scope n m (h.0 m same)), all_in_sight x file scope n es h.1)

pub declared_seen : (x : Site) (table : EngineTable) (result : Ty) (file : Bool) (scope : List ℕ) (c : Sight)
    → Sees x table result file scope c → (y : List ℕ) (t : Option Ty) (u : Ty) (n : ℕ) → t ≡ Some u → c.next ≡ n
    → IsValueType x.layout.structs u → x.types n ≡ u → Sees x table result file (n ∷ scope) (declared c y t)
declared_seen x table result file scope c s y t u n is number value typed = record {
  names = all_last (IsSeen x file (n ∷ scope)) c.names (record { called = y; means = option_map (variable_of c) t }) (all_in_sight x file scope n c.names s.names) new;
  structs = s.structs;
  table_is = s.table_is;
  inside = s.inside;
  gives = s.gives;
}
  where
    there : (b : Bool) → IsThere x b (n ∷ scope) (not b) n
    there true = inl refl
    there false = inl refl

    new : IsSeen x file (n ∷ scope) (record { called = y; means = option_map (variable_of c) t })
    new m e =
        let whole : Some (variable c.next (not c.at_file) u) ≡ Some m = sym (ap (option_map (variable_of c)) is) ∙ e in
        let here : variable n (not file) u ≡ m = ap (λ k. variable k (not file) u) (sym number) ∙ ap (λ (b : Bool). variable c.next (not b) u) (sym s.inside) ∙ same_Some _ _ whole in
        subst (IsMeaning x file (n ∷ scope)) here (value, typed, there file)

module _ (x : Site) (table : EngineTable) (kept : IsTable table) (few : (r : Routine) → IsRoutine r → is_callable_role r.role ≡ true → action_count r.params ≤ 1)
    (fs : List Function) (hs : List Head) (heads : AreHeads hs) (file : Bool) (all : file ≡ false → AreBodies fs hs) (made : file ≡ false → x.layout.globals ≡ x.bp) (result : Ty) where
  fine_expr : (scope : List ℕ) (c : Sight) → Sees x table result file scope c → {e : PlainExpr} {t : TypedExpr} → TypesValue hs c e t → IsFine table fs x scope t
  fine_expr scope c s h = expr_fine x table kept few fs hs heads file all made result scope c s h

  maybe_fine : (scope : List ℕ) (c : Sight) → Sees x table result file scope c → {o : Option PlainExpr} {p : Option TypedExpr} → There (TypesValue hs c) o p → IsFineMaybe table fs x result scope p
  maybe_fine scope c s absent = tt
  maybe_fine scope c s (present h) = fine_expr scope c s h

  test_fine : (scope : List ℕ) (c : Sight) → Sees x table result file scope c
      → {o : Option PlainExpr} {p : Option TypedExpr} → There (TypesValue hs c) o p → is_condition p ≡ true
      → IsFineTest table fs x result scope p
  test_fine scope c s absent i = tt
  test_fine scope c s (present {b = e} h) i = (fine_expr scope c s h, int_is (type_of e) i)

  value_fine : (scope : List ℕ) (c : Sight) → Sees x table result file scope c → (t : Ty)
      → IsValueType x.layout.structs t → {o : Option PlainExpr} {p : Option TypedExpr} → There (TypesValue hs c) o p
      → value_fits t p ≡ true → IsFineValue table fs x result scope t p
  value_fine scope c s t v absent i = v.kinds
  value_fine scope c s t v (present {b = e} h) i = (fine_expr scope c s h, sym (same_type_is t (type_of e) i))

  pub record NamesSeen (scope : List ℕ) (depth : ℕ) (c : Sight) (t : Option Ty) (ds : List SourceDeclared) (us : List TypedName) : Type 0 where
    pub are : AreFineNames table fs x result depth scope us
    pub seen : Sees x table result file (after_names us scope) (verdicts.after_names c t ds)

  pub names_seen : (scope : List ℕ) (depth : ℕ) (c : Sight) → Sees x table result file scope c → (t : Option Ty)
      → ((u : Ty) → t ≡ Some u → IsValueType x.layout.structs u) → (ds : List SourceDeclared) (us : List TypedName)
      → TypesNames hs c t ds us → map (position x.layout) (map number_of us) ≡ names_positions x.layout.structs depth us
      → map x.types (map number_of us) ≡ map type_of_name us → NamesSeen scope depth c t ds us
  names_seen scope depth c s t value [] [] h places types = record { are = tt; seen = s }
  names_seen scope depth c s t value (d ∷ ds) (u ∷ us) (rules.TypesNames.more e r f k) places types =
      let p = f.typed in
      let v = value p.0 f.parts.0 in
      let w = when_is (not (is_taken c d.name)
      && (value_fits p.0 p.1 && not (crosses_with c (sight_cells c.structs p.0))))
      (record { token = d.token; name = record { number = c.next; ty = p.0 }; value = p.1 }) u f.gives in
      let b = both_are (not (is_taken c d.name)) (value_fits p.0 p.1 && not (crosses_with c (sight_cells c.structs p.0))) w.0 in
      let g = both_are (value_fits p.0 p.1) (not (crosses_with c (sight_cells c.structs p.0))) b.1 in
      let number : c.next ≡ u.name.number = ap (λ (n : TypedName). n.name.number) w.1 in
      let typed : p.0 ≡ u.name.ty = ap (λ (n : TypedName). n.name.ty) w.1 in
      let valued : p.1 ≡ u.value = ap (λ (n : TypedName). n.value) w.1 in
      let place : position x.layout u.name.number ≡ depth = cc in
      let places' : map (position x.layout) (map number_of us) ≡ names_positions x.layout.structs (depth + cells x.layout.structs u.name.ty) us = cc in
      let type : x.types u.name.number ≡ u.name.ty = cc in
      let types' : map x.types (map number_of us) ≡ map type_of_name us = cc in
      let own = subst (λ (o : Option TypedExpr). IsFineValue table fs x result scope u.name.ty o) valued
      (subst (λ (y : Ty). IsFineValue table fs x result scope y p.1) typed (value_fine scope c s p.0 v f.parts.1 g.0)) in
      let rest = names_seen (u.name.number ∷ scope) (depth + cells x.layout.structs u.name.ty) (declared c d.name t)
      (declared_seen x table result file scope c s d.name t p.0 u.name.number f.parts.0 number v (type ∙ sym typed)) t value ds us k places' types' in
      record { are = (place, type, own, rest.are); seen = rest.seen }
  names_seen scope depth c s t value [] (u ∷ us) h places types = absurd (none_more h)
    where
      none_more : TypesNames hs c t [] (u ∷ us) → ⊥
      none_more h = elim h [ ]
  names_seen scope depth c s t value (d ∷ ds) [] h places types = absurd (one_less h)
    where
      one_less : TypesNames hs c t (d ∷ ds) [] → ⊥
      one_less h = elim h [ ]

  -- the type of a line is one that values may have
  pub line_value : (c : Sight) (scope : List ℕ) → Sees x table result file scope c → (t : TypeName) (u : Ty) → line_type c.structs t ≡ Some u → IsValueType x.layout.structs u
  line_value c scope s t u h =
      let a = asked_is line_rows value_type (type_means c.structs t) u h in
      (declared_is x.layout.structs x.fields c.structs s.structs t a.0 u a.1 a.2).value

  return_fine : (scope : List ℕ) (c : Sight) → Sees x table result file scope c → file ≡ false → (r : Ty) → c.result ≡ Some r → (is_void result ≡ false → IsValueType x.layout.structs result)
      → {o : Option PlainExpr} {p : Option TypedExpr} → There (TypesValue hs c) o p → result_fits r p ≡ true → IsFineReturn table fs x result scope p
  return_fine scope c s in_function r is value absent fits = let same : r ≡ result = same_Some _ _ (sym is ∙ s.gives in_function) in sym same ∙ void_is r fits
  return_fine scope c s in_function r is value (present {b = e} h) fits =
      let same : r ≡ result = same_Some _ _ (sym is ∙ s.gives in_function) in
      let b = both_are (not (is_void r)) (same_type r (type_of e)) fits in
      let v = value (ap is_void (sym same) ∙ not_is (is_void r) b.0) in
      (fine_expr scope c s h, sym (same_type_is r (type_of e) b.1) ∙ same, v.some)

  module _ (in_function : file ≡ false) (value : is_void result ≡ false → IsValueType x.layout.structs result) where
    -- with its variables laid out, it is fine
    abbrev WhenLaid : List ℕ → ℕ → Sight → TypedStmt → Type 0
    WhenLaid scope depth c t = AreLaid x depth t → IsFineStmt table fs x result c.may_break c.in_loop depth scope t

    scope_kept : (scope : List ℕ) (c : Sight) {a : SourceStmt} {t : TypedStmt} → TypesStmt hs c a t → IsNoDeclaration a → after_stmt t scope ≡ scope
    scope_kept scope c {t = t} h isnt = kept_by t (declares_nothing hs c h isnt)
      where
        kept_by : (t : TypedStmt) → DeclaresNothing t → after_stmt t scope ≡ scope
        kept_by (declaration n t us) h = absurd h
        kept_by (block n xs) h = refl
        kept_by (empty n) h = refl
        kept_by (expression n e) h = refl
        kept_by (if_only n e a) h = refl
        kept_by (if_else n e a b) h = refl
        kept_by (while_loop n e a) h = refl
        kept_by (do_loop n a e) h = refl
        kept_by (for_loop n p q r a) h = refl
        kept_by (switch n e xs) h = refl
        kept_by (break_off n) h = refl
        kept_by (continue_on n) h = refl
        kept_by (return_from n e) h = refl
        kept_by (case_label n k) h = refl
        kept_by (default_label n) h = refl

    exits_kept : (c : Sight) (a : SourceStmt) → ((after c a).may_break ≡ c.may_break) × ((after c a).in_loop ≡ c.in_loop)
    exits_kept c (stmt.declaration n t ds) = names_keep c (line_type c.structs t) ds
      where
        names_keep : (c : Sight) (t : Option Ty) (ds : List SourceDeclared) → ((verdicts.after_names c t ds).may_break ≡ c.may_break) × ((verdicts.after_names c t ds).in_loop ≡ c.in_loop)
        names_keep c t [] = (refl, refl)
        names_keep c t (d ∷ ds) = names_keep (declared c d.name t) t ds
    exits_kept c (stmt.block n xs) = (refl, refl)
    exits_kept c (stmt.empty n) = (refl, refl)
    exits_kept c (stmt.expression n e) = (refl, refl)
    exits_kept c (stmt.if_only n e b) = (refl, refl)
    exits_kept c (stmt.if_else n e b d) = (refl, refl)
    exits_kept c (stmt.while_loop n e b) = (refl, refl)
    exits_kept c (stmt.do_loop n b e) = (refl, refl)
    exits_kept c (stmt.for_loop n p q r b) = (refl, refl)
    exits_kept c (stmt.switch n e xs) = (refl, refl)
    exits_kept c (stmt.break_off n) = (refl, refl)
    exits_kept c (stmt.continue_on n) = (refl, refl)
    exits_kept c (stmt.return_from n e) = (refl, refl)
    exits_kept c (stmt.case_label n k) = (refl, refl)
    exits_kept c (stmt.default_label n) = (refl, refl)

    -- one that declares nothing leaves in sight what was
    stays_seen : (scope : List ℕ) (c : Sight) (a : SourceStmt) → Sees x table result file scope c → IsNoDeclaration a → Sees x table result file scope (after c a)
    stays_seen scope c (stmt.declaration n t ds) s isnt = absurd isnt
    stays_seen scope c (stmt.block n xs) s isnt = record { names = s.names; structs = s.structs; table_is = s.table_is; inside = s.inside; gives = s.gives }
    stays_seen scope c (stmt.empty n) s isnt = s
    stays_seen scope c (stmt.expression n e) s isnt = s
    stays_seen scope c (stmt.if_only n e b) s isnt = record { names = s.names; structs = s.structs; table_is = s.table_is; inside = s.inside; gives = s.gives }
    stays_seen scope c (stmt.if_else n e b d) s isnt = record { names = s.names; structs = s.structs; table_is = s.table_is; inside = s.inside; gives = s.gives }
    stays_seen scope c (stmt.while_loop n e b) s isnt = record { names = s.names; structs = s.structs; table_is = s.table_is; inside = s.inside; gives = s.gives }
    stays_seen scope c (stmt.do_loop n b e) s isnt = record { names = s.names; structs = s.structs; table_is = s.table_is; inside = s.inside; gives = s.gives }
    stays_seen scope c (stmt.for_loop n p q r b) s isnt = record { names = s.names; structs = s.structs; table_is = s.table_is; inside = s.inside; gives = s.gives }
    stays_seen scope c (stmt.switch n e xs) s isnt = record { names = s.names; structs = s.structs; table_is = s.table_is; inside = s.inside; gives = s.gives }
    stays_seen scope c (stmt.break_off n) s isnt = s
    stays_seen scope c (stmt.continue_on n) s isnt = s
    stays_seen scope c (stmt.return_from n e) s isnt = s
    stays_seen scope c (stmt.case_label n k) s isnt = record { names = s.names; structs = s.structs; table_is = s.table_is; inside = s.inside; gives = s.gives }
    stays_seen scope c (stmt.default_label n) s isnt = record { names = s.names; structs = s.structs; table_is = s.table_is; inside = s.inside; gives = s.gives }

    after_seen : (scope : List ℕ) (depth : ℕ) (c : Sight) → Sees x table result file scope c
        → (a : SourceStmt) (t : TypedStmt) → TypesStmt hs c a t → AreLaid x depth t
        → Sees x table result file (after_stmt t scope) (after c a)
    after_seen scope depth c s (stmt.declaration n t ds) u (rules.TypesStmt.declaration d m w {us = us} h k) l =
        let e = (names_seen scope depth c s (line_type c.structs t) (line_value c scope s t) ds us k l.places l.types).seen in
        record { names = e.names; structs = e.structs; table_is = e.table_is; inside = e.inside; gives = e.gives }
    after_seen scope depth c s (stmt.block n xs) t h l = subst (λ z. Sees x table result file z (after c (stmt.block n xs))) (sym (scope_kept scope c h tt)) (stays_seen scope c (stmt.block n xs) s tt)
    after_seen scope depth c s (stmt.empty n) t h l = subst (λ z. Sees x table result file z (after c (stmt.empty n))) (sym (scope_kept scope c h tt)) (stays_seen scope c (stmt.empty n) s tt)
    after_seen scope depth c s (stmt.expression n e) t h l = subst
        (λ z. Sees x table result file z (after c (stmt.expression n e))) (sym (scope_kept scope c h tt))
        (stays_seen scope c (stmt.expression n e) s tt)
    after_seen scope depth c s (stmt.if_only n e b) t h l = subst
        (λ z. Sees x table result file z (after c (stmt.if_only n e b))) (sym (scope_kept scope c h tt))
        (stays_seen scope c (stmt.if_only n e b) s tt)
    after_seen scope depth c s (stmt.if_else n e b d) t h l = subst
        (λ z. Sees x table result file z (after c (stmt.if_else n e b d))) (sym (scope_kept scope c h tt))
        (stays_seen scope c (stmt.if_else n e b d) s tt)
    after_seen scope depth c s (stmt.while_loop n e b) t h l = subst
        (λ z. Sees x table result file z (after c (stmt.while_loop n e b))) (sym (scope_kept scope c h tt))
        (stays_seen scope c (stmt.while_loop n e b) s tt)
    after_seen scope depth c s (stmt.do_loop n b e) t h l = subst
        (λ z. Sees x table result file z (after c (stmt.do_loop n b e))) (sym (scope_kept scope c h tt))
        (stays_seen scope c (stmt.do_loop n b e) s tt)
    after_seen scope depth c s (stmt.for_loop n p q r b) t h l = subst
        (λ z. Sees x table result file z (after c (stmt.for_loop n p q r b))) (sym (scope_kept scope c h tt))
        (stays_seen scope c (stmt.for_loop n p q r b) s tt)
    after_seen scope depth c s (stmt.switch n e xs) t h l = subst
        (λ z. Sees x table result file z (after c (stmt.switch n e xs))) (sym (scope_kept scope c h tt))
        (stays_seen scope c (stmt.switch n e xs) s tt)
    after_seen scope depth c s (stmt.break_off n) t h l = subst
        (λ z. Sees x table result file z (after c (stmt.break_off n))) (sym (scope_kept scope c h tt))
        (stays_seen scope c (stmt.break_off n) s tt)
    after_seen scope depth c s (stmt.continue_on n) t h l = subst
        (λ z. Sees x table result file z (after c (stmt.continue_on n))) (sym (scope_kept scope c h tt))
        (stays_seen scope c (stmt.continue_on n) s tt)
    after_seen scope depth c s (stmt.return_from n e) t h l = subst
        (λ z. Sees x table result file z (after c (stmt.return_from n e))) (sym (scope_kept scope c h tt))
        (stays_seen scope c (stmt.return_from n e) s tt)
    after_seen scope depth c s (stmt.case_label n k) t h l = subst
        (λ z. Sees x table result file z (after c (stmt.case_label n k))) (sym (scope_kept scope c h tt))
        (stays_seen scope c (stmt.case_label n k) s tt)
    after_seen scope depth c s (stmt.default_label n) t h l = subst
        (λ z. Sees x table result file z (after c (stmt.default_label n))) (sym (scope_kept scope c h tt))
        (stays_seen scope c (stmt.default_label n) s tt)

    mutual
      stmt_fine : (scope : List ℕ) (depth : ℕ) (c : Sight) → Sees x table result file scope c → {a : SourceStmt} {t : TypedStmt} → IsMade a → TypesStmt hs c a t → WhenLaid scope depth c t
      stmt_fine scope depth c s made (rules.TypesStmt.block d n h) l =
          all_fine scope depth (scope_entered c)
          (record {
            names = s.names;
            structs = s.structs;
            table_is = s.table_is;
            inside = s.inside;
            gives = s.gives;
          }) made h (record { places = l.places; types = l.types })
      stmt_fine scope depth c s made (rules.TypesStmt.empty d n) l = tt
      stmt_fine scope depth c s made (rules.TypesStmt.expression d n h) l = fine_expr scope c s h
      stmt_fine scope depth c s made (rules.TypesStmt.if_only d n {t = e} {u = u} {s = z} h k r) l =
          let w = when_is (is_int (type_of e)) (if_only n e u) z r in
          let in_it : Sees x table result file scope (inside c) = record { names = s.names; structs = s.structs; table_is = s.table_is; inside = s.inside; gives = s.gives } in
          subst (WhenLaid scope depth c) w.1
          (λ m. (
            (fine_expr scope c s h, int_is (type_of e) w.0),
            stmt_fine scope depth (inside c) in_it made.1 k
                (record { places = m.places; types = m.types }),
            declares_nothing hs (inside c) k made.0,
          )) l
      stmt_fine scope depth c s made (rules.TypesStmt.if_else d n {a = a} {t = e} {u = u} {v = v} {s = z} h k o r) l =
          let w = when_is (is_int (type_of e)) (if_else n e u v) z r in
          let in_it : Sees x table result file scope (inside c) = record { names = s.names; structs = s.structs; table_is = s.table_is; inside = s.inside; gives = s.gives } in
          let after_it : Sees x table result file scope (after_then c a) = record { names = s.names; structs = s.structs; table_is = s.table_is; inside = s.inside; gives = s.gives } in
          subst (WhenLaid scope depth c) w.1
          (λ m.
          let b = laid_both x depth n e u v m in (
            (fine_expr scope c s h, int_is (type_of e) w.0),
            stmt_fine scope depth (inside c) in_it made.1 k b.0,
            stmt_fine scope depth (after_then c a) after_it made.3 o b.1,
            declares_nothing hs (inside c) k made.0,
            declares_nothing hs (after_then c a) o made.2,
          )) l
      stmt_fine scope depth c s made (rules.TypesStmt.while_loop d n {t = e} {u = u} {s = z} h k r) l =
          let w = when_is (is_int (type_of e)) (while_loop n e u) z r in
          let in_it : Sees x table result file scope (looped c) = record { names = s.names; structs = s.structs; table_is = s.table_is; inside = s.inside; gives = s.gives } in
          subst (WhenLaid scope depth c) w.1
          (λ m. (
            (fine_expr scope c s h, int_is (type_of e) w.0),
            stmt_fine scope depth (looped c) in_it made.1 k
                (record { places = m.places; types = m.types }),
            declares_nothing hs (looped c) k made.0,
          )) l
      stmt_fine scope depth c s made (rules.TypesStmt.do_loop d n {u = u} {s = z} {t = e} k h r) l =
          let w = when_is (is_int (type_of e)) (do_loop n u e) z r in
          let in_it : Sees x table result file scope (looped c) = record { names = s.names; structs = s.structs; table_is = s.table_is; inside = s.inside; gives = s.gives } in
          subst (WhenLaid scope depth c) w.1
          (λ m. (
            stmt_fine scope depth (looped c) in_it made.1 k (record { places = m.places; types = m.types }),
            (fine_expr scope c s h, int_is (type_of e) w.0),
            declares_nothing hs (looped c) k made.0,
          )) l
      stmt_fine scope depth c s made (rules.TypesStmt.for_loop d n {t = t} {u = u} {v = v} {w = b} {s = z} h k o body r) l =
          let w = when_is (is_condition u) (for_loop n t u v b) z r in
          let in_it : Sees x table result file scope (looped c) = record { names = s.names; structs = s.structs; table_is = s.table_is; inside = s.inside; gives = s.gives } in
          subst (WhenLaid scope depth c) w.1
          (λ m. (
            maybe_fine scope c s h,
            test_fine scope c s k w.0,
            maybe_fine scope c s o,
            stmt_fine scope depth (looped c) in_it made.1 body (record { places = m.places; types = m.types }),
            declares_nothing hs (looped c) body made.0,
          )) l
      stmt_fine scope depth c s made (rules.TypesStmt.switch d n {t = e} {ts = ts} {s = z} h k r) l =
          let w = when_is (is_int (type_of e) && not (crosses_with c 1)) (switch n e ts) z r in
          let g = both_are (is_int (type_of e)) (not (crosses_with c 1)) w.0 in
          let in_it : Sees x table result file scope (switched c) = record { names = s.names; structs = s.structs; table_is = s.table_is; inside = s.inside; gives = s.gives } in
          subst (WhenLaid scope depth c) w.1
          (λ m. (
            (fine_expr scope c s h, int_is (type_of e) g.0),
            all_fine scope (depth + 1) (switched c) in_it made k (record { places = m.places; types = m.types }),
            labels_first hs (switched c) k,
          )) l
      stmt_fine scope depth c s made (rules.TypesStmt.break_off d n {s = z} r) l =
          let w = when_is c.may_break (break_off n) z r in subst (WhenLaid scope depth c) w.1 (λ m. w.0) l
      stmt_fine scope depth c s made (rules.TypesStmt.continue_on d n {s = z} r) l =
          let w = when_is c.in_loop (continue_on n) z r in subst (WhenLaid scope depth c) w.1 (λ m. w.0) l
      stmt_fine scope depth c s made (rules.TypesStmt.return_from d n {r = r} {t = t} {s = z} is h g) l =
          let w = when_is (result_fits r t) (return_from n t) z g in
          subst (WhenLaid scope depth c) w.1 (λ m. return_fine scope c s in_function r is value h w.0) l
      stmt_fine scope depth c s made (rules.TypesStmt.declaration d n t {ds = ds} {us = us} h k) l =
          (names_seen scope depth c s (line_type c.structs t) (line_value c scope s t) ds us k l.places l.types).are
      stmt_fine scope depth c s made (rules.TypesStmt.case_label d n {v = v} {s = z} h r) l =
          let w = when_is (not (is_again c.labels v) && (not (is_outside c.labels) && is_int (const_type v))) (case_label n v) z r in
          let b = both_are (not (is_again c.labels v)) (not (is_outside c.labels) && is_int (const_type v)) w.0 in
          let g = both_are (not (is_outside c.labels)) (is_int (const_type v)) b.1 in
          subst (WhenLaid scope depth c) w.1 (λ m. int_is (const_type v) g.1) l
      stmt_fine scope depth c s made (rules.TypesStmt.default_label d n {s = z} r) l =
          let w = when_is (not (has_default_label c.labels) && not (is_outside c.labels)) (default_label n) z r in
          subst (WhenLaid scope depth c) w.1 (λ m. tt) l

      pub all_fine : (scope : List ℕ) (depth : ℕ) (c : Sight) → Sees x table result file scope c → {xs : SourceStmts} {ts : TypedStmts} → AreMade xs → TypesStmts hs c xs ts → AllLaid x depth ts
          → AreFineStmts table fs x result c.may_break c.in_loop depth scope ts
      all_fine scope depth c s made (rules.TypesStmts.none d) l = tt
      all_fine scope depth c s made (rules.TypesStmts.more d {x = a} {xs = xs} {t = t} {ts = ts} h k) l =
          let p = laid_first x depth t ts l in
          let exits = exits_kept c a in (
            stmt_fine scope depth c s made.0 h p.0,
            subst (λ (b : Bool). AreFineStmts table fs x result b c.in_loop (depth + declared_cells x.layout.structs t) (after_stmt t scope) ts) exits.0
                (subst (λ (b : Bool). AreFineStmts table fs x result (after c a).may_break b (depth + declared_cells x.layout.structs t) (after_stmt t scope) ts) exits.1
                (all_fine (after_stmt t scope) (depth + declared_cells x.layout.structs t) (after c a) (after_seen scope depth c s a t h p.0) made.1 k p.1)),
          )
