-- A typed statement keeps the bounds that its code needs: its weight and its labels are bounded by
-- the size of its source.
use Rattle.std.proofs.Common.{◌≡◌, ℕ, ◌+◌, ◌*◌, ◌≤◌, Bool, true, if◌then◌else◌, not, List, [], ◌∷◌, Option, Some, refl, subst, arith}
use Rattle.std.specs.Prelude.{◌&&◌}
use Rattle.nwq_value.specs.declared.value.Ty.{Ty}
use Rattle.nwq_value.specs.Engine.{EngineTable, IsTable, const_type}
use Rattle.nss_tree.specs.Source.{SourceDeclared, SourceStmt, SourceStmts, SourceParameter}
use Rattle.nss_tree.specs.Statements as stmt
use Rattle.typing_rules.specs.Types.{is_int}
use Rattle.typing_rules.specs.Typed.{TypedExpr, TypedName, TypedStmt, TypedStmts, type_of}
use Rattle.typing_rules.specs.Sight.{Head, Sight, cells, is_taken, crosses_with, callee, declared, scope_entered, inside, looped, switched}
use Rattle.typing_rules.specs.Rules.{value_fits, if_rule, if_else_rule, while_rule, do_rule, is_condition, for_rule, switch_rule, result_fits, is_again, is_outside, has_default_label}
use Rattle.typing_rules.specs.Meaning.{TypesNames, TypesStmt, TypesStmts}
use Rattle.typing_rules.specs.Meaning as rule
use Rattle.typing_rules.specs.Verdicts.{line_type, after_names, after, after_then, after_params, parameter_declared}
use Rattle.emission_rules.specs.Bounds.{names_weight, stmt_weight, all_stmt_weight, AreNames, IsStmt, AreStmts}
use Rattle.emission_rules.specs.Layout.{Layout}
use Rattle.emission_rules.specs.Expressions.{labels}
use Rattle.emission_rules.specs.Statements.{is_label, count_labels, stmt_labels, all_stmt_labels}
use Rattle.nss_parser.specs.Sizes.{size, some_size, names_size, stmt_size, all_stmt_size, AreKnownNames, IsKnownStmt, AreKnownStmts}
use Rattle.typing_laws.proofs.LabelLaws.{labels_few, some_few, names_few, one_counted}
use Rattle.typing_laws.proofs.Lists.{Holds, when_is}
use Rattle.typing_laws.proofs.InSight.{IsValue, InBounds, line_bounds, declared_keeps, same_keeps, stmt_keeps, typed_constant}
use Rattle.typing_laws.proofs.Callees.{IsCalled}
use Rattle.typing_laws.proofs.Expressions.{AreStructs, is_type, IsGood, SomeGood, expr, some}

-- ---- where `break` and `continue` may stand

pub record SameLoops (c d : Sight) : Type 0 where
  pub breaks : d.may_break ≡ c.may_break
  pub continues : d.in_loop ≡ c.in_loop

names_loops : (c : Sight) (t : Option Ty) (ds : List SourceDeclared) → SameLoops c (after_names c t ds)
names_loops c t [] = record { breaks = refl; continues = refl }
names_loops c t (d ∷ ds) = let s = names_loops (declared c d.name t) t ds in record { breaks = s.breaks; continues = s.continues }

pub params_loops : (c : Sight) (ps : List SourceParameter) → SameLoops c (after_params c ps)
params_loops c [] = record { breaks = refl; continues = refl }
params_loops c (p ∷ ps) = let s = params_loops (parameter_declared c p) ps in record { breaks = s.breaks; continues = s.continues }

stmt_loops : (c : Sight) (x : SourceStmt) → SameLoops c (after c x)
stmt_loops c (stmt.block n xs) = record { breaks = refl; continues = refl }
stmt_loops c (stmt.empty n) = record { breaks = refl; continues = refl }
stmt_loops c (stmt.expression n e) = record { breaks = refl; continues = refl }
stmt_loops c (stmt.if_only n e a) = record { breaks = refl; continues = refl }
stmt_loops c (stmt.if_else n e a b) = record { breaks = refl; continues = refl }
stmt_loops c (stmt.while_loop n e a) = record { breaks = refl; continues = refl }
stmt_loops c (stmt.do_loop n a e) = record { breaks = refl; continues = refl }
stmt_loops c (stmt.for_loop n x y z a) = record { breaks = refl; continues = refl }
stmt_loops c (stmt.switch n e xs) = record { breaks = refl; continues = refl }
stmt_loops c (stmt.break_off n) = record { breaks = refl; continues = refl }
stmt_loops c (stmt.continue_on n) = record { breaks = refl; continues = refl }
stmt_loops c (stmt.return_from n e) = record { breaks = refl; continues = refl }
stmt_loops c (stmt.declaration n t ds) = let s = names_loops c (line_type c.structs t) ds in record { breaks = s.breaks; continues = s.continues }
stmt_loops c (stmt.case_label n k) = record { breaks = refl; continues = refl }
stmt_loops c (stmt.default_label n) = record { breaks = refl; continues = refl }

-- ---- statements

abbrev pub own_label : TypedStmt → ℕ
own_label x = if is_label x then 1 else 0

pub record NamesGood (bodies : ℕ) (l : Layout) (n : ℕ) (us : List TypedName) : Type 0 where
  pub kept : AreNames bodies l us
  pub light : names_weight us ≤ 2048 * n

pub record StmtGood (bodies : ℕ) (l : Layout) (breaks continues : Bool) (n : ℕ) (t : TypedStmt) : Type 0 where
  pub kept : IsStmt bodies l breaks continues t
  pub light : stmt_weight t ≤ 2048 * n
  pub few : stmt_labels t + own_label t ≤ 2048 * n

pub record StmtsGood (bodies : ℕ) (l : Layout) (breaks continues : Bool) (n : ℕ) (ts : TypedStmts) : Type 0 where
  pub kept : AreStmts bodies l breaks continues ts
  pub light : all_stmt_weight ts ≤ 2048 * n
  pub few : all_stmt_labels ts + count_labels ts ≤ 2048 * n

pub other_flags : (bodies : ℕ) (l : Layout) (i j i' j' : Bool) (n : ℕ) (ts : TypedStmts) → i' ≡ i → j' ≡ j → StmtsGood bodies l i' j' n ts → StmtsGood bodies l i j n ts
other_flags bodies l i j i' j' n ts a b h = subst (λ k. StmtsGood bodies l i k n ts) b (subst (λ k. StmtsGood bodies l k j' n ts) a h)

module _ (bodies : ℕ) (l : Layout) (good : AreStructs l.structs) (hs : List Head)
    (calls : (table : EngineTable) (x : List ℕ) → IsTable table → Holds (Holds (IsCalled bodies)) (callee hs table x)) where
  pub names : (c : Sight) (t : Option Ty) {ds : List SourceDeclared} {us : List TypedName} → Holds IsValue t → InBounds c → AreKnownNames ds → TypesNames hs c t ds us
      → NamesGood bodies l (names_size ds) us
  names c t v h known (rule.TypesNames.none c' t') = record { kept = tt; light = omega arith }
  names c t v h known (rule.TypesNames.more c' t' {d = d} {ds = ds} {u = u} {us = us} f rest) =
      let p = f.typed in
      let made : TypedName = record { token = d.token; name = record { number = c.next; ty = p.0 }; value = p.1 } in
      let is = when_is (not (is_taken c d.name) && (value_fits p.0 p.1 && not (crosses_with c (cells c.structs p.0)))) made u f.gives in
      let s = some bodies l good hs calls c h known.0 f.parts.1 in
      let k = names (declared c d.name t) t v (declared_keeps c d.name t v h) known.1 rest in
      let a = s.light in let b = k.light in
      subst (λ w. NamesGood bodies l (names_size (d ∷ ds)) (w ∷ us)) is.1
      (record { kept = (is_type l p.0 good (subst (Holds IsValue) f.parts.0 v), s.kept, k.kept); light = omega arith })

  if_only : (i j : Bool) (n : ℕ) (x : TypedExpr) (u s : TypedStmt) (a b : ℕ) → IsGood bodies l a x → StmtGood bodies l i j b u → if_rule n (x, u) ≡ Some s
      → StmtGood bodies l i j (1 + (a + b)) s
  if_only i j n x u s a b g k e =
      let is = when_is (is_int (type_of x)) (stmt.if_only n x u) s e in
      let p = g.light in let q = k.light in let r = k.few in let w = labels_few x in
      subst (StmtGood bodies l i j (1 + (a + b))) is.1 (record { kept = (g.kept, k.kept); light = omega arith; few = omega arith })

  if_else : (i j : Bool) (n : ℕ) (x : TypedExpr) (u v s : TypedStmt) (a b d : ℕ) → IsGood bodies l a x → StmtGood bodies l i j b u → StmtGood bodies l i j d v
      → if_else_rule n (x, u, v) ≡ Some s → StmtGood bodies l i j (1 + (a + (b + d))) s
  if_else i j n x u v s a b d g k m e =
      let is = when_is (is_int (type_of x)) (stmt.if_else n x u v) s e in
      let p = g.light in let q = k.light in let r = k.few in let y = m.light in let z = m.few in let w = labels_few x in
      subst (StmtGood bodies l i j (1 + (a + (b + d)))) is.1 (record { kept = (g.kept, k.kept, m.kept); light = omega arith; few = omega arith })

  while_loop : (i j : Bool) (n : ℕ) (x : TypedExpr) (u s : TypedStmt) (a b : ℕ) → IsGood bodies l a x → StmtGood bodies l true true b u → while_rule n (x, u) ≡ Some s
      → StmtGood bodies l i j (1 + (a + b)) s
  while_loop i j n x u s a b g k e =
      let is = when_is (is_int (type_of x)) (stmt.while_loop n x u) s e in
      let p = g.light in let q = k.light in let r = k.few in let w = labels_few x in
      subst (StmtGood bodies l i j (1 + (a + b))) is.1 (record { kept = (g.kept, k.kept); light = omega arith; few = omega arith })

  do_loop : (i j : Bool) (n : ℕ) (u : TypedStmt) (x : TypedExpr) (s : TypedStmt) (a b : ℕ) → StmtGood bodies l true true a u → IsGood bodies l b x → do_rule n (u, x) ≡ Some s
      → StmtGood bodies l i j (1 + (a + b)) s
  do_loop i j n u x s a b k g e =
      let is = when_is (is_int (type_of x)) (stmt.do_loop n u x) s e in
      let p = g.light in let q = k.light in let r = k.few in let w = labels_few x in
      subst (StmtGood bodies l i j (1 + (a + b))) is.1 (record { kept = (k.kept, g.kept); light = omega arith; few = omega arith })

  for_loop : (i j : Bool) (n : ℕ) (x y z : Option TypedExpr) (u s : TypedStmt) (a b d f : ℕ) → SomeGood bodies l a x → SomeGood bodies l b y → SomeGood bodies l d z
      → StmtGood bodies l true true f u → for_rule n (x, y, z, u) ≡ Some s → StmtGood bodies l i j (1 + (a + (b + (d + f)))) s
  for_loop i j n x y z u s a b d f g h m k e =
      let is = when_is (is_condition y) (stmt.for_loop n x y z u) s e in
      let p = g.light in let q = h.light in let r = m.light in let t = k.light in let v = k.few in
      let o = some_few x in let w = some_few y in let e' = some_few z in
      subst (StmtGood bodies l i j (1 + (a + (b + (d + f))))) is.1 (record { kept = (g.kept, h.kept, m.kept, k.kept); light = omega arith; few = omega arith })

  switched_on : (c : Sight) (n : ℕ) (x : TypedExpr) (us : TypedStmts) (s : TypedStmt) (i j : Bool) (a b : ℕ) → IsGood bodies l a x → StmtsGood bodies l true j b us
      → switch_rule c n (x, us) ≡ Some s → StmtGood bodies l i j (1 + (a + b)) s
  switched_on c n x us s i j a b g k e =
      let is = when_is (is_int (type_of x) && not (crosses_with c 1)) (stmt.switch n x us) s e in
      let p = g.light in let q = k.light in let r = k.few in let w = labels_few x in
      subst (StmtGood bodies l i j (1 + (a + b))) is.1 (record { kept = (g.kept, k.kept); light = omega arith; few = omega arith })

  mutual
    pub statement : (c : Sight) {x : SourceStmt} {t : TypedStmt} → InBounds c → IsKnownStmt x → TypesStmt hs c x t → StmtGood bodies l c.may_break c.in_loop (stmt_size x) t
    statement c h known (rule.TypesStmt.block c' m typing) =
        let k = statements (scope_entered c) (same_keeps c (scope_entered c) refl refl refl h) known typing in
        let a = k.light in let b = k.few in record { kept = k.kept; light = omega arith; few = omega arith }
    statement c h known (rule.TypesStmt.empty c' m) = record { kept = tt; light = omega arith; few = omega arith }
    statement c h known (rule.TypesStmt.expression c' m {t = t} typing) =
        let g = expr bodies l good hs calls c h known typing in
        let a = g.light in let w = labels_few t in record { kept = g.kept; light = omega arith; few = omega arith }
    statement c h known (rule.TypesStmt.if_only c' m {e = e} {a = a} {t = t} {u = u} {s = s} typing inner gives) =
        if_only c.may_break c.in_loop m t u s (size e) (stmt_size a) (expr bodies l good hs calls c h known.0 typing)
        (statement (inside c) (same_keeps c (inside c) refl refl refl h) known.1 inner) gives
    statement c h known (rule.TypesStmt.if_else c' m {e = e} {a = a} {b = b} {t = t} {u = u} {v = v} {s = s} typing inner other gives) =
        if_else c.may_break c.in_loop m t u v s (size e) (stmt_size a) (stmt_size b) (expr bodies l good hs calls c h known.0 typing)
        (statement (inside c) (same_keeps c (inside c) refl refl refl h) known.1.0 inner)
        (statement (after_then c a) (same_keeps c (after_then c a) refl refl refl h) known.1.1 other) gives
    statement c h known (rule.TypesStmt.while_loop c' m {e = e} {a = a} {t = t} {u = u} {s = s} typing body gives) =
        while_loop c.may_break c.in_loop m t u s (size e) (stmt_size a) (expr bodies l good hs calls c h known.0 typing)
        (statement (looped c) (same_keeps c (looped c) refl refl refl h) known.1 body) gives
    statement c h known (rule.TypesStmt.do_loop c' m {a = a} {e = e} {u = u} {s = s} {t = t} body typing gives) =
        do_loop c.may_break c.in_loop m u t s (stmt_size a) (size e)
        (statement (looped c) (same_keeps c (looped c) refl refl refl h) known.0 body) (expr bodies l good hs calls c h known.1 typing) gives
    statement c h known (rule.TypesStmt.for_loop c' m {x = x} {y = y} {z = z} {a = a} {t = t} {u = u} {v = v} {w = w} {s = s} first test step body gives) =
        for_loop c.may_break c.in_loop m t u v w s (some_size x) (some_size y) (some_size z) (stmt_size a)
        (some bodies l good hs calls c h known.0 first) (some bodies l good hs calls c h known.1.0 test) (some bodies l good hs calls c h known.1.1.0 step)
        (statement (looped c) (same_keeps c (looped c) refl refl refl h) known.1.1.1 body) gives
    statement c h known (rule.TypesStmt.switch c' m {e = e} {xs = xs} {t = t} {ts = ts} {s = s} typing body gives) =
        switched_on c m t ts s c.may_break c.in_loop (size e) (all_stmt_size xs) (expr bodies l good hs calls c h known.0 typing)
        (statements (switched c) (same_keeps c (switched c) refl refl refl h) known.1 body) gives
    statement c h known (rule.TypesStmt.break_off c' m {s = s} gives) =
        let is = when_is c.may_break (stmt.break_off m) s gives in
        subst (StmtGood bodies l c.may_break c.in_loop 1) is.1 (record { kept = is.0; light = omega arith; few = omega arith })
    statement c h known (rule.TypesStmt.continue_on c' m {s = s} gives) =
        let is = when_is c.in_loop (stmt.continue_on m) s gives in
        subst (StmtGood bodies l c.may_break c.in_loop 1) is.1 (record { kept = is.0; light = omega arith; few = omega arith })
    statement c h known (rule.TypesStmt.return_from c' m {e = e} {r = r} {t = t} {s = s} result typing gives) =
        let is = when_is (result_fits r t) (stmt.return_from m t) s gives in
        let g = some bodies l good hs calls c h known typing in
        let a = g.light in let w = some_few t in
        subst (StmtGood bodies l c.may_break c.in_loop (1 + some_size e)) is.1 (record { kept = g.kept; light = omega arith; few = omega arith })
    statement c h known (rule.TypesStmt.declaration c' m t {us = us} line typing) =
        let k = names c (line_type c.structs t) (line_bounds c.structs t) h known typing in
        let a = k.light in let w = names_few us in record { kept = k.kept; light = omega arith; few = omega arith }
    statement c h known (rule.TypesStmt.case_label c' m {k = k} {v = v} {s = s} typing gives) =
        let is = when_is (not (is_again c.labels v) && (not (is_outside c.labels) && is_int (const_type v))) (stmt.case_label m v) s gives in
        subst (StmtGood bodies l c.may_break c.in_loop 1) is.1
        (record { kept = typed_constant c k typing.typed v h known typing.parts typing.gives; light = omega arith; few = omega arith })
    statement c h known (rule.TypesStmt.default_label c' m {s = s} gives) =
        let is = when_is (not (has_default_label c.labels) && not (is_outside c.labels)) (stmt.default_label m) s gives in
        subst (StmtGood bodies l c.may_break c.in_loop 1) is.1 (record { kept = tt; light = omega arith; few = omega arith })

    pub statements : (c : Sight) {xs : SourceStmts} {ts : TypedStmts} → InBounds c → AreKnownStmts xs → TypesStmts hs c xs ts
        → StmtsGood bodies l c.may_break c.in_loop (all_stmt_size xs) ts
    statements c h known (rule.TypesStmts.none c') = record { kept = tt; light = omega arith; few = omega arith }
    statements c h known (rule.TypesStmts.more c' {x = x} {xs = xs} {t = t} {ts = ts} typing rest) =
        let g = statement c h known.0 typing in
        let same = stmt_loops c x in
        let k = other_flags bodies l c.may_break c.in_loop (after c x).may_break (after c x).in_loop (all_stmt_size xs) ts same.breaks same.continues
        (statements (after c x) (stmt_keeps c x h) known.1 rest) in
        let a = g.light in let b = g.few in let d = k.light in let e = k.few in
        let w = one_counted (is_label t) (count_labels ts) in
        record { kept = (g.kept, k.kept); light = omega arith; few = omega arith }
