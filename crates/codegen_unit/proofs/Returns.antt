-- The code of a statement in parts, as labelled code grows part by part.
use Rattle.std.proofs.Common.{◌≡◌, ◌+◌, ℕ, List, [], ◌∷◌, ◌++◌, Option, None, Result, Ok, Err, arith, refl, ap, ◌∙◌, append_assoc}
use Rattle.std.specs.Result.{OnOk}
use Rattle.nss_tree.specs.Statements as s
use Rattle.ncs_emit.specs.declared.jump.Jump.TheVariants.{Jmp, Jnz, Jz}
use Rattle.ncs_emit.specs.Labelled.{Line, JumpTo, Label, LabelledCode}
use Rattle.typing_rules.specs.Typed.{TypedExpr, TypedStmt, TypedStmts}
use Rattle.emission_rules.specs.Layout.{Layout, all_declared_cells}
use Rattle.emission_rules.specs.Operations.{dropped}
use Rattle.emission_rules.specs.Expressions.{emit, labels}
use Rattle.emission_rules.specs.Statements.{Exits, in_loop, no_exits, evaluated, tested, some_labels, stmt_labels, all_stmt_labels, emit_stmt, emit_stmts}
use Rattle.codegen_expr.specs.Emitted.{extended}

on_ok : {T E P Q : Type 0} (r : Result T E) → OnOk r P → (P → Q) → OnOk r Q
on_ok (Ok x) p f = f p
on_ok (Err e) p f = tt

both_same : (xs ys : List Line) (n m : ℕ) → xs ≡ ys → n ≡ m → ◌≡◌ {A = LabelledCode} (record { lines = xs; labels = n }) (record { lines = ys; labels = m })
both_same xs ys n m e f = ap (λ zs. record { lines = zs; labels = n }) e ∙ ap (λ k. record { lines = ys; labels = k }) f

module _ (l : Layout) (d : ℕ) (c0 : LabelledCode) where
  pub block_code : {T E : Type 0} (r : Result T E) (ex : Exits) (xs : TypedStmts) (cells : ℕ) (c1 c2 : LabelledCode)
      → c1 ≡ extended c0 (emit_stmts l ex c0.labels d None xs) (all_stmt_labels xs)
      → cells ≡ all_declared_cells l.structs xs
      → OnOk r (c2 ≡ record c1 { lines = c1.lines ++ dropped cells })
      → OnOk r (c2 ≡ extended c0 (emit_stmts l ex c0.labels d None xs ++ dropped (all_declared_cells l.structs xs)) (all_stmt_labels xs))
  block_code r ex xs cells c1 c2 e1 few put =
      on_ok r put (λ e. e
      ∙ (ap (λ (c : LabelledCode). record c { lines = c.lines ++ dropped cells }) e1
      ∙ both_same _ _ _ _ (rw few (append_assoc c0.lines (emit_stmts l ex c0.labels d None xs) (dropped (all_declared_cells l.structs xs)))) refl))

  pub if_only_code : (ex : Exits) (x : TypedExpr) (a : TypedStmt) (end : ℕ) (c1 c2 c3 c4 c5 : LabelledCode) → end ≡ c0.labels → c1 ≡ record c0 { labels = c0.labels + 1 }
      → c2 ≡ extended c1 (emit l c1.labels d x) (labels x) → c3 ≡ record c2 { lines = c2.lines ++ JumpTo Jz end ∷ [] }
      → c4 ≡ extended c3 (emit_stmt l ex c3.labels d a) (stmt_labels a) → c5 ≡ record c4 { lines = c4.lines ++ Label end ∷ [] }
      → c5 ≡ extended c0 (emit_stmt l ex c0.labels d (s.if_only 0 x a)) (1 + labels x + stmt_labels a)
  if_only_code ex x a end c1 c2 c3 c4 c5 o e1 e2 e3 e4 e5 =
      e5 ∙ (ap (λ (c : LabelledCode). record c { lines = c.lines ++ Label end ∷ [] })
      (e4 ∙ ap (λ c. extended c (emit_stmt l ex c.labels d a) (stmt_labels a))
      (e3 ∙ ap (λ (c : LabelledCode). record c { lines = c.lines ++ JumpTo Jz end ∷ [] })
      (e2 ∙ ap (λ c. extended c (emit l c.labels d x) (labels x)) e1)))
      ∙ both_same _ _ _ _ (rw o (simp append_assoc refl)) (omega arith))

  pub if_else_code : (ex : Exits) (x : TypedExpr) (a b : TypedStmt) (other : ℕ) (c1 c2 c3 c4 c5 c6 c7 c8 : LabelledCode) → other ≡ c0.labels → c1 ≡ record c0 { labels = c0.labels + 2 }
      → c2 ≡ extended c1 (emit l c1.labels d x) (labels x) → c3 ≡ record c2 { lines = c2.lines ++ JumpTo Jz other ∷ [] }
      → c4 ≡ extended c3 (emit_stmt l ex c3.labels d a) (stmt_labels a) → c5 ≡ record c4 { lines = c4.lines ++ JumpTo Jmp (other + 1) ∷ [] }
      → c6 ≡ record c5 { lines = c5.lines ++ Label other ∷ [] }
      → c7 ≡ extended c6 (emit_stmt l ex c6.labels d b) (stmt_labels b) → c8 ≡ record c7 { lines = c7.lines ++ Label (other + 1) ∷ [] }
      → c8 ≡ extended c0 (emit_stmt l ex c0.labels d (s.if_else 0 x a b)) (2 + labels x + stmt_labels a + stmt_labels b)
  if_else_code ex x a b other c1 c2 c3 c4 c5 c6 c7 c8 o e1 e2 e3 e4 e5 e6 e7 e8 =
      e8 ∙ (ap (λ (c : LabelledCode). record c { lines = c.lines ++ Label (other + 1) ∷ [] })
      (e7 ∙ ap (λ c. extended c (emit_stmt l ex c.labels d b) (stmt_labels b))
      (e6 ∙ ap (λ (c : LabelledCode). record c { lines = c.lines ++ Label other ∷ [] })
      (e5 ∙ ap (λ (c : LabelledCode). record c { lines = c.lines ++ JumpTo Jmp (other + 1) ∷ [] })
      (e4 ∙ ap (λ c. extended c (emit_stmt l ex c.labels d a) (stmt_labels a))
      (e3 ∙ ap (λ (c : LabelledCode). record c { lines = c.lines ++ JumpTo Jz other ∷ [] })
      (e2 ∙ ap (λ c. extended c (emit l c.labels d x) (labels x)) e1))))))
      ∙ both_same _ _ _ _ (rw o (simp append_assoc refl)) (omega arith))

  pub while_code : (ex : Exits) (x : TypedExpr) (a : TypedStmt) (next : ℕ) (c1 c2 c3 c4 c5 c6 c7 : LabelledCode)
      → next ≡ c0.labels → ex ≡ in_loop next (next + 1) d → c1 ≡ record c0 { labels = c0.labels + 2 }
      → c2 ≡ record c1 { lines = c1.lines ++ Label next ∷ [] } → c3 ≡ extended c2 (emit l c2.labels d x) (labels x)
      → c4 ≡ record c3 { lines = c3.lines ++ JumpTo Jz (next + 1) ∷ [] } → c5 ≡ extended c4 (emit_stmt l ex c4.labels d a) (stmt_labels a)
      → c6 ≡ record c5 { lines = c5.lines ++ JumpTo Jmp next ∷ [] } → c7 ≡ record c6 { lines = c6.lines ++ Label (next + 1) ∷ [] }
      → c7 ≡ extended c0 (emit_stmt l no_exits c0.labels d (s.while_loop 0 x a)) (2 + labels x + stmt_labels a)
  while_code ex x a next c1 c2 c3 c4 c5 c6 c7 o is e1 e2 e3 e4 e5 e6 e7 =
      e7 ∙ (ap (λ (c : LabelledCode). record c { lines = c.lines ++ Label (next + 1) ∷ [] })
      (e6 ∙ ap (λ (c : LabelledCode). record c { lines = c.lines ++ JumpTo Jmp next ∷ [] })
      (e5 ∙ ap (λ c. extended c (emit_stmt l ex c.labels d a) (stmt_labels a))
      (e4 ∙ ap (λ (c : LabelledCode). record c { lines = c.lines ++ JumpTo Jz (next + 1) ∷ [] })
      (e3 ∙ ap (λ c. extended c (emit l c.labels d x) (labels x))
      (e2 ∙ ap (λ (c : LabelledCode). record c { lines = c.lines ++ Label next ∷ [] }) e1)))))
      ∙ both_same _ _ _ _ (rw (is, o) (simp append_assoc refl)) (omega arith))

  pub do_code : (ex : Exits) (a : TypedStmt) (x : TypedExpr) (top : ℕ) (c1 c2 c3 c4 c5 c6 c7 : LabelledCode)
      → top ≡ c0.labels → ex ≡ in_loop (top + 1) (top + 2) d → c1 ≡ record c0 { labels = c0.labels + 3 }
      → c2 ≡ record c1 { lines = c1.lines ++ Label top ∷ [] } → c3 ≡ extended c2 (emit_stmt l ex c2.labels d a) (stmt_labels a)
      → c4 ≡ record c3 { lines = c3.lines ++ Label (top + 1) ∷ [] } → c5 ≡ extended c4 (emit l c4.labels d x) (labels x)
      → c6 ≡ record c5 { lines = c5.lines ++ JumpTo Jnz top ∷ [] } → c7 ≡ record c6 { lines = c6.lines ++ Label (top + 2) ∷ [] }
      → c7 ≡ extended c0 (emit_stmt l no_exits c0.labels d (s.do_loop 0 a x)) (3 + stmt_labels a + labels x)
  do_code ex a x top c1 c2 c3 c4 c5 c6 c7 o is e1 e2 e3 e4 e5 e6 e7 =
      e7 ∙ (ap (λ (c : LabelledCode). record c { lines = c.lines ++ Label (top + 2) ∷ [] })
      (e6 ∙ ap (λ (c : LabelledCode). record c { lines = c.lines ++ JumpTo Jnz top ∷ [] })
      (e5 ∙ ap (λ c. extended c (emit l c.labels d x) (labels x))
      (e4 ∙ ap (λ (c : LabelledCode). record c { lines = c.lines ++ Label (top + 1) ∷ [] })
      (e3 ∙ ap (λ c. extended c (emit_stmt l ex c.labels d a) (stmt_labels a))
      (e2 ∙ ap (λ (c : LabelledCode). record c { lines = c.lines ++ Label top ∷ [] }) e1)))))
      ∙ both_same _ _ _ _ (rw (is, o) (simp append_assoc refl)) (omega arith))

  pub for_code : (ex : Exits) (x y z : Option TypedExpr) (a : TypedStmt) (top : ℕ) (c1 c2 c3 c4 c5 c6 : LabelledCode)
      → top ≡ c0.labels → ex ≡ in_loop (top + 1) (top + 2) d → c1 ≡ record c0 { labels = c0.labels + 3 }
      → c2 ≡ extended c1 (evaluated l c1.labels d x) (some_labels x)
      → c3 ≡ extended c2 (Label top ∷ (tested l c2.labels d y ++ JumpTo Jz (top + 2) ∷ [])) (some_labels y)
      → c4 ≡ extended c3 (emit_stmt l ex c3.labels d a) (stmt_labels a)
      → c5 ≡ extended c4 (Label (top + 1) ∷ (evaluated l c4.labels d z ++ JumpTo Jmp top ∷ [])) (some_labels z)
      → c6 ≡ record c5 { lines = c5.lines ++ Label (top + 2) ∷ [] }
      → c6 ≡ extended c0 (emit_stmt l no_exits c0.labels d (s.for_loop 0 x y z a)) (3 + some_labels x + some_labels y + stmt_labels a + some_labels z)
  for_code ex x y z a top c1 c2 c3 c4 c5 c6 o is e1 e2 e3 e4 e5 e6 =
      e6 ∙ (ap (λ (c : LabelledCode). record c { lines = c.lines ++ Label (top + 2) ∷ [] })
      (e5 ∙ ap (λ c. extended c (Label (top + 1) ∷ (evaluated l c.labels d z ++ JumpTo Jmp top ∷ [])) (some_labels z))
      (e4 ∙ ap (λ c. extended c (emit_stmt l ex c.labels d a) (stmt_labels a))
      (e3 ∙ ap (λ c. extended c (Label top ∷ (tested l c.labels d y ++ JumpTo Jz (top + 2) ∷ [])) (some_labels y))
      (e2 ∙ ap (λ c. extended c (evaluated l c.labels d x) (some_labels x)) e1))))
      ∙ both_same _ _ _ _ (rw (is, o) (simp append_assoc refl)) (omega arith))
