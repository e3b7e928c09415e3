-- The code of nodes in parts, and labelled code that grows part by part.
use Rattle.std.proofs.Common.{◌≡◌, ◌<◌, ◌+◌, ℕ, pos, true, List, [], ◌∷◌, ◌++◌, Option, Some, None, Result, Ok, Err, length, drop, get_or, arith, refl, ap, sym, ◌∙◌, append_assoc}
use Rattle.std.specs.Option.{option_map}
use Rattle.std.specs.Result.{OnOk}
use Rattle.std.proofs.lemmas.List.{append-nil, at_drop_more}
use Rattle.nss_tree.specs.declared.operators.PrefixOperator.{PrefixOperator}
use Rattle.nss_tree.specs.declared.operators.PrefixOperator.TheVariants as pre
use Rattle.nwq_value.specs.declared.engine.Const.{Const}
use Rattle.ncs_code.specs.Plain as ops
use Rattle.ncs_code.specs.Plain.{PlainOp}
use Rattle.ncs_emit.specs.declared.jump.Jump.TheVariants.{Jmp, Jz}
use Rattle.ncs_emit.specs.Labelled.{Line, Instruction, JumpTo, Label, LabelledCode}
use Rattle.typing_rules.specs.declared.expressions.Expression.{Expression}
use Rattle.typing_rules.specs.Reading.{plain}
use Rattle.typing_rules.specs.Typed.{TypedExpr, TypedExprs, more_typed, literal, name, call, member, prefix, postfix, binary, assign}
use Rattle.typing_rules.specs.Cells.{is_captured}
use Rattle.emission_rules.specs.Layout.{Layout}
use Rattle.emission_rules.specs.Operations.{bytes_of, constant, int_constant, top_again}
use Rattle.emission_rules.specs.Expressions.{Home, home, moved, read, labels, all_labels, constants, member_code, prefix_code, WhereFalse, WhereTrue, binary_code, emit, emit_all, argument_labels}
use Rattle.emission_rules.specs.Expressions.{argument_code, arguments_cells}
use Rattle.codegen_expr.specs.Emitted.{extended}
use Rattle.codegen_expr.specs.Parts.{prefix_before, prefix_behind}

-- ---- constants, the last one first

-- ---- places

-- what is a place takes no label
mapped_none : (a offset : ℕ) (o : Option Home) → ((h : Home) → o ≡ Some h → a ≡ 0) → (h : Home) → option_map (moved offset) o ≡ Some h → a ≡ 0
mapped_none a offset None f h is = absurd cc
mapped_none a offset (Some g) f h is = f g refl

home_labels : (l : Layout) (x : TypedExpr) (h : Home) → home l x ≡ Some h → labels x ≡ 0
home_labels l (literal k) h is = absurd cc
home_labels l (name t p) h is = refl
home_labels l (call t f xs ks) h is = absurd cc
home_labels l (member t x offset) h is = mapped_none (labels x) offset (home l x) (home_labels l x) h is
home_labels l (prefix t o x) h is = absurd cc
home_labels l (postfix t o x) h is = absurd cc
home_labels l (binary t o x y) h is = absurd cc
home_labels l (assign t o x y) h is = absurd cc

pub member_labels : (l : Layout) (x : TypedExpr) (offset : ℕ) (h : Home) → Some h ≡ option_map (moved offset) (home l x) → labels x ≡ 0
member_labels l x offset h is = mapped_none (labels x) offset (home l x) (home_labels l x) h (sym is)

pub member_there : (l : Layout) (depth total offset count : ℕ) (o : Option Home) (value : List Line) (h : Home) → Some h ≡ option_map (moved offset) o
    → member_code l depth total offset count o value ≡ Instruction (read l depth count h) ∷ []
member_there l depth total offset count None value h is = absurd cc
member_there l depth total offset count (Some g) value h is =
    let e : h ≡ moved offset g = cc in
    ap (λ y. Instruction (read l depth count y) ∷ []) (sym e)

pub no_home : (l : Layout) (the : Expression) (x : TypedExpr) → plain the ≡ x → home l x ≡ None → None ≡ home l (plain the)
no_home l the x is none = sym (ap (home l) is ∙ none)

-- ---- prefix operators

pub prefix_parts : (l : Layout) (depth : ℕ) (o : PrefixOperator) (h : Option Home) (value : List Line)
    → prefix_code l depth o h value ≡ prefix_before l depth o h ++ (value ++ prefix_behind o)
prefix_parts l depth pre.Minus h value = refl
prefix_parts l depth pre.Complement h value = refl
prefix_parts l depth pre.Not h value = refl
prefix_parts l depth pre.Increment h value = ap (λ ys. prefix_before l depth pre.Increment h ++ ys) (sym (append-nil value))
prefix_parts l depth pre.Decrement h value = ap (λ ys. prefix_before l depth pre.Decrement h ++ ys) (sym (append-nil value))

-- ---- code that grows

on_ok : {T E P Q : Type 0} (r : Result T E) → OnOk r P → (P → Q) → OnOk r Q
on_ok (Ok x) p f = f p
on_ok (Err e) p f = tt

both_same : (xs ys : List Line) (n m : ℕ) → xs ≡ ys → n ≡ m → ◌≡◌ {A = LabelledCode} (record { lines = xs; labels = n }) (record { lines = ys; labels = m })
both_same xs ys n m e f = ap (λ zs. record { lines = zs; labels = n }) e ∙ ap (λ k. record { lines = ys; labels = k }) f

pub extended_none : (c : LabelledCode) → c ≡ extended c [] 0
extended_none c = both_same c.lines (c.lines ++ []) c.labels (c.labels + 0) (sym (append-nil c.lines)) (omega arith)

pub extended_twice : (c : LabelledCode) (xs ys : List Line) (n m k : ℕ) → k ≡ n + m → extended (extended c xs n) ys m ≡ extended c (xs ++ ys) k
extended_twice c xs ys n m k is = both_same ((c.lines ++ xs) ++ ys) (c.lines ++ (xs ++ ys)) (c.labels + n + m) (c.labels + k) (append_assoc c.lines xs ys) (omega arith)

-- an expression that is known
pub known_code : {T E : Type 0} (r : Result T E) (before after : LabelledCode) (l : Layout) (d : ℕ) (the : Expression) (x : TypedExpr) (lines : List Line) (n : ℕ) → plain the ≡ x
    → emit l before.labels d x ≡ lines → labels x ≡ n → OnOk r (after ≡ extended before lines n)
    → OnOk r (after ≡ extended before (emit l before.labels d (plain the)) (labels (plain the)))
known_code r before after l d the x lines n is code count put =
    on_ok r put (λ e. e ∙ (ap (λ ys. extended before ys n) (sym (ap (emit l before.labels d) is ∙ code))
    ∙ ap (extended before (emit l before.labels d (plain the))) (sym (ap labels is ∙ count))))

-- the same where its node takes no label
pub known_lines : {T E : Type 0} (r : Result T E) (before after : LabelledCode) (l : Layout) (d : ℕ) (the : Expression)
    (x : TypedExpr) (lines : List Line) → plain the ≡ x → emit l before.labels d x ≡ lines → labels x ≡ 0
    → OnOk r (after ≡ record before { lines = before.lines ++ lines }) → OnOk r (after ≡ extended before (emit l before.labels d (plain the)) (labels (plain the)))
known_lines r before after l d the x lines is code count put =
    known_code r before after l d the x lines 0 is code count (on_ok r put (λ e. e ∙ both_same _ _ _ _ refl (omega arith)))

pub member_read_code : {T E : Type 0} (r : Result T E) (before after : LabelledCode) (l : Layout) (d total offset count : ℕ) (x : TypedExpr) (value : List Line) (op : PlainOp) (h : Home)
    → Some h ≡ option_map (moved offset) (home l x) → op ≡ read l d count h → OnOk r (after ≡ record before { lines = before.lines ++ Instruction op ∷ [] })
    → OnOk r (after ≡ extended before (member_code l d total offset count (home l x) value) (labels x))
member_read_code r before after l d total offset count x value op h there is put =
    on_ok r put (λ e. e
    ∙ both_same _ _ _ _ (ap (λ y. before.lines ++ Instruction y ∷ []) is ∙ ap (λ ys. before.lines ++ ys) (sym (member_there l d total offset count (home l x) value h there)))
    (omega (arith, member_labels l x offset h there)))

pub arguments_step : (first now after : LabelledCode) (l : Layout) (d0 d1 : ℕ) (x : TypedExpr) (xs all : TypedExprs) → all ≡ more_typed x xs → d1 ≡ d0 + arguments_cells l xs
    → now ≡ extended first (emit_all l first.labels d0 xs) (all_labels xs)
    → after ≡ extended now (argument_code l now.labels d1 (is_captured x) (emit l (now.labels + argument_labels (is_captured x)) d1 x)) (argument_labels (is_captured x) + labels x)
    → after ≡ extended first (emit_all l first.labels d0 all) (all_labels all)
arguments_step first now after l d0 d1 x xs all all-is depth before put =
    put
    ∙ (ap (λ c. extended c (argument_code l c.labels d1 (is_captured x) (emit l (c.labels + argument_labels (is_captured x)) d1 x)) (argument_labels (is_captured x) + labels x)) before
    ∙ (ap (λ d. extended (extended first (emit_all l first.labels d0 xs) (all_labels xs))
    (argument_code l (first.labels + all_labels xs) d (is_captured x) (emit l (first.labels + all_labels xs + argument_labels (is_captured x)) d x)) (argument_labels (is_captured x) + labels x)) depth
    ∙ (extended_twice first (emit_all l first.labels d0 xs) _ (all_labels xs) (argument_labels (is_captured x) + labels x) (all_labels xs + argument_labels (is_captured x) + labels x) (omega arith)
    ∙ ap (λ ys. extended first (emit_all l first.labels d0 ys) (all_labels ys)) (sym all-is))))

pub call_code : {T E : Type 0} (r : Result T E) (c0 c1 c2 c3 c4 : LabelledCode) (room ks given all : List Line) (line last : Line) (n : ℕ)
    → c1 ≡ record c0 { lines = c0.lines ++ room } → c2 ≡ record c1 { lines = c1.lines ++ ks } → c3 ≡ extended c2 given n → given ≡ all → line ≡ last
    → OnOk r (c4 ≡ record c3 { lines = c3.lines ++ line ∷ [] })
    → OnOk r (c4 ≡ extended c0 (room ++ (ks ++ (all ++ last ∷ []))) n)
call_code r c0 c1 c2 c3 c4 room ks given all line last n e1 e2 e3 same-all same-last put =
    on_ok r put (λ e. e
    ∙ (ap (λ (c : LabelledCode). record c { lines = c.lines ++ line ∷ [] })
    (e3 ∙ (ap (λ c. extended c given n) (e2 ∙ ap (λ (c : LabelledCode). record c { lines = c.lines ++ ks }) e1)))
    ∙ both_same _ _ _ _
    (append_assoc ((c0.lines ++ room) ++ ks) given (line ∷ [])
    ∙ (append_assoc (c0.lines ++ room) ks (given ++ line ∷ [])
    ∙ (append_assoc c0.lines room (ks ++ (given ++ line ∷ []))
    ∙ (ap (λ ys. c0.lines ++ (room ++ (ks ++ (ys ++ line ∷ [])))) same-all
    ∙ ap (λ y. c0.lines ++ (room ++ (ks ++ (all ++ y ∷ [])))) same-last))))
    refl))

pub or_code : (l : Layout) (x y : TypedExpr) (op : PlainOp) (d1 d2 d3 other end : ℕ) (c0 c1 c2 c3 c4 c5 c6 c7 : LabelledCode) → other ≡ c0.labels → end ≡ c1.labels
    → c1 ≡ record c0 { labels = c0.labels + 1 } → c2 ≡ record c1 { labels = c1.labels + 1 }
    → c3 ≡ extended c2 (emit l c2.labels d1 x) (labels x)
    → c4 ≡ record c3 { lines = c3.lines ++ top_again ∷ JumpTo Jz other ∷ int_constant (pos 1) ∷ Instruction op ∷ JumpTo Jmp end ∷ Label other ∷ [] }
    → d2 ≡ d3 → c5 ≡ extended c4 (emit l c4.labels d2 y) (labels y) → c6 ≡ record c5 { lines = c5.lines ++ Instruction op ∷ [] }
    → c7 ≡ record c6 { lines = c6.lines ++ Label end ∷ [] }
    → c7 ≡ extended c0 (binary_code c0.labels WhereTrue op (emit l (c0.labels + 2) d1 x) (emit l (c0.labels + 2 + labels x) d3 y)) (2 + labels x + labels y)
or_code l x y op d1 d2 d3 other end c0 c1 c2 c3 c4 c5 c6 c7 o-is e-is e1 e2 e3 e4 d e5 e6 e7 =
    let two : c0.labels + 1 + 1 ≡ c0.labels + 2 = omega arith in
    let f2 : c2 ≡ record c0 { labels = c0.labels + 2 } = e2 ∙ (ap (λ (c : LabelledCode). record c { labels = c.labels + 1 }) e1 ∙ ap (λ (n : ℕ). record c0 { labels = n }) two) in
    let f3 : c3 ≡ record { lines = c0.lines ++ emit l (c0.labels + 2) d1 x; labels = c0.labels + 2 + labels x } = e3 ∙ ap (λ c. extended c (emit l c.labels d1 x) (labels x)) f2 in
    let o : other ≡ c0.labels = o-is in
    let g : end ≡ c0.labels + 1 = e-is ∙ ap (λ (c : LabelledCode). c.labels) e1 in
    e7 ∙ (ap (λ (c : LabelledCode). record c { lines = c.lines ++ Label end ∷ [] })
    (e6 ∙ ap (λ (c : LabelledCode). record c { lines = c.lines ++ Instruction op ∷ [] })
    (e5 ∙ ap (λ c. extended c (emit l c.labels d2 y) (labels y))
    (e4 ∙ ap (λ (c : LabelledCode). record c {
      lines = c.lines
          ++ top_again ∷ JumpTo Jz other ∷ int_constant
          (pos 1) ∷ Instruction op ∷ JumpTo Jmp end ∷ Label other ∷ [];
    }) f3)))
    ∙ both_same _ _ _ _ (rw (o, g, d) (simp append_assoc refl)) (omega arith))

pub and_code : (l : Layout) (x y : TypedExpr) (op : PlainOp) (d1 d2 d3 end : ℕ) (c0 c1 c2 c3 c4 c5 c6 c7 : LabelledCode) → end ≡ c0.labels → c1 ≡ record c0 { labels = c0.labels + 1 }
    → c2 ≡ extended c1 (emit l c1.labels d1 x) (labels x) → c3 ≡ record c2 { lines = c2.lines ++ top_again ∷ [] } → c4 ≡ record c3 { lines = c3.lines ++ JumpTo Jz end ∷ [] }
    → d2 ≡ d3 → c5 ≡ extended c4 (emit l c4.labels d2 y) (labels y) → c6 ≡ record c5 { lines = c5.lines ++ Instruction op ∷ [] }
    → c7 ≡ record c6 { lines = c6.lines ++ Label end ∷ [] }
    → c7 ≡ extended c0 (binary_code c0.labels WhereFalse op (emit l (c0.labels + 1) d1 x) (emit l (c0.labels + 1 + labels x) d3 y)) (1 + labels x + labels y)
and_code l x y op d1 d2 d3 end c0 c1 c2 c3 c4 c5 c6 c7 o e1 e2 e3 e4 d e5 e6 e7 =
    e7 ∙ (ap (λ (c : LabelledCode). record c { lines = c.lines ++ Label end ∷ [] })
    (e6 ∙ ap (λ (c : LabelledCode). record c { lines = c.lines ++ Instruction op ∷ [] })
    (e5 ∙ ap (λ c. extended c (emit l c.labels d2 y) (labels y))
    (e4 ∙ ap (λ (c : LabelledCode). record c { lines = c.lines ++ JumpTo Jz end ∷ [] })
    (e3 ∙ ap (λ (c : LabelledCode). record c { lines = c.lines ++ top_again ∷ [] })
    (e2 ∙ ap (λ c. extended c (emit l c.labels d1 x) (labels x)) e1)))))
    ∙ both_same _ _ _ _ (rw (o, d) (simp append_assoc refl)) (omega arith))

pub assign_code : {T E : Type 0} (r : Result T E) (c0 c1 c2 c3 c4 : LabelledCode) (first value change last first-is value-is last-is : List Line) (n : ℕ)
    → c1 ≡ record c0 { lines = c0.lines ++ first } → c2 ≡ extended c1 value n → c3 ≡ record c2 { lines = c2.lines ++ change }
    → first ≡ first-is → value ≡ value-is → last ≡ last-is → OnOk r (c4 ≡ record c3 { lines = c3.lines ++ last })
    → OnOk r (c4 ≡ extended c0 (first-is ++ (value-is ++ (change ++ last-is))) n)
assign_code r c0 c1 c2 c3 c4 first value change last first-is value-is last-is n e1 e2 e3 f v w put =
    on_ok r put (λ e. e
    ∙ (ap (λ (c : LabelledCode). record c { lines = c.lines ++ last })
    (e3 ∙ ap (λ (c : LabelledCode). record c { lines = c.lines ++ change })
    (e2 ∙ ap (λ c. extended c value n) e1))
    ∙ both_same _ _ _ _ (rw (f, v, w) (simp append_assoc refl)) refl))

pub captured_code : (l : Layout) (x : TypedExpr) (d end : ℕ) (line : Line) (c0 c1 c2 c3 c4 c5 c6 : LabelledCode)
    → end ≡ c0.labels → is_captured x ≡ true → line ≡ Instruction (ops.StoreState (bytes_of l.globals) (bytes_of d))
    → c1 ≡ record c0 { labels = c0.labels + 1 } → c2 ≡ record c1 { lines = c1.lines ++ line ∷ [] } → c3 ≡ record c2 { lines = c2.lines ++ JumpTo Jmp end ∷ [] }
    → c4 ≡ extended c3 (emit l c3.labels d x) (labels x) → c5 ≡ record c4 { lines = c4.lines ++ Instruction ops.Retn ∷ [] } → c6 ≡ record c5 { lines = c5.lines ++ Label end ∷ [] }
    → c6 ≡ extended c0 (argument_code l c0.labels d (is_captured x) (emit l (c0.labels + argument_labels (is_captured x)) d x)) (argument_labels (is_captured x) + labels x)
captured_code l x d end line c0 c1 c2 c3 c4 c5 c6 o is w e1 e2 e3 e4 e5 e6 =
    let put : c6 ≡ extended c0 (argument_code l c0.labels d true (emit l (c0.labels + 1) d x)) (1 + labels x) =
    e6 ∙ (ap (λ (c : LabelledCode). record c { lines = c.lines ++ Label end ∷ [] })
    (e5 ∙ ap (λ (c : LabelledCode). record c { lines = c.lines ++ Instruction ops.Retn ∷ [] })
    (e4 ∙ ap (λ c. extended c (emit l c.labels d x) (labels x))
    (e3 ∙ ap (λ (c : LabelledCode). record c { lines = c.lines ++ JumpTo Jmp end ∷ [] })
    (e2 ∙ ap (λ (c : LabelledCode). record c { lines = c.lines ++ line ∷ [] }) e1))))
    ∙ both_same _ _ _ _ (rw (o, w) (simp append_assoc refl)) (omega arith)) in
    put ∙ ap (λ b. extended c0 (argument_code l c0.labels d b (emit l (c0.labels + argument_labels b) d x)) (argument_labels b + labels x)) (sym is)
