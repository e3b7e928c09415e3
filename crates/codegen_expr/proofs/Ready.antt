-- When a node's code can be added, that of its parts can.
use Rattle.std.proofs.Common.{◌≡◌, ◌<◌, ◌≤◌, ◌+◌, ◌-◌, ◌^◌, ℕ, suc, zero, List, [], ◌∷◌, Bool, true, false, length, drop, get_or, arith, refl, ap, sym, ◌∙◌, subst}
use Rattle.std.proofs.lemmas.List.{at_drop_more, drop_all}
use Rattle.nwq_value.specs.Limits.{struct_cell_limit}
use Rattle.nwq_value.specs.declared.engine.Const.{Const}
use Rattle.nwq_value.specs.declared.engine.Const.TheVariants as const
use Rattle.nwq_value.specs.declared.value.Ty.{Ty}
use Rattle.nss_tree.specs.declared.operators.BinaryOperator.{BinaryOperator}
use Rattle.nss_tree.specs.declared.operators.AssignOperator.{AssignOperator}
use Rattle.nss_tree.specs.declared.operators.PrefixOperator.{PrefixOperator}
use Rattle.nss_tree.specs.declared.operators.PostfixOperator.{PostfixOperator}
use Rattle.typing_rules.specs.declared.expressions.Expression.{Expression}
use Rattle.typing_rules.specs.declared.places.Place.{Place}
use Rattle.typing_rules.specs.declared.places.Callee.{Callee}
use Rattle.typing_rules.specs.declared.places.Callee.TheVariants.{Unit as InUnit, Engine}
use Rattle.typing_rules.specs.Reading.{plain, plain_all}
use Rattle.typing_rules.specs.Typed.{TypedExpr, TypedExprs, literal, name, call, member, prefix, postfix, binary, assign, no_typed, more_typed, type_of}
use Rattle.typing_rules.specs.Cells.{cells, is_captured}
use Rattle.emission_rules.specs.Bounds.{frame_limit, weight, all_weight, IsType, IsCallee, IsOperator, IsExpr, AreExprs}
use Rattle.emission_rules.specs.Layout.{Layout}
use Rattle.emission_rules.specs.Expressions.{Shortcut, labels, all_labels, shortcut, shortcut_labels, is_set, cells_first, result_room, argument_labels, count_arguments, arguments_cells, call_line}
use Rattle.codegen_expr.specs.Emitted.{AreReady, CanBeEmitted}
use Rattle.codegen_expr.specs.Parts.{offsets}
use Rattle.codegen_expr.specs.BoundLemmas.{callee_grows, grows, type_few}

-- ---- cells and weights

pub weight_some : (x : TypedExpr) → struct_cell_limit ≤ weight x
weight_some (literal k) = omega arith
weight_some (name t p) = omega arith
weight_some (call t f xs ks) = omega arith
weight_some (member t x offset) = omega arith
weight_some (prefix t o x) = omega arith
weight_some (postfix t o x) = omega arith
weight_some (binary t o x y) = omega arith
weight_some (assign t o x y) = omega arith

arguments_few : (n : ℕ) (l : Layout) (xs : TypedExprs) → AreExprs n l xs → arguments_cells l xs ≤ all_weight xs
arguments_few n l no_typed are = omega arith
arguments_few n l (more_typed x xs) are = omega (arith, type_few n l x are.0, weight_some x, arguments_few n l xs are.1)

-- the cells before a member weigh no more than it
offsets_few : (n : ℕ) (l : Layout) (x : TypedExpr) → IsExpr n l x → offsets x ≤ weight x
offsets_few n l (literal k) is = omega arith
offsets_few n l (name t p) is = omega arith
offsets_few n l (call t f xs ks) is = omega arith
offsets_few n l (member t x offset) is = omega (arith, is.2, offsets_few n l x is.3)
offsets_few n l (prefix t o x) is = omega arith
offsets_few n l (postfix t o x) is = omega arith
offsets_few n l (binary t o x y) is = omega arith
offsets_few n l (assign t o x y) is = omega arith

pub ready_near : {n d : ℕ} {l : Layout} {x : TypedExpr} → CanBeEmitted n l d x → offsets x ≤ frame_limit
ready_near {n = n} {l = l} {x = x} ready = omega (arith, ready.deep, offsets_few n l x ready.bounded)

-- ---- parts of a node

pub same_ready : (n : ℕ) (l : Layout) (d : ℕ) (the : Expression) (x : TypedExpr) → plain the ≡ x → CanBeEmitted n l d (plain the) → CanBeEmitted n l d x
same_ready n l d the x is ready = subst (CanBeEmitted n l d) is ready

pub name_type : {n d : ℕ} {l : Layout} {t : Ty} {p : Place} → CanBeEmitted n l d (name t p) → IsType l t
name_type ready = ready.bounded.0

pub small_depth : (n : ℕ) (l : Layout) (d : ℕ) (x : TypedExpr) → CanBeEmitted n l d x → d < 2 ^ 29
small_depth n l d x ready = omega (arith, ready.deep)

pub member_ready : (n : ℕ) (l : Layout) (d : ℕ) (t : Ty) (x : TypedExpr) (offset : ℕ) → CanBeEmitted n l d (member t x offset) → CanBeEmitted n l d x
member_ready n l d t x offset r = record { bounded = r.bounded.3; deep = omega (arith, r.deep); globals = r.globals; labelled = r.labelled }

pub prefix_ready : (n : ℕ) (l : Layout) (d : ℕ) (t : Ty) (o : PrefixOperator) (x : TypedExpr) → CanBeEmitted n l d (prefix t o x) → CanBeEmitted n l d x
prefix_ready n l d t o x r = record { bounded = r.bounded.1; deep = omega (arith, r.deep); globals = r.globals; labelled = r.labelled }

pub postfix_ready : (n : ℕ) (l : Layout) (d : ℕ) (t : Ty) (o : PostfixOperator) (x : TypedExpr) → CanBeEmitted n l d (postfix t o x) → CanBeEmitted n l d x
postfix_ready n l d t o x r = record { bounded = r.bounded.1; deep = omega (arith, r.deep); globals = r.globals; labelled = r.labelled }

pub first_ready : (n : ℕ) (l : Layout) (d : ℕ) (t : Ty) (o : BinaryOperator) (x y : TypedExpr) → CanBeEmitted n l d (binary t o x y)
    → CanBeEmitted (n + shortcut_labels (shortcut o)) l d x
first_ready n l d t o x y r = record {
  bounded = grows n (n + shortcut_labels (shortcut o)) l x (omega arith) r.bounded.3;
  deep = omega (arith, r.deep);
  globals = r.globals;
  labelled = omega (arith, r.labelled);
}

pub second_ready : (n : ℕ) (l : Layout) (d : ℕ) (t : Ty) (o : BinaryOperator) (x y : TypedExpr) → CanBeEmitted n l d (binary t o x y)
    → CanBeEmitted (n + shortcut_labels (shortcut o) + labels x) l (d + cells l.structs (type_of x)) y
second_ready n l d t o x y r = record {
  bounded = grows n (n + shortcut_labels (shortcut o) + labels x) l y (omega arith) r.bounded.4;
  deep = omega (arith, r.deep, r.bounded.1.few);
  globals = r.globals;
  labelled = omega (arith, r.labelled);
}

first_few : (b : Bool) (count : ℕ) → cells_first b count ≤ count
first_few true count = omega arith
first_few false count = omega arith

pub value_ready : (n : ℕ) (l : Layout) (d : ℕ) (t : Ty) (o : AssignOperator) (x y : TypedExpr) → CanBeEmitted n l d (assign t o x y)
    → CanBeEmitted n l (d + cells_first (is_set o) (cells l.structs t)) y
value_ready n l d t o x y r = record {
  bounded = r.bounded.2;
  deep = omega (arith, r.deep, r.bounded.0.few, first_few (is_set o) (cells l.structs t));
  globals = r.globals;
  labelled = r.labelled;
}

room_few : (l : Layout) (f : Callee) (t : Ty) → cells l.structs t ≤ struct_cell_limit → length (result_room l f t) ≤ struct_cell_limit
room_few l (InUnit f) t few = few
room_few l (Engine routine) t few = omega arith

pub arguments_ready : (n : ℕ) (l : Layout) (d : ℕ) (t : Ty) (f : Callee) (xs : TypedExprs) (ks : List Const) → CanBeEmitted n l d (call t f xs ks)
    → AreReady n l (d + length (result_room l f t) + length ks) xs
arguments_ready n l d t f xs ks r = record {
  bounded = r.bounded.3;
  deep = omega (arith, r.deep, room_few l f t r.bounded.0.few);
  globals = r.globals;
  labelled = r.labelled;
}

-- ---- arguments, the last one first

pub last_ready : (n : ℕ) (l : Layout) (d : ℕ) (x : TypedExpr) (xs : TypedExprs) → AreReady n l d (more_typed x xs)
    → CanBeEmitted (n + all_labels xs + argument_labels (is_captured x)) l (d + arguments_cells l xs) x
last_ready n l d x xs r = record {
  bounded = grows n (n + all_labels xs + argument_labels (is_captured x)) l x (omega arith) r.bounded.0;
  deep = omega (arith, r.deep, arguments_few n l xs r.bounded.1);
  globals = r.globals;
  labelled = omega (arith, r.labelled);
}

pub rest_ready : (n : ℕ) (l : Layout) (d : ℕ) (x : TypedExpr) (xs : TypedExprs) → AreReady n l d (more_typed x xs) → AreReady n l d xs
rest_ready n l d x xs r = record { bounded = r.bounded.1; deep = omega (arith, r.deep); globals = r.globals; labelled = omega (arith, r.labelled) }

pub drop_ready : (n : ℕ) (l : Layout) (d : ℕ) (xs : List Expression) (i : ℕ) → AreReady n l d (plain_all xs) → AreReady n l d (plain_all (drop i xs))
unfolding plain_all
drop_ready n l d xs zero r = r
drop_ready n l d [] (suc i) r = r
drop_ready n l d (x ∷ xs) (suc i) r = drop_ready n l d xs i (rest_ready n l d (plain x) (plain_all xs) r)

pub drop_weight : (xs : List Expression) (i : ℕ) → all_weight (plain_all (drop i xs)) ≤ all_weight (plain_all xs)
unfolding plain_all
drop_weight xs zero = omega arith
drop_weight [] (suc i) = omega arith
drop_weight (x ∷ xs) (suc i) = omega (arith, drop_weight xs i)

-- the same of a node that is known, with how its parts weigh less

pub at_labels : (n m : ℕ) (l : Layout) (d : ℕ) (x : TypedExpr) → n ≡ m → CanBeEmitted n l d x → CanBeEmitted m l d x
at_labels n m l d x is = subst (λ k. CanBeEmitted k l d x) is

pub captured_ready : (n : ℕ) (l : Layout) (d : ℕ) (x : TypedExpr) → is_captured x ≡ true → CanBeEmitted (n + argument_labels (is_captured x)) l d x → CanBeEmitted (n + 1) l d x
captured_ready n l d x is = subst (λ b. CanBeEmitted (n + argument_labels b) l d x) is

pub plain_ready : (n : ℕ) (l : Layout) (d : ℕ) (x : TypedExpr) → is_captured x ≡ false → CanBeEmitted (n + argument_labels (is_captured x)) l d x → CanBeEmitted n l d x
plain_ready n l d x is r = at_labels (n + 0) n l d x (omega arith) (subst (λ b. CanBeEmitted (n + argument_labels b) l d x) is r)

pub falls_one : (a t : ℕ) → a + 1 ≡ t → a < t
falls_one a t is = omega arith

pub falls_first : (a b t : ℕ) → a + b + 1 ≡ t → a < t
falls_first a b t is = omega arith

pub falls_second : (a b t : ℕ) → a + b + 1 ≡ t → b < t
falls_second a b t is = omega arith

pub falls_both : (a b t : ℕ) → a + b + 2 ≡ t → a + b + 1 < t
falls_both a b t is = omega arith

pub falls_arguments : (a t : ℕ) → a + 3 ≡ t → a + 2 < t
falls_arguments a t is = omega arith

pub member_parts : (n : ℕ) (l : Layout) (d t : ℕ) (the : Expression) (ty : Ty) (x y : Expression) (offset : ℕ) → plain the ≡ member ty (plain x) offset → y ≡ x → weight (plain the) ≡ t
    → CanBeEmitted n l d (plain the) → (weight (plain y) + 1 < t) × (CanBeEmitted n l d (plain y) × (IsType l ty × (IsType l (type_of (plain y)) × (offset ≤ struct_cell_limit))))
member_parts n l d t the ty x y offset is same falls ready =
    let e : plain the ≡ member ty (plain y) offset = is ∙ ap (λ z. member ty (plain z) offset) (sym same) in
    let r = same_ready n l d the (member ty (plain y) offset) e ready in
    let w : weight (plain the) ≡ struct_cell_limit + weight (plain y) = ap weight e in
    (omega arith, (member_ready n l d ty (plain y) offset r, (r.bounded.0, (r.bounded.1, r.bounded.2))))

pub prefix_parts : (n : ℕ) (l : Layout) (d t : ℕ) (the : Expression) (ty : Ty) (o : PrefixOperator) (x y : Expression) → plain the ≡ prefix ty o (plain x) → y ≡ x → weight (plain the) ≡ t
    → CanBeEmitted n l d (plain the) → (weight (plain y) + 1 < t) × CanBeEmitted n l d (plain y)
prefix_parts n l d t the ty o x y is same falls ready =
    let e : plain the ≡ prefix ty o (plain y) = is ∙ ap (λ z. prefix ty o (plain z)) (sym same) in
    let w : weight (plain the) ≡ struct_cell_limit + weight (plain y) = ap weight e in
    (omega arith, prefix_ready n l d ty o (plain y) (same_ready n l d the (prefix ty o (plain y)) e ready))

pub postfix_parts : (n : ℕ) (l : Layout) (d t : ℕ) (the : Expression) (ty : Ty) (o : PostfixOperator) (x y : Expression) → plain the ≡ postfix ty o (plain x) → y ≡ x → weight (plain the) ≡ t
    → CanBeEmitted n l d (plain the) → (weight (plain y) + 1 < t) × CanBeEmitted n l d (plain y)
postfix_parts n l d t the ty o x y is same falls ready =
    let e : plain the ≡ postfix ty o (plain y) = is ∙ ap (λ z. postfix ty o (plain z)) (sym same) in
    let w : weight (plain the) ≡ struct_cell_limit + weight (plain y) = ap weight e in
    (omega arith, postfix_ready n l d ty o (plain y) (same_ready n l d the (postfix ty o (plain y)) e ready))

pub member_is_of : (the : Expression) (ty : Ty) (x y : Expression) (offset : ℕ) → plain the ≡ member ty (plain x) offset → y ≡ x → plain the ≡ member ty (plain y) offset
member_is_of the ty x y offset is same = is ∙ ap (λ z. member ty (plain z) offset) (sym same)

pub prefix_is_of : (the : Expression) (ty : Ty) (o : PrefixOperator) (x y : Expression) → plain the ≡ prefix ty o (plain x) → y ≡ x → plain the ≡ prefix ty o (plain y)
prefix_is_of the ty o x y is same = is ∙ ap (λ z. prefix ty o (plain z)) (sym same)

pub postfix_is_of : (the : Expression) (ty : Ty) (o : PostfixOperator) (x y : Expression) → plain the ≡ postfix ty o (plain x) → y ≡ x → plain the ≡ postfix ty o (plain y)
postfix_is_of the ty o x y is same = is ∙ ap (λ z. postfix ty o (plain z)) (sym same)

pub call_is_of : (the : Expression) (ty : Ty) (f : Callee) (xs given : List Expression) (ks filled : List Const) → plain the ≡ call ty f (plain_all xs) ks → given ≡ xs → filled ≡ ks
    → plain the ≡ call ty f (plain_all given) filled
call_is_of the ty f xs given ks filled is same same-filled =
    is ∙ (ap (λ zs. call ty f (plain_all zs) ks) (sym same) ∙ ap (λ zs. call ty f (plain_all given) zs) (sym same-filled))

pub binary_is_of : (the : Expression) (ty : Ty) (o : BinaryOperator) (x y left right : Expression) → plain the ≡ binary ty o (plain x) (plain y) → left ≡ x → right ≡ y
    → plain the ≡ binary ty o (plain left) (plain right)
binary_is_of the ty o x y left right is e f =
    is ∙ (ap (λ z. binary ty o (plain z) (plain y)) (sym e) ∙ ap (λ z. binary ty o (plain left) (plain z)) (sym f))

pub assign_is_of : (the : Expression) (ty : Ty) (o : AssignOperator) (x y left right : Expression) → plain the ≡ assign ty o (plain x) (plain y) → left ≡ x → right ≡ y
    → plain the ≡ assign ty o (plain left) (plain right)
assign_is_of the ty o x y left right is e f =
    is ∙ (ap (λ z. assign ty o (plain z) (plain y)) (sym e) ∙ ap (λ z. assign ty o (plain left) (plain z)) (sym f))

pub binary_parts : (n : ℕ) (l : Layout) (d t : ℕ) (the : Expression) (ty : Ty) (o : BinaryOperator) (x y : Expression) → plain the ≡ binary ty o (plain x) (plain y) → weight (plain the) ≡ t
    → CanBeEmitted n l d (plain the)
    → (weight (plain x) + weight (plain y) + 2 < t) × ((cells l.structs (type_of (plain x)) ≤ struct_cell_limit) × (IsOperator o (type_of (plain x))
    × (CanBeEmitted (n + shortcut_labels (shortcut o)) l d (plain x)
    × CanBeEmitted (n + shortcut_labels (shortcut o) + labels (plain x)) l (d + cells l.structs (type_of (plain x))) (plain y))))
binary_parts n l d t the ty o x y is falls ready =
    let r = same_ready n l d the (binary ty o (plain x) (plain y)) is ready in
    let w : weight (plain the) ≡ struct_cell_limit + weight (plain x) + weight (plain y) = ap weight is in
    (omega arith, (r.bounded.1.few, (r.bounded.2, (first_ready n l d ty o (plain x) (plain y) r, second_ready n l d ty o (plain x) (plain y) r))))

pub assign_parts : (n : ℕ) (l : Layout) (d t : ℕ) (the : Expression) (ty : Ty) (o : AssignOperator) (x y : Expression) → plain the ≡ assign ty o (plain x) (plain y) → weight (plain the) ≡ t
    → CanBeEmitted n l d (plain the)
    → (weight (plain y) + 1 < t) × (IsType l ty × (CanBeEmitted n l (d + cells_first (is_set o) (cells l.structs ty)) (plain y) × (offsets (plain x) ≤ frame_limit)))
assign_parts n l d t the ty o x y is falls ready =
    let r = same_ready n l d the (assign ty o (plain x) (plain y)) is ready in
    let w : weight (plain the) ≡ struct_cell_limit + weight (plain x) + weight (plain y) = ap weight is in
    (omega arith, (r.bounded.0, (value_ready n l d ty o (plain x) (plain y) r, omega (arith, r.deep, offsets_few n l (plain x) r.bounded.1))))

pub call_parts : (n : ℕ) (l : Layout) (d t : ℕ) (the : Expression) (ty : Ty) (f : Callee) (xs given : List Expression) (ks filled : List Const) → plain the ≡ call ty f (plain_all xs) ks
    → given ≡ xs → filled ≡ ks → weight (plain the) ≡ t → CanBeEmitted n l d (plain the)
    → (all_weight (plain_all given) + 3 < t) × (IsType l ty × (IsCallee n (count_arguments (plain_all given) + length filled) f
    × AreReady n l (d + length (result_room l f ty) + length filled) (plain_all given)))
call_parts n l d t the ty f xs given ks filled is same same-filled falls ready =
    let e : plain the ≡ call ty f (plain_all given) filled =
    is ∙ (ap (λ zs. call ty f (plain_all zs) ks) (sym same) ∙ ap (λ zs. call ty f (plain_all given) zs) (sym same-filled)) in
    let r = same_ready n l d the (call ty f (plain_all given) filled) e ready in
    let w : weight (plain the) ≡ struct_cell_limit + length filled + all_weight (plain_all given) = ap weight e in
    (omega arith, (r.bounded.0, (r.bounded.1, arguments_ready n l d ty f (plain_all given) filled r)))

-- ---- the loop over arguments

pub none_left : (xs : List Expression) → plain_all (drop (length xs) xs) ≡ no_typed
unfolding plain_all
none_left xs = ap plain_all (drop_all (length xs) xs (omega arith))

pub next_left : (xs : List Expression) (i : ℕ) (x : Expression) → 0 < i → i ≤ length xs → x ≡ get_or xs (i - 1) x
    → plain_all (drop (i - 1) xs) ≡ more_typed (plain x) (plain_all (drop i xs))
unfolding plain_all
next_left xs i x some le is =
    at_drop_more plain_all xs (i - 1) x (omega arith)
    ∙ (ap (λ y. more_typed (plain y) (plain_all (drop (i - 1 + 1) xs))) (sym is)
    ∙ ap (λ k. more_typed (plain x) (plain_all (drop k xs))) (omega arith))

pub argument_ready : (n : ℕ) (l : Layout) (d : ℕ) (xs : List Expression) (i : ℕ) (x : Expression) (made depth : ℕ) → AreReady n l d (plain_all xs) → 0 < i → i ≤ length xs → x ≡ get_or xs (i - 1) x
    → made ≡ n + all_labels (plain_all (drop i xs)) → depth ≡ d + arguments_cells l (plain_all (drop i xs))
    → CanBeEmitted (made + argument_labels (is_captured (plain x))) l depth (plain x)
argument_ready n l d xs i x made depth ready some le is made-is depth-is =
    let r = subst (AreReady n l d) (next_left xs i x some le is) (drop_ready n l d xs (i - 1) ready) in
    rw (made-is, depth-is) (last_ready n l d (plain x) (plain_all (drop i xs)) r)

pub argument_falls : (xs : List Expression) (i t : ℕ) (x : Expression) → 0 < i → i ≤ length xs → x ≡ get_or xs (i - 1) x → all_weight (plain_all xs) + 2 ≡ t → weight (plain x) + 1 < t
argument_falls xs i t x some le is falls =
    let e : all_weight (plain_all (drop (i - 1) xs)) ≡ weight (plain x) + all_weight (plain_all (drop i xs)) = ap all_weight (next_left xs i x some le is) in
    omega (arith, drop_weight xs (i - 1))

-- ---- calls

count_is : (xs : List Expression) → count_arguments (plain_all xs) ≡ length xs
unfolding plain_all
count_is [] = refl
count_is (x ∷ xs) = omega (arith, count_is xs)

pub called_ready : (n m : ℕ) (xs : List Expression) (count : ℕ) (f : Callee) → n ≤ m → IsCallee n (count_arguments (plain_all xs) + count) f → IsCallee m (length xs + count) f
called_ready n m xs count f le is = callee_grows n m (length xs + count) f le (subst (λ k. IsCallee n (k + count) f) (count_is xs) is)

pub counted : (xs : List Expression) (count : ℕ) (f : Callee) → call_line f (length xs + count) ≡ call_line f (count_arguments (plain_all xs) + count)
counted xs count f = ap (λ k. call_line f (k + count)) (sym (count_is xs))

-- ---- by the shortcut of an operator

pub short_first : (n : ℕ) (l : Layout) (d : ℕ) (x : TypedExpr) (s k : Shortcut) → s ≡ k → CanBeEmitted (n + shortcut_labels s) l d x → CanBeEmitted (n + shortcut_labels k) l d x
short_first n l d x s k is = subst (λ z. CanBeEmitted (n + shortcut_labels z) l d x) is

pub short_second : (n m : ℕ) (l : Layout) (d : ℕ) (x : TypedExpr) (s k : Shortcut) → s ≡ k → CanBeEmitted (n + shortcut_labels s + m) l d x → CanBeEmitted (n + shortcut_labels k + m) l d x
short_second n m l d x s k is = subst (λ z. CanBeEmitted (n + shortcut_labels z + m) l d x) is

-- ---- the cells of a value that is ready

pub ready_few : (n : ℕ) (l : Layout) (d : ℕ) (x : TypedExpr) (k : ℕ) → CanBeEmitted n l d x → k ≡ cells l.structs (type_of x) → k ≤ struct_cell_limit
ready_few n l d x k ready is = omega (arith, type_few n l x ready.bounded)

pub ready_fits : (n : ℕ) (l : Layout) (d : ℕ) (x : TypedExpr) (k : ℕ) → CanBeEmitted n l d x → k ≡ cells l.structs (type_of x) → d + k < 2 ^ 32
ready_fits n l d x k ready is = omega (arith, ready.deep, ready_few n l d x k ready is)
