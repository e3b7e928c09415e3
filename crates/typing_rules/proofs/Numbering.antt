-- The variables of a typed tree are numbered in a row.
use Rattle.std.proofs.Common.{◌≡◌, ◌∙◌, refl, sym, ap, ℕ, zero, suc, ◌+◌, Bool, true, false, ap₂, List, [], ◌∷◌, ◌++◌, map, length, Option, None, Some, is_some, option_and_then, arith, zero-add}
use Rattle.std.proofs.Common.{add-zero}
use Rattle.std.proofs.lemmas.Option.{none-some, same_Some}
use Rattle.nss_tree.specs.Statements as stmt
use Rattle.nss_tree.specs.Units as item
use Rattle.nss_tree.specs.Counts.{variables_in, variables_in_all, variables_in_body, variables_of, in_all}
use Rattle.nss_tree.specs.Source.{SourceDeclared, SourceStmt, SourceStmts, SourceItem, SourceParameter}
use Rattle.nwq_value.specs.declared.value.Ty.{Ty}
use Rattle.typing_rules.specs.Typed.{TypedName, TypedStmt, TypedStmts, TypedParameter, TypedItem}
use Rattle.typing_rules.specs.Nodes.{There, absent, present}
use Rattle.typing_rules.specs.Sight.{Head, Meant, Signature, Sight, scope_entered, inside, looped, switched, declared, value_type, any_type}
use Rattle.typing_rules.specs.Rules.{when, parameter_of, head_of, TypedHead}
use Rattle.typing_rules.specs.Verdicts.{after, afters, after_then, after_names, after_params, after_body, after_item, line_type, parameter_declared, in_function, in_body}
use Rattle.typing_rules.specs.Meaning.{TypesNames, TypesStmt, TypesStmts, TypesParams, TypesItem, TypesItems}
use Rattle.typing_rules.specs.Meaning as rules
use Rattle.typing_rules.specs.Numbers.{number_of, number_of_parameter, numbers, all_numbers, body_numbers, item_numbers, items_numbers, numbers_from, NumberedInOrder}

-- ---- rows of numbers

pub from_add : (n j k : ℕ) → numbers_from n (j + k) ≡ numbers_from n j ++ numbers_from (n + j) k
from_add n zero k = rw (zero-add k, add-zero n) refl
from_add n (suc j) k = ap (numbers_from n) (shift j k) ∙ ap (λ (xs : List ℕ). n ∷ xs) (from_add (n + 1) j k ∙ ap (λ (m : ℕ). numbers_from (n + 1) j ++ numbers_from m k) (moved n j))
  where
    shift : (a b : ℕ) → suc a + b ≡ suc (a + b)
    shift a b = omega arith

    moved : (a b : ℕ) → a + 1 + b ≡ a + suc b
    moved a b = omega arith

-- two rows, one behind the other
rows_join : (n j k m : ℕ) (xs ys : List ℕ) → xs ≡ numbers_from n j → ys ≡ numbers_from m k → m ≡ n + j → xs ++ ys ≡ numbers_from n (j + k)
rows_join n j k m xs ys d e f = rw (d, e, f) (sym (from_add n j k))

-- ---- how many variables a statement declares

names_next : (c : Sight) (t : Option Ty) (ds : List SourceDeclared) → (after_names c t ds).next ≡ c.next + length ds
names_next c t [] = sym (add-zero c.next)
names_next c t (d ∷ ds) = names_next (declared c d.name t) t ds ∙ one_more c.next (length ds)
  where
    one_more : (a b : ℕ) → a + 1 + b ≡ a + suc b
    one_more a b = omega arith

third : (a b c d : ℕ) → b ≡ a + c → b + d ≡ a + (c + d)
third a b c d e = omega (arith, e)

mutual
  pub stmt_next : (c : Sight) (x : SourceStmt) → (after c x).next ≡ c.next + variables_in x
  stmt_next c (stmt.block n xs) = stmts_next (scope_entered c) xs
  stmt_next c (stmt.empty n) = sym (add-zero c.next)
  stmt_next c (stmt.expression n x) = sym (add-zero c.next)
  stmt_next c (stmt.if_only n x a) = stmt_next (inside c) a
  stmt_next c (stmt.if_else n x a b) =
      stmt_next (after_then c a) b ∙ third c.next (after (inside c) a).next (variables_in a) (variables_in b) (stmt_next (inside c) a)
  stmt_next c (stmt.while_loop n x a) = stmt_next (looped c) a
  stmt_next c (stmt.do_loop n a x) = stmt_next (looped c) a
  stmt_next c (stmt.for_loop n x y z a) = stmt_next (looped c) a
  stmt_next c (stmt.switch n x xs) = stmts_next (switched c) xs
  stmt_next c (stmt.break_off n) = sym (add-zero c.next)
  stmt_next c (stmt.continue_on n) = sym (add-zero c.next)
  stmt_next c (stmt.return_from n x) = sym (add-zero c.next)
  stmt_next c (stmt.declaration n t ds) = names_next c (line_type c.structs t) ds
  stmt_next c (stmt.case_label n k) = sym (add-zero c.next)
  stmt_next c (stmt.default_label n) = sym (add-zero c.next)

  pub stmts_next : (c : Sight) (xs : SourceStmts) → (afters c xs).next ≡ c.next + variables_in_all xs
  stmts_next c stmt.no_stmt = sym (add-zero c.next)
  stmts_next c (stmt.more_stmts x xs) =
      stmts_next (after c x) xs ∙ third c.next (after c x).next (variables_in x) (variables_in_all xs) (stmt_next c x)

params_next : (c : Sight) (ps : List SourceParameter) → (after_params c ps).next ≡ c.next + length ps
params_next c [] = sym (add-zero c.next)
params_next c (p ∷ ps) = params_next (parameter_declared c p) ps ∙ one_more c.next (length ps)
  where
    one_more : (a b : ℕ) → a + 1 + b ≡ a + suc b
    one_more a b = omega arith

pub body_next : (c : Sight) (body : Option SourceStmts) → (after_body c body).next ≡ c.next + variables_in_body body
body_next c None = sym (add-zero c.next)
body_next c (Some xs) = stmts_next c xs

pub item_next : (c : Sight) (i : SourceItem) → (after_item c i).next ≡ c.next + variables_of i
item_next c (item.structure n x ls) = sym (add-zero c.next)
item_next c (item.constant n t x k) = sym (add-zero c.next)
item_next c (item.global n t ds) = names_next c (line_type c.structs t) ds
item_next c (item.function n t x ps body) =
    body_next (in_body c t ps) body ∙ third c.next (in_body c t ps).next (length ps) (variables_in_body body) (params_next (in_function c t) ps)

-- ---- numbers of typed nodes

when_is : {A : Type 0} (b : Bool) (x y : A) → when b x ≡ Some y → x ≡ y
when_is true x y e = same_Some _ _ e
when_is false x y e = absurd (none-some y e)

names_numbers : {hs : List Head} {c : Sight} {t : Option Ty} {ds : List SourceDeclared} {us : List TypedName} → TypesNames hs c t ds us
    → map number_of us ≡ numbers_from c.next (length ds)
names_numbers (rules.TypesNames.none c t) = refl
names_numbers (rules.TypesNames.more c t {ds = ds} {u = u} {us = us} h i) =
    ap₂ (λ (m : ℕ) (ms : List ℕ). m ∷ ms) (sym (ap number_of (when_is _ _ u h.gives))) (names_numbers i)

mutual
  pub stmt_numbers : {hs : List Head} {c : Sight} {x : SourceStmt} {s : TypedStmt} → TypesStmt hs c x s → numbers s ≡ numbers_from c.next (variables_in x)
  stmt_numbers (rules.TypesStmt.block c n h) = stmts_numbers h
  stmt_numbers (rules.TypesStmt.empty c n) = refl
  stmt_numbers (rules.TypesStmt.expression c n h) = refl
  stmt_numbers (rules.TypesStmt.if_only c n {s = s} h i g) = sym (ap numbers (when_is _ _ s g)) ∙ stmt_numbers i
  stmt_numbers (rules.TypesStmt.if_else c n {a = a} {b = b} {u = u} {v = v} {s = s} h i j g) =
      sym (ap numbers (when_is _ _ s g))
      ∙ rows_join c.next (variables_in a) (variables_in b) (after_then c a).next (numbers u) (numbers v) (stmt_numbers i) (stmt_numbers j) (stmt_next (inside c) a)
  stmt_numbers (rules.TypesStmt.while_loop c n {s = s} h i g) = sym (ap numbers (when_is _ _ s g)) ∙ stmt_numbers i
  stmt_numbers (rules.TypesStmt.do_loop c n {s = s} h i g) = sym (ap numbers (when_is _ _ s g)) ∙ stmt_numbers h
  stmt_numbers (rules.TypesStmt.for_loop c n {s = s} h i j k g) = sym (ap numbers (when_is _ _ s g)) ∙ stmt_numbers k
  stmt_numbers (rules.TypesStmt.switch c n {s = s} h i g) = sym (ap numbers (when_is _ _ s g)) ∙ stmts_numbers i
  stmt_numbers (rules.TypesStmt.break_off c n {s = s} g) = sym (ap numbers (when_is _ _ s g))
  stmt_numbers (rules.TypesStmt.continue_on c n {s = s} g) = sym (ap numbers (when_is _ _ s g))
  stmt_numbers (rules.TypesStmt.return_from c n {s = s} h i g) = sym (ap numbers (when_is _ _ s g))
  stmt_numbers (rules.TypesStmt.declaration c n t h i) = names_numbers i
  stmt_numbers (rules.TypesStmt.case_label c n {s = s} h g) = sym (ap numbers (when_is _ _ s g))
  stmt_numbers (rules.TypesStmt.default_label c n {s = s} g) = sym (ap numbers (when_is _ _ s g))

  pub stmts_numbers : {hs : List Head} {c : Sight} {xs : SourceStmts} {ts : TypedStmts} → TypesStmts hs c xs ts
      → all_numbers ts ≡ numbers_from c.next (variables_in_all xs)
  stmts_numbers (rules.TypesStmts.none c) = refl
  stmts_numbers (rules.TypesStmts.more c {x = x} {xs = xs} {t = t} {ts = ts} h i) =
      rows_join c.next (variables_in x) (variables_in_all xs) (after c x).next (numbers t) (all_numbers ts) (stmt_numbers h) (stmts_numbers i) (stmt_next c x)

then_is : {A B : Type 0} (f : A → Option B) (o : Option A) (b : B) → option_and_then f o ≡ Some b → (a : A) × (f a ≡ Some b)
then_is f None b e = absurd (none-some b e)
then_is f (Some a) b e = (a, e)

params_numbers : {c : Sight} {late : Bool} {ps : List SourceParameter} {ts : List TypedParameter} → TypesParams c late ps ts
    → map number_of_parameter ts ≡ numbers_from c.next (length ps)
params_numbers (rules.TypesParams.none c late) = refl
params_numbers (rules.TypesParams.more c late {p = p} {t = t} h i) =
    let v = then_is (parameter_of c late p h.typed.1) (value_type h.typed.0) t h.gives in
    ap₂ (λ (m : ℕ) (ms : List ℕ). m ∷ ms) (sym (ap number_of_parameter (when_is _ _ t v.1))) (params_numbers i)

body_numbers_are : {hs : List Head} {c : Sight} {body : Option SourceStmts} {t : Option TypedStmts} → There (TypesStmts hs c) body t
    → body_numbers t ≡ numbers_from c.next (variables_in_body body)
body_numbers_are absent = refl
body_numbers_are (present h) = stmts_numbers h

-- the parameters of a typed head
head_params : (c : Sight) (x : List ℕ) (b : Bool) (p : List TypedParameter × Meant × Option Signature) (h : TypedHead)
    → option_and_then (λ t. head_of c x b p.2 (record { params = p.0; result = t })) (any_type p.1) ≡ Some h → p.0 ≡ h.params
head_params c x b p h e =
    let v = then_is (λ t. head_of c x b p.2 (record { params = p.0; result = t })) (any_type p.1) h e in
    ap (λ (g : TypedHead). g.params) (when_is _ _ h v.1)

item_numbers_are : {hs : List Head} {c : Sight} {i : SourceItem} {t : TypedItem} → TypesItem hs c i t → item_numbers t ≡ numbers_from c.next (variables_of i)
item_numbers_are (rules.TypesItem.structure n x h) = refl
item_numbers_are (rules.TypesItem.constant n t x k h) = refl
item_numbers_are (rules.TypesItem.global n t h i) = names_numbers i
item_numbers_are {c = c} (rules.TypesItem.function n t x ps body {u = u} h) =
    let head = h.parts.0 in
    let params = sym (ap (map number_of_parameter) (head_params c x (is_some body) head.typed h.typed.0 head.gives)) ∙ params_numbers head.parts.0 in
    sym (ap item_numbers (when_is _ _ u h.gives))
    ∙ rows_join c.next (length ps) (variables_in_body body) (in_body c t ps).next _ _ params (body_numbers_are h.parts.1) (params_next (in_function c t) ps)

items_numbers_are : {hs : List Head} {c : Sight} {is : List SourceItem} {ts : List TypedItem} → TypesItems hs c is ts
    → items_numbers ts ≡ numbers_from c.next (in_all variables_of is)
items_numbers_are (rules.TypesItems.none c) = refl
items_numbers_are (rules.TypesItems.more c {i = i} {is = is} {t = t} {ts = ts} h k) =
    rows_join c.next (variables_of i) (in_all variables_of is) (after_item c i).next (item_numbers t) (items_numbers ts) (item_numbers_are h) (items_numbers_are k) (item_next c i)

pub numbered_in_order : NumberedInOrder
numbered_in_order table u t h = items_numbers_are h.items
