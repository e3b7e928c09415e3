-- Going over nodes, part by part.
use Rattle.std.proofs.Common.{◌≡◌, ◌∙◌, ◌<◌, ◌≤◌, ◌+◌, ap, sym, refl, subst, Box, Global, ℕ, zero, suc, length, drop, get_or, map, add-one, List, [], ◌∷◌, ◌++◌, slice_get, Option}
use Rattle.nss_tree.specs.declared.places.Seek.{Seek}
use Rattle.nss_tree.specs.declared.places.Seek.TheVariants.{Ahead, Found}
use Rattle.std.proofs.Math.Seq.{drop-cons}
use Rattle.std.proofs.lemmas.List.{drop_all}
use Rattle.std.specs.Option.{option_map}
use Rattle.nss_tree.specs.declared.expressions.Expr.{Expr}
use Rattle.nss_tree.specs.declared.expressions.Expr.TheViews as expr
use Rattle.nss_tree.specs.declared.statements.Stmt.TheViews as stmt
use Rattle.nss_tree.specs.declared.operators.BinaryOperator.{BinaryOperator}
use Rattle.nss_tree.specs.declared.operators.AssignOperator.{AssignOperator}
use Rattle.nss_tree.specs.Readings.{plain_assign, plain_binary, tree_do_loop, tree_for_loop, tree_if_else, tree_if_only, tree_while_loop}
use Rattle.nss_tree.specs.declared.statements.DeclaredName.{DeclaredName}
use Rattle.nss_tree.specs.declared.statements.Stmt.{Stmt}
use Rattle.nss_tree.specs.declared.units.Item.{Item}
use Rattle.nss_tree.specs.declared.units.Tree.{Tree}
use Rattle.nss_tree.specs.Places.{places, places_declared, places_each, places_expr, places_exprs, places_if, places_item, places_stmt, places_stmts}
use Rattle.nss_tree.specs.Reading.{plain_expr, plain_exprs, plain_item, plain_name, plain_names, plain_stmt, plain_stmts, plain_tree, tree_of_stmts}
use Rattle.nss_tree.specs.declared.constants.Constant.{Constant}
use Rattle.nss_tree.specs.declared.constants.TypeName.{TypeName}
use Rattle.nss_tree.specs.Statements.{map_stmt}
use Rattle.nss_tree.specs.Seeking.{passed, sought, token_found}

pub sought_none : (s : Seek) → sought [] s ≡ s
unfolding sought
sought_none s = refl

pub sought_more : (t : ℕ) (ts : List ℕ) (s : Seek) → sought (t ∷ ts) s ≡ sought ts (passed t s)
unfolding sought
sought_more t ts s = refl

pub sought_append : (xs ys : List ℕ) (s : Seek) → sought (xs ++ ys) s ≡ sought ys (sought xs s)
unfolding sought
sought_append [] ys s = refl
sought_append (x ∷ xs) ys s = sought_append xs ys (passed x s)

still_found : (t : ℕ) (xs : List ℕ) → sought xs (Found t) ≡ Found t
unfolding sought
still_found t [] = refl
still_found t (x ∷ xs) = still_found t xs

pub found_is : (xs : List ℕ) (n : ℕ) → token_found (sought xs (Ahead n)) ≡ slice_get xs n
unfolding sought
found_is [] n = refl
found_is (x ∷ xs) zero = rw (still_found x xs) refl
found_is (x ∷ xs) (suc n) = found_is xs n

-- a node with one part, with two, and with three
pub one : (xs : List ℕ) (n : ℕ) (s a b : Seek) → a ≡ passed n s → b ≡ sought xs a → b ≡ sought (n ∷ xs) s
one xs n s a b a-is b-is = b-is ∙ (ap (sought xs) a-is ∙ sym (sought_more n xs s))

two : (all xs ys : List ℕ) (n : ℕ) (s a b c : Seek) → all ≡ n ∷ (xs ++ ys) → a ≡ passed n s → b ≡ sought xs a → c ≡ sought ys b → c ≡ sought all s
two all xs ys n s a b c all-is a-is b-is c-is =
    c-is ∙ (ap (sought ys) (b-is ∙ ap (sought xs) a-is) ∙ (sym (sought_append xs ys (passed n s)) ∙ (sym (sought_more n (xs ++ ys) s) ∙ ap (λ z. sought z s) (sym all-is))))

three : (all xs ys zs : List ℕ) (n : ℕ) (s a b c d : Seek) → all ≡ n ∷ (xs ++ (ys ++ zs)) → a ≡ passed n s → b ≡ sought xs a → c ≡ sought ys b → d ≡ sought zs c → d ≡ sought all s
three all xs ys zs n s a b c d all-is a-is b-is c-is d-is =
    two all xs (ys ++ zs) n s a b d all-is a-is b-is (d-is ∙ (ap (sought zs) c-is ∙ sym (sought_append ys zs b)))

pub one_sought : (the : Expr) (xs : List ℕ) (n : ℕ) (s a b : Seek) → places_expr (plain_expr the) ≡ n ∷ xs → a ≡ passed n s → b ≡ sought xs a
    → b ≡ sought (places_expr (plain_expr the)) s
one_sought the xs n s a b all-is a-is b-is = one xs n s a b a-is b-is ∙ ap (λ z. sought z s) (sym all-is)

pub binary_sought : (the : Expr) (n : ℕ) (o : BinaryOperator) (x y : Box Expr Global) (s a b c : Seek) → the ≡ expr.Binary n o x y → a ≡ passed n s
    → b ≡ sought (places_expr (plain_expr x.value)) a → c ≡ sought (places_expr (plain_expr y.value)) b → c ≡ sought (places_expr (plain_expr the)) s
binary_sought the n o x y s a b c is = two _ _ _ n s a b c (ap places_expr (plain_binary the n o x y is))

pub assign_sought : (the : Expr) (n : ℕ) (o : AssignOperator) (x y : Box Expr Global) (s a b c : Seek) → the ≡ expr.Assign n o x y → a ≡ passed n s
    → b ≡ sought (places_expr (plain_expr x.value)) a → c ≡ sought (places_expr (plain_expr y.value)) b → c ≡ sought (places_expr (plain_expr the)) s
assign_sought the n o x y s a b c is = two _ _ _ n s a b c (ap places_expr (plain_assign the n o x y is))

pub if_else_sought : (the : Stmt Expr Constant TypeName (List ℕ)) (n : ℕ) (x : Expr)
    (y z : Box (Stmt Expr Constant TypeName (List ℕ)) Global) (s a b c d : Seek) → the ≡ stmt.IfElse n x y z
    → a ≡ passed n s
    → b ≡ sought (places_expr (plain_expr x)) a → c ≡ sought (places_stmt (plain_stmt y.value)) b → d ≡ sought (places_stmt (plain_stmt z.value)) c → d ≡ sought (places_stmt (plain_stmt the)) s
if_else_sought the n x y z s a b c d is = three _ _ _ _ n s a b c d (ap (λ s. places_stmt (map_stmt plain_expr s)) (tree_if_else the n x y z is))

pub if_sought : (the : Stmt Expr Constant TypeName (List ℕ)) (n : ℕ) (x : Expr) (y : Box (Stmt Expr Constant TypeName (List ℕ)) Global) (s a b c : Seek) → the ≡ stmt.If n x y → a ≡ passed n s
    → b ≡ sought (places_expr (plain_expr x)) a → c ≡ sought (places_stmt (plain_stmt y.value)) b → c ≡ sought (places_stmt (plain_stmt the)) s
if_sought the n x y s a b c is = two _ _ _ n s a b c (ap (λ s. places_stmt (map_stmt plain_expr s)) (tree_if_only the n x y is))

pub while_sought : (the : Stmt Expr Constant TypeName (List ℕ)) (n : ℕ) (x : Expr) (y : Box (Stmt Expr Constant TypeName (List ℕ)) Global) (s a b c : Seek) → the ≡ stmt.While n x y → a ≡ passed n s
    → b ≡ sought (places_expr (plain_expr x)) a → c ≡ sought (places_stmt (plain_stmt y.value)) b → c ≡ sought (places_stmt (plain_stmt the)) s
while_sought the n x y s a b c is = two _ _ _ n s a b c (ap (λ s. places_stmt (map_stmt plain_expr s)) (tree_while_loop the n x y is))

pub do_sought : (the : Stmt Expr Constant TypeName (List ℕ)) (n : ℕ) (y : Box (Stmt Expr Constant TypeName (List ℕ)) Global) (x : Expr) (s a b c : Seek) → the ≡ stmt.Do n y x → a ≡ passed n s
    → b ≡ sought (places_stmt (plain_stmt y.value)) a → c ≡ sought (places_expr (plain_expr x)) b → c ≡ sought (places_stmt (plain_stmt the)) s
do_sought the n y x s a b c is = two _ _ _ n s a b c (ap (λ s. places_stmt (map_stmt plain_expr s)) (tree_do_loop the n y x is))

pub for_sought : (the : Stmt Expr Constant TypeName (List ℕ)) (n : ℕ) (x y z : Option Expr)
    (body : Box (Stmt Expr Constant TypeName (List ℕ)) Global) (s a b c d e : Seek) → the ≡ stmt.For n x y z body
    → a ≡ passed n s
    → b ≡ sought (places_if places_expr (option_map plain_expr x)) a → c ≡ sought (places_if places_expr (option_map plain_expr y)) b
    → d ≡ sought (places_if places_expr (option_map plain_expr z)) c → e ≡ sought (places_stmt (plain_stmt body.value)) d
    → e ≡ sought (places_stmt (plain_stmt the)) s
for_sought the n x y z body s a b c d e is a-is b-is c-is d-is e-is =
    let last = places_stmt (plain_stmt body.value) in
    let third = places_if places_expr (option_map plain_expr z) in
    three _ _ _ (third ++ last) n s a b c e (ap (λ s. places_stmt (map_stmt plain_expr s)) (tree_for_loop the n x y z body is)) a-is b-is c-is
    (e-is ∙ ap (sought last) d-is ∙ sym (sought_append third last c))

-- the lists of a tree, each by the nodes of one member
pub exprs_each : (xs : List Expr) → places_exprs (plain_exprs xs) ≡ places_each (λ x. places_expr (plain_expr x)) xs
unfolding plain_exprs
exprs_each [] = refl
exprs_each (x ∷ xs) = ap (λ ys. places_expr (plain_expr x) ++ ys) (exprs_each xs)

pub stmts_each : (xs : List (Stmt Expr Constant TypeName (List ℕ))) → places_stmts (plain_stmts xs) ≡ places_each (λ x. places_stmt (plain_stmt x)) xs
unfolding tree_of_stmts
stmts_each [] = refl
stmts_each (x ∷ xs) = ap (λ ys. places_stmt (plain_stmt x) ++ ys) (stmts_each xs)

pub names_each : (xs : List (DeclaredName Expr (List ℕ))) → places_each places_declared (plain_names xs) ≡ places_each (λ x. places_declared (plain_name x)) xs
names_each [] = refl
names_each (x ∷ xs) = ap (λ ys. places_declared (plain_name x) ++ ys) (names_each xs)

pub items_each : (t : Tree Expr Constant TypeName (List ℕ)) → places (plain_tree t) ≡ places_each (λ x. places_item (plain_item x)) t.items
unfolding places
items_each t = each t.items where
  each : (xs : List (Item Expr Constant TypeName (List ℕ))) → places_each places_item (map plain_item xs) ≡ places_each (λ x. places_item (plain_item x)) xs
  each [] = refl
  each (x ∷ xs) = ap (λ ys. places_item (plain_item x) ++ ys) (each xs)

-- a loop over a list: its next member, and its end
pub each_next : {A : Type 0} (f : A → List ℕ) (xs : List A) (i : ℕ) (d : A) (s : Seek) → i < length xs
    → sought (places_each f (drop i xs)) s ≡ sought (places_each f (drop (i + 1) xs)) (sought (f (get_or xs i d)) s)
each_next f xs i d s h = rw (add-one i, drop-cons xs i d h) (sought_append (f (get_or xs i d)) (places_each f (drop (suc i) xs)) s)

-- a part behind a box
pub at_expr : (x y : Expr) (s t : Seek) → x ≡ y → t ≡ sought (places_expr (plain_expr x)) s → t ≡ sought (places_expr (plain_expr y)) s
at_expr x y s t is = subst (λ z. t ≡ sought (places_expr (plain_expr z)) s) is

pub at_stmt : (x y : Stmt Expr Constant TypeName (List ℕ)) (s t : Seek) → x ≡ y → t ≡ sought (places_stmt (plain_stmt x)) s → t ≡ sought (places_stmt (plain_stmt y)) s
at_stmt x y s t is = subst (λ z. t ≡ sought (places_stmt (plain_stmt z)) s) is

-- the invariant of a loop over a list, after one more member
pub each_step : {A : Type 0} (f : A → List ℕ) (xs : List A) (i : ℕ) (x : A) (s t end : Seek) → x ≡ get_or xs i x → i < length xs
    → t ≡ sought (f x) s → sought (places_each f (drop i xs)) s ≡ end → sought (places_each f (drop (i + 1) xs)) t ≡ end
each_step f xs i x s t end is h e before =
    let same : sought (f x) s ≡ sought (f (get_or xs i x)) s = ap (λ y. sought (f y) s) is
    in ap (sought (places_each f (drop (i + 1) xs))) (e ∙ same) ∙ (sym (each_next f xs i x s h) ∙ before)

pub each_end : {A : Type 0} (f : A → List ℕ) (xs : List A) (i : ℕ) (s : Seek) → length xs ≤ i → sought (places_each f (drop i xs)) s ≡ s
each_end f xs i s h = rw (drop_all i xs h) (sought_none s)

-- the walk over all items gives what stands at the number
pub place_is : (t : Tree Expr Constant TypeName (List ℕ)) (n i : ℕ) (s : Seek) → length t.items ≤ i
    → sought (places_each (λ x. places_item (plain_item x)) (drop i t.items)) s ≡ sought (places_each (λ x. places_item (plain_item x)) t.items) (Ahead n)
    → token_found s ≡ slice_get (places (plain_tree t)) n
place_is t n i s past walked =
    ap token_found (sym (each_end (λ x. places_item (plain_item x)) t.items i s past) ∙ (walked ∙ ap (λ xs. sought xs (Ahead n)) (sym (items_each t))))
    ∙ found_is (places (plain_tree t)) n

pub ruleset seek_laws = (sought_none, sought_more, sought_append)
