-- There is a position for each number, and so the positions by number are the positions in order.
use Rattle.std.proofs.Common.{◌≡◌, ℕ, zero, suc, ◌+◌, List, [], ◌∷◌, ◌++◌, length, map, get_or, arith, refl, ap, sym, ◌∙◌, Option, Some, None, append_assoc}
use Rattle.std.proofs.lemmas.List.{length-append}
use Rattle.nss_tree.specs.Statements.{block, empty, expression, if_only, if_else, while_loop, do_loop, for_loop, switch, break_off, continue_on, return_from, declaration, case_label, default_label}
use Rattle.nss_tree.specs.Statements.{no_stmt, more_stmts}
use Rattle.nss_tree.specs.Units.{structure, constant, global, function}
use Rattle.typing_rules.specs.Typed.{TypedName, TypedStmt, TypedStmts, TypedParameter, TypedItem, TypedUnit}
use Rattle.typing_rules.specs.Numbers.{number_of, number_of_parameter, numbers, all_numbers, body_numbers, item_numbers, items_numbers, numbers_from}
use Rattle.typing_rules.specs.Cells.{Structs, cells}
use Rattle.emission_rules.specs.Layout.{params_cells, declared_cells, item_cells, params_positions, names_positions, positions, all_positions, body_positions, item_positions, items_positions}
use Rattle.emission_rules.specs.Layout.{layout_of, position}

-- ---- as many positions as numbers

names_as_many : (structs : Structs) (d : ℕ) (xs : List TypedName) → length (names_positions structs d xs) ≡ length (map number_of xs)
names_as_many structs d [] = refl
names_as_many structs d (x ∷ xs) = ap suc (names_as_many structs (d + cells structs x.name.ty) xs)

params_as_many : (structs : Structs) (ps : List TypedParameter) → length (params_positions structs ps) ≡ length (map number_of_parameter ps)
params_as_many structs [] = refl
params_as_many structs (p ∷ ps) = ap suc (params_as_many structs ps)

both_as_many : (xs ys ns ms : List ℕ) → length xs ≡ length ns → length ys ≡ length ms → length (xs ++ ys) ≡ length (ns ++ ms)
both_as_many xs ys ns ms f g = omega (arith, length-append xs ys, length-append ns ms)

mutual
  as_many : (structs : Structs) (d : ℕ) (x : TypedStmt) → length (positions structs d x) ≡ length (numbers x)
  as_many structs d (block n xs) = all_as_many structs d xs
  as_many structs d (empty n) = refl
  as_many structs d (expression n x) = refl
  as_many structs d (if_only n x a) = as_many structs d a
  as_many structs d (if_else n x a b) = both_as_many _ _ _ _ (as_many structs d a) (as_many structs d b)
  as_many structs d (while_loop n x a) = as_many structs d a
  as_many structs d (do_loop n a x) = as_many structs d a
  as_many structs d (for_loop n x y z a) = as_many structs d a
  as_many structs d (switch n x xs) = all_as_many structs (d + 1) xs
  as_many structs d (break_off n) = refl
  as_many structs d (continue_on n) = refl
  as_many structs d (return_from n x) = refl
  as_many structs d (declaration n t xs) = names_as_many structs d xs
  as_many structs d (case_label n k) = refl
  as_many structs d (default_label n) = refl

  all_as_many : (structs : Structs) (d : ℕ) (xs : TypedStmts) → length (all_positions structs d xs) ≡ length (all_numbers xs)
  all_as_many structs d no_stmt = refl
  all_as_many structs d (more_stmts x xs) = both_as_many _ _ _ _ (as_many structs d x) (all_as_many structs (d + declared_cells structs x) xs)

body_as_many : (structs : Structs) (d : ℕ) (body : Option TypedStmts) → length (body_positions structs d body) ≡ length (body_numbers body)
body_as_many structs d None = refl
body_as_many structs d (Some xs) = all_as_many structs d xs

item_as_many : (structs : Structs) (g : ℕ) (i : TypedItem) → length (item_positions structs g i) ≡ length (item_numbers i)
item_as_many structs g (structure n x ls) = refl
item_as_many structs g (constant n t x k) = refl
item_as_many structs g (global n t xs) = names_as_many structs g xs
item_as_many structs g (function n t x ps body) = both_as_many _ _ _ _ (params_as_many structs ps) (body_as_many structs (params_cells structs ps) body)

items_as_many : (structs : Structs) (g : ℕ) (is : List TypedItem) → length (items_positions structs g is) ≡ length (items_numbers is)
items_as_many structs g [] = refl
items_as_many structs g (i ∷ is) = both_as_many _ _ _ _ (item_as_many structs g i) (items_as_many structs (g + item_cells structs i) is)

-- ---- a list by its indices

length_from : (n k : ℕ) → length (numbers_from n k) ≡ k
length_from n zero = refl
length_from n (suc k) = ap suc (length_from (n + 1) k)

at_middle : (before behind : List ℕ) (x : ℕ) → get_or (before ++ x ∷ behind) (length before) 0 ≡ x
at_middle [] behind x = refl
at_middle (y ∷ before) behind x = at_middle before behind x

by_index : (before xs : List ℕ) → map (λ n. get_or (before ++ xs) n 0) (numbers_from (length before) (length xs)) ≡ xs
by_index before [] = refl
by_index before (x ∷ xs) =
    let moved : before ++ (x ∷ xs) ≡ (before ++ x ∷ []) ++ xs = sym (append_assoc before (x ∷ []) xs) in
    let next : length before + 1 ≡ length (before ++ x ∷ []) = omega (arith, length-append before (x ∷ [])) in
    let rest : map (λ n. get_or (before ++ (x ∷ xs)) n 0) (numbers_from (length before + 1) (length xs)) ≡ xs =
    ap (λ (all : List ℕ). map (λ n. get_or all n 0) (numbers_from (length before + 1) (length xs))) moved
    ∙ ap (λ m. map (λ n. get_or ((before ++ x ∷ []) ++ xs) n 0) (numbers_from m (length xs))) next
    ∙ by_index (before ++ x ∷ []) xs in
    ap (λ (y : ℕ). y ∷ map (λ n. get_or (before ++ (x ∷ xs)) n 0) (numbers_from (length before + 1) (length xs))) (at_middle before xs x)
    ∙ ap (λ (ys : List ℕ). x ∷ ys) rest

pub positions_are : (t : TypedUnit) (count : ℕ) → items_numbers t.items ≡ numbers_from 0 count → map (position (layout_of t)) (items_numbers t.items) ≡ (layout_of t).positions
positions_are t count is =
    let same : count ≡ length (layout_of t).positions = sym (items_as_many (layout_of t).structs 0 t.items ∙ ap length is ∙ length_from 0 count) in
    ap (map (position (layout_of t))) (is ∙ ap (numbers_from 0) same) ∙ by_index [] (layout_of t).positions
