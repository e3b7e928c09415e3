-- Going over the marks of an expression that is known.
use Rattle.std.proofs.Common.{◌≡◌, ◌∙◌, ◌<◌, ◌≤◌, ◌+◌, ◌-◌, ap, ap₂, sym, refl, arith, ℕ, Bool, true, false, not, ◌&&◌, cond, List, [], ◌∷◌, ◌++◌, length, take, drop, get_or}
use Rattle.std.proofs.lemmas.List.{take_more}
use Rattle.nss_tree.specs.declared.operators.BinaryOperator.{BinaryOperator}
use Rattle.nss_tree.specs.declared.operators.AssignOperator.{AssignOperator}
use Rattle.nwq_value.specs.declared.value.Ty.{Ty}
use Rattle.ncs_code.specs.Spelling.{op_size}
use Rattle.typing_rules.specs.declared.expressions.Expression.{Expression}
use Rattle.typing_rules.specs.Reading.{plain, plain_all}
use Rattle.typing_rules.specs.Readings.{plain_all_more}
use Rattle.typing_rules.specs.Typed.{TypedExpr, member, binary, assign, type_of, is_place}
use Rattle.typing_rules.specs.Cells.{cells, is_captured}
use Rattle.emission_rules.specs.Layout.{Layout}
use Rattle.emission_rules.specs.Operations.{operation}
use Rattle.emission_rules.specs.Expressions.{shortcut, is_set}
use Rattle.code_places.specs.declared.seek.Seek.{Seek}
use Rattle.code_places.specs.Numbers.{Number, next, behind, behind_all}
use Rattle.code_places.specs.Marks.{mark, mark_if, between, binary_marks, assign_marks, argument_marks, marks, marks_all}
use Rattle.code_places.specs.Seeking.{passed, sought}
use Rattle.code_places.proofs.Loops.{back}
use Rattle.code_places.proofs.Seeking.{last, parts}

pub known : (l : Layout) (k : Number) (the : Expression) (p : TypedExpr) (s t : Seek) → plain the ≡ p → t ≡ sought (marks l k p) s → t ≡ sought (marks l k (plain the)) s
known l k the p s t e h = h ∙ ap (λ z. sought (marks l k z) s) (sym e)

-- a part behind a box, with its number
pub at : (l : Layout) (k j : Number) (x y : Expression) (s t : Seek) → x ≡ y → k ≡ j → t ≡ sought (marks l k (plain x)) s → t ≡ sought (marks l j (plain y)) s
at l k j x y s t e f h = h ∙ ap₂ (λ n z. sought (marks l n (plain z)) s) f e

pub there : (x y : Expression) (b : Bool) → b ≡ is_place (plain x) → x ≡ y → b ≡ is_place (plain y)
there x y b e f = e ∙ ap (λ z. is_place (plain z)) f

pub member_read : (l : Layout) (k : Number) (ty : Ty) (p : TypedExpr) (n : ℕ) (s t : Seek) → true ≡ is_place p → t ≡ passed (mark 8 k) s
    → t ≡ sought (marks l k (member ty p n)) s
member_read l k ty p n s t e h = last s (mark 8 k) h ∙ ap (λ b. sought (cond b [] (marks l (next k) p) ++ mark 8 k ∷ []) s) e

pub member_cut : (l : Layout) (k : Number) (ty : Ty) (p : TypedExpr) (n : ℕ) (s a t : Seek) → false ≡ is_place p → a ≡ sought (marks l (next k) p) s → t ≡ passed (mark 8 k) a
    → t ≡ sought (marks l k (member ty p n)) s
member_cut l k ty p n s a t e f h =
    parts s (marks l (next k) p) (mark 8 k ∷ []) f (last a (mark 8 k) h) ∙ ap (λ b. sought (cond b [] (marks l (next k) p) ++ mark 8 k ∷ []) s) e

pub binary_gone : (l : Layout) (k : Number) (ty : Ty) (o : BinaryOperator) (x y : TypedExpr) (size : ℕ) (s a b d t : Seek)
    → size ≡ op_size (operation o (type_of x) (cells l.structs (type_of x)))
    → a ≡ sought (marks l (next k) x) s → b ≡ sought (between k (shortcut o) size) a → d ≡ sought (marks l (behind (next k) x) y) b → t ≡ passed (mark size k) d
    → t ≡ sought (marks l k (binary ty o x y)) s
binary_gone l k ty o x y size s a b d t is e f g h =
    parts s (marks l (next k) x) (between k (shortcut o) size ++ (marks l (behind (next k) x) y ++ mark size k ∷ [])) e
    (parts a (between k (shortcut o) size) (marks l (behind (next k) x) y ++ mark size k ∷ []) f
    (parts b (marks l (behind (next k) x) y) (mark size k ∷ []) g (last d (mark size k) h)))
    ∙ ap (λ n. sought (binary_marks k (shortcut o) n (marks l (next k) x) (marks l (behind (next k) x) y)) s) is

pub assign_gone : (l : Layout) (k : Number) (ty : Ty) (o : AssignOperator) (x y : TypedExpr) (set place : Bool) (s a b d t : Seek)
    → set ≡ is_set o → place ≡ is_place x
    → a ≡ sought (mark_if (not set && place) 8 k) s → b ≡ sought (marks l (behind (next k) x) y) a → d ≡ sought (mark_if (not set) 2 k) b → t ≡ sought (mark_if place 8 k) d
    → t ≡ sought (marks l k (assign ty o x y)) s
assign_gone l k ty o x y set place s a b d t u v e f g h =
    parts s (mark_if (not set && place) 8 k) (marks l (behind (next k) x) y ++ (mark_if (not set) 2 k ++ mark_if place 8 k)) e
    (parts a (marks l (behind (next k) x) y) (mark_if (not set) 2 k ++ mark_if place 8 k) f
    (parts b (mark_if (not set) 2 k) (mark_if place 8 k) g h))
    ∙ ap₂ (λ m n. sought (assign_marks k m n (marks l (behind (next k) x) y)) s) u v

pub argument_gone : (l : Layout) (of k : Number) (x : TypedExpr) (captured : Bool) (s a b d t : Seek)
    → captured ≡ is_captured x
    → a ≡ sought (mark_if captured 10 of) s → b ≡ sought (mark_if captured 6 of) a → d ≡ sought (marks l k x) b → t ≡ sought (mark_if captured 2 of) d
    → t ≡ sought (argument_marks of (is_captured x) (marks l k x)) s
argument_gone l of k x captured s a b d t u e f g h =
    parts s (mark_if captured 10 of) (mark_if captured 6 of ++ (marks l k x ++ mark_if captured 2 of)) e
    (parts a (mark_if captured 6 of) (marks l k x ++ mark_if captured 2 of) f (parts b (marks l k x) (mark_if captured 2 of) g h))
    ∙ ap (λ n. sought (argument_marks of n (marks l k x)) s) u

-- ---- arguments

behind_one_more : (k : Number) (xs : List Expression) (x : Expression) → behind_all k (plain_all (xs ++ x ∷ [])) ≡ behind (behind_all k (plain_all xs)) (plain x)
unfolding plain_all
behind_one_more k [] x = refl
behind_one_more k (y ∷ xs) x = behind_one_more (behind k (plain y)) xs x

behind_taken : (k : Number) (xs : List Expression) (i : ℕ) (x : Expression) → x ≡ get_or xs (i - 1) x → 0 < i → i ≤ length xs
    → behind_all k (plain_all (take i xs)) ≡ behind (behind_all k (plain_all (take (i - 1) xs))) (plain x)
behind_taken k xs i x is more le =
    let e : i ≡ i - 1 + 1 = omega (arith, more) in
    ap (λ j. behind_all k (plain_all (take j xs))) e
    ∙ (ap (λ ys. behind_all k (plain_all ys)) (take_more xs (i - 1) x (omega (arith, more, le)) ∙ ap (λ y. take (i - 1) xs ++ y ∷ []) (sym is))
    ∙ behind_one_more k (take (i - 1) xs) x)

pub argument_step : (l : Layout) (of k n : Number) (xs : List Expression) (i : ℕ) (x : Expression) (s now after : Seek) → x ≡ get_or xs (i - 1) x → 0 < i → i ≤ length xs
    → n ≡ behind_all k (plain_all (take (i - 1) xs))
    → now ≡ sought (marks_all l of (behind_all k (plain_all (take i xs))) (plain_all (drop i xs))) s
    → after ≡ sought (argument_marks of (is_captured (plain x)) (marks l n (plain x))) now
    → after ≡ sought (marks_all l of (behind_all k (plain_all (take (i - 1) xs))) (plain_all (drop (i - 1) xs))) s
argument_step l of k n xs i x s now after is more le number before put =
    let first = behind_all k (plain_all (take (i - 1) xs)) in
    parts s (marks_all l of (behind first (plain x)) (plain_all (drop i xs))) (argument_marks of (is_captured (plain x)) (marks l first (plain x)))
    (before ∙ ap (λ j. sought (marks_all l of j (plain_all (drop i xs))) s) (behind_taken k xs i x is more le))
    (put ∙ ap (λ j. sought (argument_marks of (is_captured (plain x)) (marks l j (plain x))) now) number)
    ∙ (ap (λ ys. sought (marks_all l of first ys) s) (sym (plain_all_more x (drop i xs)))
    ∙ sym (back (λ ys. sought (marks_all l of first (plain_all ys)) s) xs i x is more le))
