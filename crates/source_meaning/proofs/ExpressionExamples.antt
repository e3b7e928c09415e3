-- What single expressions give, change and take: each operator, both sides of `&&` and `||`, every
-- assignment. The expected values and counts are worked out by hand. The local `n` holds 7 before
-- each of them, the global `g` 40, and ten steps may be taken.
use Rattle.std.proofs.Common.{◌≡◌, refl, ℕ, pos, negsuc, List, [], ◌∷◌, ◌++◌, ◌-◌}
use Rattle.std.specs.Prelude.{codes}
use Rattle.std.specs.Fmt.{digits}
use Rattle.nss_tree.specs.declared.operators.PrefixOperator.{PrefixOperator}
use Rattle.nss_tree.specs.declared.operators.PrefixOperator.TheVariants as pre
use Rattle.nss_tree.specs.declared.operators.PostfixOperator.TheVariants as post
use Rattle.nss_tree.specs.declared.operators.BinaryOperator.TheVariants as bin
use Rattle.nss_tree.specs.declared.operators.AssignOperator.TheVariants as asg
use Rattle.nwq_value.specs.Header.{header_routines}
use Rattle.nwq_value.specs.HeaderTable.{header_table}
use Rattle.nwq_value.specs.Operators.{value_eq}
use Rattle.nwq_value.specs.declared.value.Ty.TheVariants as t
use Rattle.nwq_value.specs.declared.engine.Const.TheVariants as c
use Rattle.nwq_value.specs.declared.value.Value.{Value}
use Rattle.nwq_value.specs.declared.value.Value.TheVariants.{Int, Text}
use Rattle.typing_rules.specs.declared.places.Callee.TheVariants.{Engine}
use Rattle.typing_rules.specs.Typed.{TypedExpr}
use Rattle.typing_rules.specs.Typed as e
use Rattle.world_rules.specs.Engine.{engine}
use Rattle.world_rules.specs.World.{World}
use Rattle.source_meaning.specs.Evaluation.{Deferred, Outcome, Gives, Divides, OutOfSteps, bind, spend}
use Rattle.source_meaning.specs.Expressions.{eval}
use Rattle.source_meaning.specs.Scripts.{no_functions}
use Rattle.source_meaning.proofs.Trees.{args, int, text, local, global, two, assign, print, delay, here, begun}

-- ---- how it is told

-- its value, what `n` and `g` hold then, and the steps that it took; of a division by zero no value
abbrev seen : Outcome (List Value) → List Value × ℕ
seen (Gives v p) = (v ++ (p.locals 0 ++ p.globals 0), 10 - p.left)
seen (Divides self p) = (p.locals 0 ++ p.globals 0, 10 - p.left)
seen (OutOfSteps p) = ([], 99)

abbrev told : World Deferred → TypedExpr → List Value × ℕ
told w x = seen (eval here no_functions (0 ∷ []) x (begun w))

abbrev n : TypedExpr
n = local 0

abbrev g : TypedExpr
g = global 0

abbrev zero_divided : TypedExpr
zero_divided = two bin.Divide (int 1) (int 0)

abbrev one : PrefixOperator → TypedExpr → TypedExpr
one o x = e.prefix t.Int o x

-- ---- operators

-- two literals and the operator are three steps
sums : (w : World Deferred) → (told w (two bin.Add (int 7) (int 2)) ≡ (Int (pos 9) ∷ Int (pos 7) ∷ Int (pos 40) ∷ [], 3))
    × (told w (two bin.Subtract (int 2) (int 7)) ≡ (Int (negsuc 4) ∷ Int (pos 7) ∷ Int (pos 40) ∷ [], 3))
    × (told w (two bin.Multiply (int 7) (int 2)) ≡ (Int (pos 14) ∷ Int (pos 7) ∷ Int (pos 40) ∷ [], 3))
    × (told w (two bin.Divide (int 7) (int 2)) ≡ (Int (pos 3) ∷ Int (pos 7) ∷ Int (pos 40) ∷ [], 3))
    × (told w (two bin.Remainder (int 7) (int 2)) ≡ (Int (pos 1) ∷ Int (pos 7) ∷ Int (pos 40) ∷ [], 3))
unfolding bind spend
sums w = (refl, refl, refl, refl, refl)

bits : (w : World Deferred) → (told w (two bin.BitAnd (int 12) (int 10)) ≡ (Int (pos 8) ∷ Int (pos 7) ∷ Int (pos 40) ∷ [], 3))
    × (told w (two bin.BitOr (int 12) (int 10)) ≡ (Int (pos 14) ∷ Int (pos 7) ∷ Int (pos 40) ∷ [], 3))
    × (told w (two bin.BitXor (int 12) (int 10)) ≡ (Int (pos 6) ∷ Int (pos 7) ∷ Int (pos 40) ∷ [], 3))
    × (told w (two bin.ShiftLeft (int 3) (int 2)) ≡ (Int (pos 12) ∷ Int (pos 7) ∷ Int (pos 40) ∷ [], 3))
    × (told w (two bin.ShiftRight (one pre.Minus (int 8)) (int 1)) ≡ (Int (negsuc 3) ∷ Int (pos 7) ∷ Int (pos 40) ∷ [], 4))
    × (told w (two bin.UnsignedShiftRight (one pre.Minus (int 1)) (int 31)) ≡ (Int (pos 1) ∷ Int (pos 7) ∷ Int (pos 40) ∷ [], 4))
unfolding bind spend
bits w = (refl, refl, refl, refl, refl, refl)

tests : (w : World Deferred) → (told w (two bin.Equal n (int 7)) ≡ (Int (pos 1) ∷ Int (pos 7) ∷ Int (pos 40) ∷ [], 3))
    × (told w (two bin.NotEqual n (int 7)) ≡ (Int (pos 0) ∷ Int (pos 7) ∷ Int (pos 40) ∷ [], 3))
    × (told w (two bin.Less n g) ≡ (Int (pos 1) ∷ Int (pos 7) ∷ Int (pos 40) ∷ [], 3))
    × (told w (two bin.LessOrEqual g n) ≡ (Int (pos 0) ∷ Int (pos 7) ∷ Int (pos 40) ∷ [], 3))
    × (told w (two bin.Greater n n) ≡ (Int (pos 0) ∷ Int (pos 7) ∷ Int (pos 40) ∷ [], 3))
    × (told w (two bin.GreaterOrEqual n n) ≡ (Int (pos 1) ∷ Int (pos 7) ∷ Int (pos 40) ∷ [], 3))
unfolding bind spend value_eq
tests w = (refl, refl, refl, refl, refl, refl)

texts : (w : World Deferred) → (told w (e.binary t.Text bin.Add (text "ab") (text "c")) ≡ (Text (codes "abc") ∷ Int (pos 7) ∷ Int (pos 40) ∷ [], 3))
    × (told w (two bin.Equal (text "ab") (text "ab")) ≡ (Int (pos 1) ∷ Int (pos 7) ∷ Int (pos 40) ∷ [], 3))
    × (told w (two bin.NotEqual (text "ab") (text "a")) ≡ (Int (pos 1) ∷ Int (pos 7) ∷ Int (pos 40) ∷ [], 3))
unfolding bind spend value_eq
texts w = (refl, refl, refl)

signs : (w : World Deferred) → (told w (one pre.Minus n) ≡ (Int (negsuc 6) ∷ Int (pos 7) ∷ Int (pos 40) ∷ [], 2))
    × (told w (one pre.Complement n) ≡ (Int (negsuc 7) ∷ Int (pos 7) ∷ Int (pos 40) ∷ [], 2))
    × (told w (one pre.Not n) ≡ (Int (pos 0) ∷ Int (pos 7) ∷ Int (pos 40) ∷ [], 2))
    × (told w (one pre.Not (int 0)) ≡ (Int (pos 1) ∷ Int (pos 7) ∷ Int (pos 40) ∷ [], 2))
unfolding bind spend
signs w = (refl, refl, refl, refl)

-- the two operands have had their steps, and the division has none
divisions : (w : World Deferred) → (told w zero_divided ≡ (Int (pos 7) ∷ Int (pos 40) ∷ [], 2))
    × (told w (two bin.Remainder (int 1) (int 0)) ≡ (Int (pos 7) ∷ Int (pos 40) ∷ [], 2))
    × (told w (assign asg.Divide n (int 0)) ≡ (Int (pos 7) ∷ Int (pos 40) ∷ [], 2))
unfolding bind spend
divisions w = (refl, refl, refl)

-- ---- `&&` and `||`

-- What decides alone leaves the other side out, its division, its change and its steps; else the
-- other side decides. Both give 0 or 1.
ands : (w : World Deferred) → (told w (two bin.And (int 0) zero_divided) ≡ (Int (pos 0) ∷ Int (pos 7) ∷ Int (pos 40) ∷ [], 2))
    × (told w (two bin.And (int 0) (e.postfix t.Int post.Increment n)) ≡ (Int (pos 0) ∷ Int (pos 7) ∷ Int (pos 40) ∷ [], 2))
    × (told w (two bin.And (int 5) (e.postfix t.Int post.Increment n)) ≡ (Int (pos 1) ∷ Int (pos 8) ∷ Int (pos 40) ∷ [], 3))
    × (told w (two bin.And (e.postfix t.Int post.Increment n) (int 0)) ≡ (Int (pos 0) ∷ Int (pos 8) ∷ Int (pos 40) ∷ [], 3))
    × (told w (two bin.And (int 5) zero_divided) ≡ (Int (pos 7) ∷ Int (pos 40) ∷ [], 3))
unfolding bind spend
ands w = (refl, refl, refl, refl, refl)

ors : (w : World Deferred) → (told w (two bin.Or (int 5) zero_divided) ≡ (Int (pos 1) ∷ Int (pos 7) ∷ Int (pos 40) ∷ [], 2))
    × (told w (two bin.Or (int 5) (e.postfix t.Int post.Increment n)) ≡ (Int (pos 1) ∷ Int (pos 7) ∷ Int (pos 40) ∷ [], 2))
    × (told w (two bin.Or (int 0) (e.postfix t.Int post.Increment n)) ≡ (Int (pos 1) ∷ Int (pos 8) ∷ Int (pos 40) ∷ [], 3))
    × (told w (two bin.Or (int 0) (int 0)) ≡ (Int (pos 0) ∷ Int (pos 7) ∷ Int (pos 40) ∷ [], 3))
    × (told w (two bin.Or (int 0) zero_divided) ≡ (Int (pos 7) ∷ Int (pos 40) ∷ [], 3))
unfolding bind spend
ors w = (refl, refl, refl, refl, refl)

-- ---- assignments

steps_in_place : (w : World Deferred) → (told w (one pre.Increment n) ≡ (Int (pos 8) ∷ Int (pos 8) ∷ Int (pos 40) ∷ [], 1))
    × (told w (one pre.Decrement g) ≡ (Int (pos 39) ∷ Int (pos 7) ∷ Int (pos 39) ∷ [], 1))
    × (told w (e.postfix t.Int post.Increment n) ≡ (Int (pos 7) ∷ Int (pos 8) ∷ Int (pos 40) ∷ [], 1))
    × (told w (e.postfix t.Int post.Decrement g) ≡ (Int (pos 40) ∷ Int (pos 7) ∷ Int (pos 39) ∷ [], 1))
unfolding bind spend
steps_in_place w = (refl, refl, refl, refl)

-- `=` has its value and itself; every other assignment reads its place first, before its value
-- changes it
assignments : (w : World Deferred) → (told w (assign asg.Set n g) ≡ (Int (pos 40) ∷ Int (pos 40) ∷ Int (pos 40) ∷ [], 2))
    × (told w (assign asg.Add g (int 5)) ≡ (Int (pos 45) ∷ Int (pos 7) ∷ Int (pos 45) ∷ [], 3))
    × (told w (assign asg.Subtract g n) ≡ (Int (pos 33) ∷ Int (pos 7) ∷ Int (pos 33) ∷ [], 3))
    × (told w (assign asg.Add n (e.postfix t.Int post.Increment n)) ≡ (Int (pos 14) ∷ Int (pos 14) ∷ Int (pos 40) ∷ [], 3))
    × (told w (assign asg.Add n (assign asg.Add n (int 1))) ≡ (Int (pos 15) ∷ Int (pos 15) ∷ Int (pos 40) ∷ [], 5))
unfolding bind spend
assignments w = (refl, refl, refl, refl, refl)

combined_assignments : (w : World Deferred) → (told w (assign asg.Multiply n (int 2)) ≡ (Int (pos 14) ∷ Int (pos 14) ∷ Int (pos 40) ∷ [], 3))
    × (told w (assign asg.Divide n (int 2)) ≡ (Int (pos 3) ∷ Int (pos 3) ∷ Int (pos 40) ∷ [], 3))
    × (told w (assign asg.Remainder n (int 4)) ≡ (Int (pos 3) ∷ Int (pos 3) ∷ Int (pos 40) ∷ [], 3))
    × (told w (assign asg.BitAnd n (int 3)) ≡ (Int (pos 3) ∷ Int (pos 3) ∷ Int (pos 40) ∷ [], 3))
    × (told w (assign asg.BitOr n (int 8)) ≡ (Int (pos 15) ∷ Int (pos 15) ∷ Int (pos 40) ∷ [], 3))
    × (told w (assign asg.BitXor n (int 1)) ≡ (Int (pos 6) ∷ Int (pos 6) ∷ Int (pos 40) ∷ [], 3))
    × (told w (assign asg.ShiftLeft n (int 2)) ≡ (Int (pos 28) ∷ Int (pos 28) ∷ Int (pos 40) ∷ [], 3))
    × (told w (assign asg.ShiftRight n (int 1)) ≡ (Int (pos 3) ∷ Int (pos 3) ∷ Int (pos 40) ∷ [], 3))
    × (told w (assign asg.UnsignedShiftRight n (int 1)) ≡ (Int (pos 3) ∷ Int (pos 3) ∷ Int (pos 40) ∷ [], 3))
unfolding bind spend
combined_assignments w = (refl, refl, refl, refl, refl, refl, refl, refl, refl)

-- ---- calls

-- the argument and the call, twice; the string, the default and the call; the delay, the captured
-- command, whose own value is never asked for, and the call
calls : (w : World Deferred) → (told w (print n) ≡ (Int (pos 7) ∷ Int (pos 40) ∷ [], 2))
    × (told w (e.call t.Text (Engine 29) (args (int 3 ∷ [])) []) ≡ (Text (codes "3") ∷ Int (pos 7) ∷ Int (pos 40) ∷ [], 2))
    × (told w (e.call t.Void (Engine 13) (args (text "a" ∷ [])) (c.Int (pos 0) ∷ [])) ≡ (Int (pos 7) ∷ Int (pos 40) ∷ [], 3))
    × (told w (delay (int 5) (print zero_divided)) ≡ (Int (pos 7) ∷ Int (pos 40) ∷ [], 3))
unfolding bind spend engine header_table header_routines digits
calls w = (refl, refl, refl, refl)
