-- Arguments and parameters by their number.
use Rattle.std.proofs.Common.{◌≡◌, ℕ, ◌+◌, ◌<◌, if◌then◌else◌, get_or, List, [], ◌∷◌, length, drop, None, Some, refl, sym, ap, ◌∙◌, arith}
use Rattle.std.proofs.lemmas.List.{at_drop_more}
use Rattle.nwq_value.specs.declared.engine.Param.{Param}
use Rattle.typing_rules.specs.declared.expressions.Expression.{Expression}
use Rattle.typing_rules.specs.Reading.{plain, plain_all}
use Rattle.typing_rules.specs.Readings.{plain_all_none, plain_all_more}
use Rattle.typing_rules.specs.Rules.{takes}
use Rattle.typing_rules.specs.Typed.{TypedExprs, no_typed, more_typed, type_of}
use Rattle.expression_reasons.specs.declared.reason.Reason.TheVariants.{Argument}
use Rattle.expression_reasons.specs.Why.{count, untaken}

pub count_is : (xs : List Expression) → count (plain_all xs) ≡ length xs
count_is [] = ap count plain_all_none
count_is (x ∷ xs) = omega (arith, ap count (plain_all_more x xs), count_is xs)

-- ---- from one argument to the next

untaken_step : (n : ℕ) (x : Expression) (xs : List Expression) (p : Param) (ps : List Param)
    → untaken n (plain_all (x ∷ xs)) (p ∷ ps)
    ≡ (if takes p.ty (plain x) then untaken (n + 1) (plain_all xs) ps else Some (Argument (n + 1) (type_of (plain x)) p.ty))
untaken_step n x xs p ps = ap (λ ts. untaken n ts (p ∷ ps)) (plain_all_more x xs)

pub untaken_at : (n : ℕ) (xs : List Expression) (ps : List Param) (i : ℕ) (x : Expression) (p : Param)
    → i < length xs → x ≡ get_or xs i x → i < length ps → p ≡ get_or ps i p
    → untaken n (plain_all (drop i xs)) (drop i ps)
    ≡ (if takes p.ty (plain x) then untaken (n + 1) (plain_all (drop (i + 1) xs)) (drop (i + 1) ps) else Some (Argument (n + 1) (type_of (plain x)) p.ty))
untaken_at n xs ps i x p lx ix lp ip =
    at_drop_more (λ ys. untaken n (plain_all ys) (drop i ps)) xs i x lx
    ∙ (at_drop_more (λ qs. untaken n (plain_all (get_or xs i x ∷ drop (i + 1) xs)) qs) ps i p lp
    ∙ (ap (λ y. untaken n (plain_all (y ∷ drop (i + 1) xs)) (get_or ps i p ∷ drop (i + 1) ps)) (sym ix)
    ∙ (ap (λ q. untaken n (plain_all (x ∷ drop (i + 1) xs)) (q ∷ drop (i + 1) ps)) (sym ip)
    ∙ untaken_step n x (drop (i + 1) xs) p (drop (i + 1) ps))))

pub no_params : (n : ℕ) (ts : TypedExprs) → None ≡ untaken n ts []
no_params n no_typed = refl
no_params n (more_typed t ts) = refl
