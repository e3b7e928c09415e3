-- The values of a switch's cases as they grow.
use Rattle.std.proofs.Common.{◌≡◌, ℤ, Bool, true, false, cond, if◌then◌else◌, List, [], ◌∷◌, ◌++◌, refl, sym, ap, ◌∙◌, int_eq}
use Rattle.std.specs.Cmp.{int_eq_equiv}
use Rattle.std.specs.HashSet.{HashSet, contains, Updates}
use Rattle.typing_rules.specs.Rules.{is_among_ints}
use Rattle.nss_scopes.specs.Cases.{HasCases}

among_more : (v : ℤ) (ws : List ℤ) (w : ℤ) → is_among_ints v (ws ++ w ∷ []) ≡ (if int_eq v w then true else is_among_ints v ws)
among_more v [] w = refl
among_more v (k ∷ ks) w = by (int_eq v k) (int_eq v w) (among_more v ks w)
  where
    by : (b c : Bool) → is_among_ints v (ks ++ w ∷ []) ≡ (if c then true else is_among_ints v ks)
        → (if b then true else is_among_ints v (ks ++ w ∷ [])) ≡ (if c then true else if b then true else is_among_ints v ks)
    by true true h = refl
    by true false h = refl
    by false c h = h

pub cases_more : {S : Type 0} (cases : List ℤ) (seen after : HashSet ℤ S) (w : ℤ) → HasCases cases seen.keys → Updates int_eq seen after w true → HasCases (cases ++ w ∷ []) after.keys
cases_more cases seen after w has put v =
    put.0 v ∙ ap (λ b. cond b true (contains int_eq seen v)) (int_eq_equiv.symm w v) ∙ ap (λ b. if int_eq v w then true else b) (has v) ∙ sym (among_more v cases w)
