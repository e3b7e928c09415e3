-- Texts that are short, and variables of which no two have one type and name.
use Rattle.std.proofs.Common.{◌≡◌, ◌<◌, ◌≤◌, ℕ, zero, suc, List, [], ◌∷◌, length, take, get_or, map, ap, refl, ◌∙◌, arith}
use Rattle.std.specs.Prelude.{Bool, true, false, ◌||◌, IsTrue, Result, Ok, Err, IfOk}
use Rattle.std.specs.List.{AllByRecursion, list_any, IsDistinct}
use Rattle.std.proofs.lemmas.Bool.Decides.{nat_tests}
use Rattle.std.proofs.lemmas.List.{take_all}
use Rattle.nwq_value.specs.Limits.{text_limit}
use Rattle.local_variables.specs.Variables.{Variable, same_variable}
use Rattle.local_variables.specs.Laws.{SameIsEquivalence}
use Rattle.state_format.specs.declared.parts.Variable.{Variable as Part}
use Rattle.state_parts.specs.World.{variable_of}
use Rattle.state_parts.specs.ShortTexts.{is_short}

is_within : (text : List ℕ) → IsTrue (is_short text) → length text ≤ text_limit
is_within text short = grind (arith, nat_tests)

-- a short text is kept whole
pub text_whole : {E : Type 0} (r : Result (List ℕ) E) (bytes lent : List ℕ) → IsTrue (is_short bytes) → lent ≡ bytes → IfOk r (λ text. text ≡ take text_limit lent)
    → IfOk r (λ text. text ≡ bytes)
text_whole (Ok text) bytes lent short same is = is ∙ ap (take text_limit) same ∙ take_all text_limit bytes (is_within bytes short)
text_whole (Err e) bytes lent short same is = tt

-- ---- distinct variables

apart_at : (x : Variable) (parts : List Part) (i : ℕ) (part : Part) → AllByRecursion (λ y. same_variable x y ≡ false) (map variable_of parts) → i < length parts → part ≡ get_or parts i part
    → same_variable x (variable_of part) ≡ false
apart_at x [] i part all h at = absurd (omega arith)
apart_at x (p ∷ parts) zero part all h at = ap (λ (q : Part). same_variable x (variable_of q)) at ∙ all.0
apart_at x (p ∷ parts) (suc i) part all h at = apart_at x parts i part all.1 (omega arith) at

pub neither : (a b : Bool) → a ≡ false → b ≡ false → (a || b) ≡ false
neither true b x y = absurd cc
neither false b x y = y

pub none_same : SameIsEquivalence → (parts : List Part) (i : ℕ) (part : Part) → IsDistinct same_variable (map variable_of parts) → i < length parts → part ≡ get_or parts i part
    → list_any (same_variable (variable_of part)) (map variable_of (take i parts)) ≡ false
unfolding IsDistinct
none_same law [] i part distinct h at = absurd (omega arith)
none_same law (p ∷ parts) zero part distinct h at = refl
none_same law (p ∷ parts) (suc i) part distinct h at =
    neither (same_variable (variable_of part) (variable_of p)) (list_any (same_variable (variable_of part)) (map variable_of (take i parts)))
    (law.symm (variable_of part) (variable_of p) ∙ apart_at (variable_of p) parts i part distinct.0 (omega arith) at)
    (none_same law parts i part distinct.1 (omega arith) at)
