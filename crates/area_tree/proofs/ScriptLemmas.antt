-- The place of the first script under a label.
use Rattle.std.proofs.Common.{◌≡◌, ◌<◌, ◌+◌, ℕ, zero, suc, Bool, true, false, cond, if◌then◌else◌, List, [], ◌∷◌, ◌++◌, length, take, slice_get, get_or, Option, None, Some, is_some, refl, sym, ap}
use Rattle.std.proofs.Common.{◌∙◌, arith}
use Rattle.std.specs.Cmp.Lexicographic.{bytes_decides}
use Rattle.std.specs.Option.{option_map}
use Rattle.std.specs.Str.{bytes_eq}
use Rattle.nwq_value.specs.Index.{number_under, Puts}
use Rattle.area_rules.specs.Area.{script_named}
use Rattle.area_rules.specs.Objects.{Script}
use Rattle.area_tree.specs.Scripts.{script_place, HasFirst, place_or, NotesFirst}

abbrev pub name_in : Option Script → List ℕ
name_in None = []
name_in (Some script) = script.name

abbrev pub name_at : Option ℕ → List Script → List ℕ
name_at None scripts = []
name_at (Some place) scripts = name_in (slice_get scripts place)

-- what stands at the place is what is named
pub named : (label : List ℕ) (scripts : List Script) → name_at (script_place label scripts) scripts ≡ script_named label scripts
named label [] = refl
named label (s ∷ scripts) = by (bytes_eq label s.label) (script_place label scripts) (named label scripts)
  where
    by : (b : Bool) (o : Option ℕ) → name_at o scripts ≡ script_named label scripts
        → name_at (if b then Some 0 else option_map suc o) (s ∷ scripts)
        ≡ (if b then s.name else script_named label scripts)
    by true o e = refl
    by false None e = e
    by false (Some i) e = e

-- what stands at the place under a label is what is named
pub found_name : (label : List ℕ) (scripts : List Script) (index : List (List ℕ × ℕ)) (place : ℕ) (o : Option Script)
    → HasFirst scripts index → Some place ≡ number_under label index → o ≡ slice_get scripts place
    → name_in o ≡ script_named label scripts
found_name label scripts index place o has some at = ap name_in at ∙ ap (λ p. name_at p scripts) (some ∙ has label) ∙ named label scripts

pub no_name : (label : List ℕ) (scripts : List Script) (index : List (List ℕ × ℕ)) → HasFirst scripts index → None ≡ number_under label index → [] ≡ script_named label scripts
no_name label scripts index has none = ap (λ p. name_at p scripts) (none ∙ has label) ∙ named label scripts

place_more : (x : List ℕ) (scripts : List Script) (s : Script) → script_place x (scripts ++ s ∷ []) ≡ place_or (script_place x scripts) (cond (bytes_eq x s.label) (Some (length scripts)) None)
place_more x [] s = refl
place_more x (y ∷ ys) s = by (bytes_eq x y.label) (script_place x ys) (bytes_eq x s.label) (place_more x ys s)
  where
    by : (b : Bool) (o : Option ℕ) (c : Bool) → script_place x (ys ++ s ∷ []) ≡ place_or o (cond c (Some (length ys)) None)
        → (if b then Some 0 else option_map suc (script_place x (ys ++ s ∷ []))) ≡ place_or (if b then Some 0 else option_map suc o) (cond c (Some (suc (length ys))) None)
    by true o c h = refl
    by false None true h = rw h refl
    by false None false h = rw h refl
    by false (Some n) c h = rw h refl

-- one script more is noted
pub first_next : (scripts : List Script) (i : ℕ) (s : Script) (old new : List (List ℕ × ℕ)) → i < length scripts
    → s ≡ get_or scripts i s → HasFirst (take i scripts) old → NotesFirst s.label i old new
    → HasFirst (take (i + 1) scripts) new
first_next scripts i s old new lt at has notes x =
    notes x ∙ ap (λ o. place_or o (if bytes_eq x s.label then Some i else None)) (has x)
    ∙ ap (λ n. place_or (script_place x (take i scripts)) (cond (bytes_eq x s.label) (Some n) None)) (sym (as_long scripts i lt))
    ∙ sym (place_more x (take i scripts) s) ∙ ap (script_place x) (sym (ap (λ n. take n scripts) next ∙ one_taken scripts i lt (sym at)))
  where
    next : i + 1 ≡ suc i
    next = omega arith

    as_long : {X : Type 0} (xs : List X) (k : ℕ) → k < length xs → length (take k xs) ≡ k
    as_long [] k below = absurd (omega (arith, below))
    as_long (y ∷ ys) zero below = refl
    as_long (y ∷ ys) (suc k) below = ap suc (as_long ys k (omega (arith, below)))

    one_taken : (xs : List Script) (k : ℕ) → k < length xs → get_or xs k s ≡ s → take (suc k) xs ≡ take k xs ++ s ∷ []
    one_taken [] k below here = absurd (omega (arith, below))
    one_taken (y ∷ ys) zero below here = ap (λ z. z ∷ []) here
    one_taken (y ∷ ys) (suc k) below here = ap (λ zs. y ∷ zs) (one_taken ys k (omega (arith, below)) here)

-- a list without scripts
pub none_there : (all scripts : List Script) → all ≡ scripts → length all ≡ 0 → [] ≡ scripts
none_there [] scripts is none = is
none_there (s ∷ all) scripts is none = absurd (omega (arith, none))
