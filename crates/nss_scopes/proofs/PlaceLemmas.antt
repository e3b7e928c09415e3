-- An index from names to the first of their places as it grows.
use Rattle.std.proofs.Common.{◌≡◌, ℕ, suc, Bool, true, false, cond, if◌then◌else◌, List, [], ◌∷◌, ◌++◌, length, Option, None, Some, is_some, refl, sym, ap, ◌∙◌}
use Rattle.std.specs.Cmp.Lexicographic.{bytes_decides}
use Rattle.std.specs.Option.{option_map}
use Rattle.std.specs.Str.{bytes_eq}
use Rattle.nwq_value.specs.Index.{first_place, number_under, Puts}
use Rattle.nss_scopes.specs.Places.{HasFirst}

abbrev either : Option ℕ → Option ℕ → Option ℕ
either None o = o
either (Some n) o = Some n

first_more : (x : List ℕ) (names : List (List ℕ)) (name : List ℕ)
    → first_place x (names ++ name ∷ []) ≡ either (first_place x names) (cond (bytes_eq x name) (Some (length names)) None)
first_more x [] name = refl
first_more x (y ∷ ys) name = by (bytes_eq x y) (first_place x ys) (bytes_eq x name) (first_more x ys name)
  where
    by : (b : Bool) (o : Option ℕ) (c : Bool) → first_place x (ys ++ name ∷ []) ≡ either o (cond c (Some (length ys)) None)
        → (if b then Some 0 else option_map suc (first_place x (ys ++ name ∷ [])))
        ≡ either (if b then Some 0 else option_map suc o) (cond c (Some (suc (length ys))) None)
    by true o c h = refl
    by false None true h = rw h refl
    by false None false h = rw h refl
    by false (Some n) c h = rw h refl

-- what is under a name, by its place
at_name : (x name : List ℕ) (names : List (List ℕ)) (index : List (List ℕ × ℕ)) → HasFirst names index → bytes_eq x name ≡ true → number_under name index ≡ first_place x names
at_name x name names index has is = ap (λ y. number_under y index) (sym ((bytes_decides x name).0 is)) ∙ has x

pub first_old : (names : List (List ℕ)) (name : List ℕ) (index : List (List ℕ × ℕ)) → HasFirst names index → is_some (number_under name index) ≡ true
    → HasFirst (names ++ name ∷ []) index
first_old names name index has old x = has x ∙ by (first_place x names) (bytes_eq x name) refl refl ∙ sym (first_more x names name)
  where
    by : (o : Option ℕ) (c : Bool) → first_place x names ≡ o → bytes_eq x name ≡ c → o ≡ either o (cond c (Some (length names)) None)
    by (Some n) c at is = refl
    by None false at is = refl
    by None true at is = let none = at_name x name names index has is ∙ at in absurd cc

pub first_new : (names : List (List ℕ)) (name : List ℕ) (before after : List (List ℕ × ℕ)) → HasFirst names before → number_under name before ≡ None
    → Puts name (Some (length names)) before after → HasFirst (names ++ name ∷ []) after
first_new names name before after has new put x =
    put x ∙ ap (λ o. if bytes_eq x name then Some (length names) else o) (has x) ∙ by (first_place x names) (bytes_eq x name) refl refl ∙ sym (first_more x names name)
  where
    by : (o : Option ℕ) (c : Bool) → first_place x names ≡ o → bytes_eq x name ≡ c → (if c then Some (length names) else o) ≡ either o (cond c (Some (length names)) None)
    by None c at is = refl
    by (Some n) false at is = refl
    by (Some n) true at is = let some = at_name x name names before has is ∙ at in cc
