-- Maps from names: what is under each name once something was put or taken out.
use Rattle.std.proofs.Common.{◌≡◌, ◌≢◌, ℕ, Bool, true, false, cond, List, Option, Some, None, refl, sym, ap, subst, ◌∙◌}
use Rattle.std.proofs.lemmas.Cmp.{nat_list_cmp_total}
use Rattle.std.proofs.lemmas.Map.Text.{is_eq-slice_cmp}
use Rattle.std.specs.Cmp.Lexicographic.{slice_cmp, bytes_decides}
use Rattle.std.specs.FinMap.{FinMap, get, insert, remove, get-insert, get-remove}
use Rattle.std.specs.Ordering.{nat_cmp}
use Rattle.std.specs.Str.{bytes_eq}

true_not_false : (false ≡ true) → ⊥
true_not_false e = subst (λ b. cond b ⊥ (Unit {0})) e tt

pub not_taken : {A : Type 0} (b : Bool) (x y : A) → b ≢ true → cond b x y ≡ y
not_taken true x y apart = absurd (apart refl)
not_taken false x y apart = refl

pub apart_of : (q name : List ℕ) → q ≢ name → bytes_eq q name ≢ true
apart_of q name apart same = apart ((bytes_decides q name).0 same)

pub same_of : (name : List ℕ) → bytes_eq name name ≡ true
same_of name = (bytes_decides name name).1 refl

pub taken : {A : Type 0} (b : Bool) (x y : A) → b ≡ true → cond b x y ≡ x
taken true x y is = refl
taken false x y is = absurd (true_not_false is)

module _ {X : Type 0} (m : FinMap (slice_cmp nat_cmp) X) (name : List ℕ) where
  pub get_put : (v : X) (q : List ℕ) → get (insert m name v) q ≡ cond (bytes_eq q name) (Some v) (get m q)
  get_put v q = get-insert nat_list_cmp_total m name v q ∙ ap (λ b. cond b (Some v) (get m q)) (is_eq-slice_cmp q name)

  pub get_out : (q : List ℕ) → get (remove m name) q ≡ cond (bytes_eq q name) None (get m q)
  get_out q = get-remove nat_list_cmp_total m name q ∙ ap (λ b. cond b None (get m q)) (is_eq-slice_cmp q name)
