use Rattle.std.proofs.Common.{◌≡◌, ◌↔◌, IsTrue, Bool, true, false, refl, sym, ap, subst, true≢false, List, [], ◌∷◌, ◌||◌, eqb-true, eq-eqb}
use Rattle.std.specs.List.{list_any}
use Rattle.nwq_value.specs.declared.engine.Param.{Param}
use Rattle.nwq_value.specs.declared.value.Ty.{Ty}
use Rattle.nwq_value.specs.declared.value.Ty.TheVariants.{Void, Int, Text, Object, Effect, Event, Action, Struct, Refused}
use Rattle.nwq_value.specs.Roles.{ty_eq, is_barred_type, types_of}

-- a test of the parameters' types is a test of the parameters
pub any_barred_type : (params : List Param) → list_any is_barred_type (types_of params) ≡ list_any (λ p. is_barred_type p.ty) params
any_barred_type [] = refl
any_barred_type (p ∷ ps) = ap (λ b. is_barred_type p.ty || b) (any_barred_type ps)

-- the test of two types tells whether they are equal
pub ty_eq-same : (a b : Ty) → ty_eq a b ≡ true → a ≡ b
unfolding ty_eq
ty_eq-same Void Void e = refl
ty_eq-same Int Int e = refl
ty_eq-same Text Text e = refl
ty_eq-same Object Object e = refl
ty_eq-same Effect Effect e = refl
ty_eq-same Event Event e = refl
ty_eq-same Action Action e = refl
ty_eq-same (Struct m) (Struct n) e = ap Struct (eqb-true m n e)
ty_eq-same Refused Refused e = refl
ty_eq-same _ _ e = absurd (true≢false (sym e))

pub ty_eq-refl : (a : Ty) → ty_eq a a ≡ true
unfolding ty_eq
ty_eq-refl (Struct n) = eq-eqb n n refl
ty_eq-refl Void = refl
ty_eq-refl Int = refl
ty_eq-refl Text = refl
ty_eq-refl Object = refl
ty_eq-refl Effect = refl
ty_eq-refl Event = refl
ty_eq-refl Action = refl
ty_eq-refl Refused = refl

pub told_ty : (a b : Ty) (r : Bool) → (IsTrue r ↔ (a ≡ b)) → r ≡ ty_eq a b
told_ty a b true h = sym (subst (λ x. ty_eq a x ≡ true) (h.0 refl) (ty_eq-refl a))
told_ty a b false h = by (ty_eq a b) refl
  where
    by : (t : Bool) → ty_eq a b ≡ t → false ≡ t
    by false e = refl
    by true e = absurd (true≢false (sym (h.1 (ty_eq-same a b e))))
