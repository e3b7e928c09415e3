-- Types and values are equal in at most one way, so a fact about an answer has one proof.
use Rattle.std.specs.Prelude.{◌≡◌, ℕ, ℤ, ◌⊎◌, ◌==◌, if◌then◌else◌, List, Option, refl}
use Rattle.std.proofs.Common.{inl, inr}
use Rattle.std.specs.Coded.{Coded, Coded-set, code_by, coded_option, coded_list, coded_ℕ, coded_ℤ, coded×, coded⊎}
use Rattle.nwq_value.specs.declared.value.Ty.{Ty}
use Rattle.nwq_value.specs.declared.value.Ty.TheVariants as ty
use Rattle.nwq_value.specs.declared.value.Value.{Value}
use Rattle.nwq_value.specs.declared.value.Value.TheVariants.{Int, Text, Object, Effect, Event}

-- ---- a type as two numbers

abbrev pub ty_parts : Ty → ℕ × ℕ
ty_parts ty.Void = (0, 0)
ty_parts ty.Int = (1, 0)
ty_parts ty.Text = (2, 0)
ty_parts ty.Object = (3, 0)
ty_parts ty.Effect = (4, 0)
ty_parts ty.Event = (5, 0)
ty_parts ty.Action = (6, 0)
ty_parts (ty.Struct n) = (7, n)
ty_parts ty.Refused = (8, 0)

abbrev pub ty_of_parts : ℕ × ℕ → Ty
ty_of_parts p =
    if p.0 == 0 then ty.Void else
    (if p.0 == 1 then ty.Int else (if p.0 == 2 then ty.Text else (if p.0 == 3 then ty.Object
    else (if p.0 == 4 then ty.Effect else
    (if p.0 == 5 then ty.Event else (if p.0 == 6 then ty.Action
    else (if p.0 == 7 then ty.Struct p.1 else ty.Refused)))))))

pub ty_back : (t : Ty) → ty_of_parts (ty_parts t) ≡ t
ty_back ty.Void = refl
ty_back ty.Int = refl
ty_back ty.Text = refl
ty_back ty.Object = refl
ty_back ty.Effect = refl
ty_back ty.Event = refl
ty_back ty.Action = refl
ty_back (ty.Struct n) = refl
ty_back ty.Refused = refl

abbrev pub ty_code : Coded Ty
ty_code = code_by (ℕ × ℕ) (coded× coded_ℕ coded_ℕ) ty_parts ty_of_parts ty_back

-- ---- a value as one of five

abbrev pub ValueParts : Type 0
ValueParts = ℤ ⊎ (List ℕ ⊎ (ℕ ⊎ ((ℕ × List ℤ) ⊎ ℤ)))

abbrev pub value_parts : Value → ValueParts
value_parts (Int n) = inl n
value_parts (Text bytes) = inr (inl bytes)
value_parts (Object o) = inr (inr (inl o))
value_parts (Effect e) = inr (inr (inr (inl (e.routine, e.ints))))
value_parts (Event n) = inr (inr (inr (inr n)))

abbrev pub value_of_parts : ValueParts → Value
value_of_parts (inl n) = Int n
value_of_parts (inr (inl bytes)) = Text bytes
value_of_parts (inr (inr (inl o))) = Object o
value_of_parts (inr (inr (inr (inl e)))) = Effect (record { routine = e.0; ints = e.1 })
value_of_parts (inr (inr (inr (inr n)))) = Event n

pub value_back : (v : Value) → value_of_parts (value_parts v) ≡ v
value_back (Int n) = refl
value_back (Text bytes) = refl
value_back (Object o) = refl
value_back (Effect e) = refl
value_back (Event n) = refl

abbrev pub value_code : Coded Value
value_code =
    code_by ValueParts (coded⊎ coded_ℤ
    (coded⊎ (coded_list coded_ℕ)
    (coded⊎ coded_ℕ (coded⊎ (coded× coded_ℕ (coded_list coded_ℤ)) coded_ℤ))))
    value_parts value_of_parts value_back

-- ---- what equations between them are

pub ty_set : (x y : Ty) → IsProp (x ≡ y)
ty_set x y = Coded-set ty_code x y

pub option_value_set : (x y : Option Value) → IsProp (x ≡ y)
option_value_set x y = Coded-set (coded_option value_code) x y

pub ruleset answer_sets = (ty_set, option_value_set)
