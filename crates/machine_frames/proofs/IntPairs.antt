-- Two ints that are compared.
use Rattle.std.proofs.Common.{◌≡◌, ◌≢◌, ℕ, List, [], ◌∷◌, Some, None, Bool, true, false, ap, ◌∙◌, refl}
use Rattle.std.specs.Prelude.{◌&&◌, not}
use Rattle.std.specs.Ordering.{int_eq}
use Rattle.nwq_value.specs.declared.value.Ty.TheVariants.{Int as IntTy}
use Rattle.nwq_value.specs.declared.value.Value.TheVariants.{Int, Text, Object, Effect, Event}
use Rattle.nwq_value.specs.Roles.{ty_eq, tys_eq}
use Rattle.nwq_value.specs.Operators.{as_int, value_eq}
use Rattle.saved_state.specs.declared.cell.Cell.{Cell}
use Rattle.saved_state.specs.declared.cell.Cell.TheVariants.{Value as Holds, Base}
use Rattle.stack_shape.specs.StackEffects.{type_of_both}
use Rattle.machine_rules.specs.Act.{compared}
use Rattle.machine_rules.specs.Cells.{of_ints, pair_compared}
use Rattle.machine_frames.specs.Operations.{equal_ints}
use Rattle.machine_frames.specs.Tops.{answer_of}

and_true : (b : Bool) → (b && true) ≡ b
and_true true = refl
and_true false = refl

-- a pair of ints gives what the operation of two ints gives
pub ints_compared : (answer : Bool → Bool) (cells : List Cell) → pair_compared answer (Some IntTy) cells ≡ of_ints (equal_ints answer) cells
unfolding tys_eq ty_eq value_eq
ints_compared answer [] = refl
ints_compared answer (Base bp ∷ cells) = refl
ints_compared answer (Holds (Int y) ∷ []) = refl
ints_compared answer (Holds (Int y) ∷ Base bp ∷ cells) = refl
ints_compared answer (Holds (Int y) ∷ Holds (Int x) ∷ cells) = ap (λ (b : Bool). Some (Holds (Int (as_int (answer b))) ∷ cells)) (and_true (int_eq y x))
ints_compared answer (Holds (Int y) ∷ Holds (Text t) ∷ cells) = refl
ints_compared answer (Holds (Int y) ∷ Holds (Object o) ∷ cells) = refl
ints_compared answer (Holds (Int y) ∷ Holds (Effect e) ∷ cells) = refl
ints_compared answer (Holds (Int y) ∷ Holds (Event n) ∷ cells) = refl
ints_compared answer (Holds (Text t) ∷ []) = refl
ints_compared answer (Holds (Text t) ∷ Base bp ∷ cells) = refl
ints_compared answer (Holds (Text t) ∷ Holds v ∷ cells) = refl
ints_compared answer (Holds (Object o) ∷ []) = refl
ints_compared answer (Holds (Object o) ∷ Base bp ∷ cells) = refl
ints_compared answer (Holds (Object o) ∷ Holds v ∷ cells) = refl
ints_compared answer (Holds (Effect e) ∷ []) = refl
ints_compared answer (Holds (Effect e) ∷ Base bp ∷ cells) = refl
ints_compared answer (Holds (Effect e) ∷ Holds v ∷ cells) = refl
ints_compared answer (Holds (Event n) ∷ []) = refl
ints_compared answer (Holds (Event n) ∷ Base bp ∷ cells) = refl
ints_compared answer (Holds (Event n) ∷ Holds v ∷ cells) = refl

pub ints_case : (answer : Bool → Bool) (cells : List Cell) → pair_compared answer (Some IntTy) cells ≢ None → of_ints (equal_ints answer) cells ≢ None
ints_case answer cells h none = h (ints_compared answer cells ∙ none)

-- the same, by the answer's name
pub same_is : (negated : Bool) (cells : List Cell) → negated ≡ false → pair_compared (answer_of negated) (Some IntTy) cells ≡ of_ints (equal_ints (λ b. b)) cells
same_is negated cells e = ap (λ (b : Bool). pair_compared (answer_of b) (Some IntTy) cells) e ∙ ints_compared (λ b. b) cells

pub differs_is : (negated : Bool) (cells : List Cell) → negated ≡ true → pair_compared (answer_of negated) (Some IntTy) cells ≡ of_ints (equal_ints not) cells
differs_is negated cells e = ap (λ (b : Bool). pair_compared (answer_of b) (Some IntTy) cells) e ∙ ints_compared not cells

pub ruleset pair_lemmas = (ints_compared, ints_case, same_is, differs_is)

-- an instruction whose type byte says that it is of ints
pub kind_is : (answer : Bool → Bool) (kind size : ℕ) (cells : List Cell) → kind ≡ 0x20 → compared answer kind size cells ≡ pair_compared answer (Some IntTy) cells
unfolding type_of_both
kind_is answer kind size cells e = ap (λ (k : ℕ). compared answer k size cells) e

pub kind_case : (answer : Bool → Bool) (kind size : ℕ) (cells : List Cell) → kind ≡ 0x20 → compared answer kind size cells ≢ None → pair_compared answer (Some IntTy) cells ≢ None
kind_case answer kind size cells e h none = h (kind_is answer kind size cells e ∙ none)

pub ruleset kind_lemmas = (kind_is, kind_case)
