-- Ranges by numbers of bytes, and types that are their own equals. No contract speaks of these
-- lemmas: they serve the proofs here and of the code's shapes.
use Rattle.std.proofs.Common.{arith, ◌≡◌, ◌≤◌, ◌<◌, ◌+◌, ◌-◌, ◌*◌, ◌/◌, ◌%◌, cond, ltb, ℕ, zero, suc, List, [], ◌∷◌, Some, Bool, true, false, ◌∙◌, ap, refl}
use Rattle.std.specs.Prelude.{pos, negsuc, ◌-ℤ◌}
use Rattle.std.proofs.lemmas.Bool.Decides.{nat_tests, Decides-eqb}
use Rattle.nwq_value.specs.declared.value.Ty.{Ty}
use Rattle.nwq_value.specs.declared.value.Ty.TheVariants.{Void, Int as IntTy, Text as TextTy, Object as ObjectTy, Effect as EffectTy, Event as EventTy, Action, Struct, Refused}
use Rattle.nwq_value.specs.Roles.{ty_eq, tys_eq}
use Rattle.stack_shape.specs.Ranges.{cell_count, depth_of, range_of, range_at}
use Rattle.emission_rules.specs.Operations.{beneath, bytes_of}

-- ---- ranges

if_cells : (m : ℕ) → m % 4 ≡ 0 → cell_count m ≡ Some (m / 4)
unfolding cell_count
if_cells m h = rw h

pub count_of : (n : ℕ) → cell_count (bytes_of n) ≡ Some n
count_of n = if_cells (4 * n) (omega arith) ∙ ap Some (omega arith)

difference_depth : (a b : ℕ) (t : Bool) → ltb a b ≡ t → a ≤ b
    → depth_of (cond t (negsuc (b - suc a)) (pos (a - b))) ≡ cell_count (b - a)
unfolding depth_of
difference_depth a b true is h = let less : a < b = grind (arith, nat_tests, is) in let e : suc
    (b - suc a) ≡ b - a = omega arith in ap cell_count e
difference_depth a b false is h =
    let more : b ≤ a = grind (arith, nat_tests, is) in
    let none : a - b ≡ 0 = omega arith in
    let same : 0 ≡ b - a = omega arith in
    ap (λ n. depth_of (pos n)) none ∙ ap cell_count same

down : (m : ℕ) → depth_of (pos 0 -ℤ pos m) ≡ cell_count m
unfolding depth_of
down zero = refl
down (suc k) = let whole : suc k - 0
    ≡ suc k = omega arith in difference_depth 0 (suc k) (ltb 0 (suc k)) refl (omega arith)
    ∙ ap cell_count whole

pub depth_beneath : (n : ℕ) → depth_of (beneath n) ≡ Some n
depth_beneath n = down (4 * n) ∙ count_of n

inside : (depth count : ℕ) → 0 < count → count ≤ depth
    → range_of depth count ≡ Some (record { above = depth - count; count = count })
unfolding range_of
inside depth count h k = grind (arith, nat_tests)

-- the range of so many cells with so many above them
pub range_there : (depth above count : ℕ) → 0 < count → above + count ≡ depth
    → range_at (beneath depth) (bytes_of count) ≡ Some (record { above = above; count = count })
unfolding range_at
range_there depth above count h e =
    rw (depth_beneath depth, count_of count)
    (inside depth count h (omega (arith, e))
    ∙ ap (λ (n : ℕ). Some (record { above = n; count = count })) (omega (arith, e)))

-- ---- types

pub ty_same : (t : Ty) → ty_eq t t ≡ true
unfolding ty_eq
ty_same Void = refl
ty_same IntTy = refl
ty_same TextTy = refl
ty_same ObjectTy = refl
ty_same EffectTy = refl
ty_same EventTy = refl
ty_same Action = refl
ty_same (Struct n) = (Decides-eqb n n).1 refl
ty_same Refused = refl

pub tys_same : (ts : List Ty) → tys_eq ts ts ≡ true
unfolding tys_eq
tys_same [] = refl
tys_same (t ∷ ts) = rw (ty_same t) (tys_same ts)
