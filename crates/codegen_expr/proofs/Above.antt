-- Places that are at most so high.
use Rattle.std.proofs.Common.{◌≡◌, ℕ, ◌≤◌, ◌<◌, ap, arith}
use Rattle.nwq_value.specs.declared.value.Ty.{Ty}
use Rattle.typing_rules.specs.declared.expressions.Expression.{Expression}
use Rattle.typing_rules.specs.Reading.{plain}
use Rattle.typing_rules.specs.Typed.{member}
use Rattle.emission_rules.specs.Bounds.{frame_limit, weight}
use Rattle.codegen_expr.specs.declared.places.Home.{Home}
use Rattle.codegen_expr.specs.declared.places.Home.TheVariants.{Frame, Globals}
use Rattle.codegen_expr.specs.Parts.{IsAbove, offsets}

pub above_more : (n m : ℕ) (home : Home) → n ≤ m → IsAbove n home → IsAbove m home
above_more n m (Frame at) le above = omega (arith, le, above)
above_more n m (Globals at) le above = omega (arith, le, above)

pub member_near : (the : Expression) (ty : Ty) (x y : Expression) (offset : ℕ) → plain the ≡ member ty (plain x) offset → y ≡ x → offsets (plain the) ≤ frame_limit
    → offsets (plain y) ≤ frame_limit
member_near the ty x y offset is same near = omega (arith, ap offsets is, ap (λ (z : Expression). offsets (plain z)) same, near)

pub member_falls : (the : Expression) (ty : Ty) (x y : Expression) (offset t : ℕ) → plain the ≡ member ty (plain x) offset → y ≡ x → weight (plain the) ≡ t → weight (plain y) < t
member_falls the ty x y offset t is same falls = omega (arith, ap weight is, ap (λ (z : Expression). weight (plain z)) same, falls)
