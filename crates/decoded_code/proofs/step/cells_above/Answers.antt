use Rattle.std.proofs.Common.{Some, ℤ, sym, ap, ◌∙◌, ◌≡◌}
use Rattle.std.specs.Int.{w32}
use Rattle.std.proofs.lemmas.Int.{to_z-of_z}
use Rattle.stack_shape.specs.Ranges.{range_at}
use Rattle.decoded_code.proofs.Offsets.{above_is}
use Rattle.decoded_code.proofs.step.cells_above.Goals as goal

pub returns-in-Some-clause-offset : goal.returns-in-Some-clause-offset
returns-in-Some-clause-offset c =
    let there : range_at c.args.offset 4 ≡ Some c.in-Some.range =
    ap (λ (z : ℤ). range_at z 4) (sym (to_z-of_z w32 c.args.offset c.ranges.offset)) ∙ sym c.range_at.ensures.range ∙ c.in-Some.is in
    above_is c.ranges_of_cells.ensures.no_other c.args.offset c.in-Some.range there
