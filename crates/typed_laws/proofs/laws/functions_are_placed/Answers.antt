use Rattle.typed_laws.proofs.Placed.{functions_are_placed}
use Rattle.typed_laws.proofs.laws.functions_are_placed.Goals as goal

pub returns : goal.returns
returns c = record {
  placed = functions_are_placed c.items_are_right.ensures.typed c.numbered_in_order.ensures.numbered c.positions_by_number.ensures.positions c.functions_stand.ensures.stand
      c.roles_tell.ensures.built c.roles_tell.ensures.hooks c.roles_tell.ensures.world;
}
