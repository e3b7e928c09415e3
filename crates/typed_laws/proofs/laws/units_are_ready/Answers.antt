use Rattle.typed_laws.proofs.Placed.{units_are_ready}
use Rattle.typed_laws.proofs.laws.units_are_ready.Goals as goal

pub returns : goal.returns
returns c = record {
  ready = units_are_ready c.items_are_right.ensures.typed c.numbered_in_order.ensures.numbered c.positions_by_number.ensures.positions c.functions_stand.ensures.stand
      c.roles_tell.ensures.built c.roles_tell.ensures.hooks c.roles_tell.ensures.world;
}
