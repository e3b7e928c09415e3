use Rattle.typed_laws.proofs.Placed.{globals_are_fine}
use Rattle.typed_laws.proofs.laws.globals_are_fine.Goals as goal

pub returns : goal.returns
returns c = record {
  fine = globals_are_fine c.items_are_right.ensures.typed c.numbered_in_order.ensures.numbered c.positions_by_number.ensures.positions c.roles_tell.ensures.built c.roles_tell.ensures.hooks
      c.roles_tell.ensures.world;
}
