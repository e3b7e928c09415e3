use Rattle.std.proofs.Common.{refl}
use Rattle.message_tokens.proofs.GoingOn.{behind_items, if_ok_map, rest_sound}
use Rattle.message_tokens.proofs.listing.able_in_unit.Goals as goal

pub able_behind-requires-clause-sound : goal.able_behind-requires-clause-sound
able_behind-requires-clause-sound c = rest_sound c.in_ok-count.count c.args.symbols.now c.args.symbols.now refl c.requires.sound

pub returns : goal.returns
returns c = record {
  lists =
      if_ok_map c.able_behind.result _ _
      (λ listed lists before same walked. lists before
      (behind_items c.args.walk.now c.in_ok-count.count c.args.symbols.now _ before refl same walked c.in_ok-count.ensures.within c.in_ok-count.ensures.items))
      c.able_behind.ensures.lists;
}
