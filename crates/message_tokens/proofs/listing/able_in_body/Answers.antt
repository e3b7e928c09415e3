use Rattle.std.proofs.Common.{refl}
use Rattle.message_tokens.proofs.GoingOn.{if_ok_map, rest_sound}
use Rattle.message_tokens.proofs.Bodies.{behind_body}
use Rattle.message_tokens.proofs.listing.able_in_body.Goals as goal

pub in_body-requires : goal.in_body-requires
in_body-requires c = record { sound = rest_sound c.args.cut c.args.symbols.now c.args.symbols.now refl c.requires.sound }

pub returns : goal.returns
returns c = record {
  lists =
      if_ok_map c.able_behind.result _ _
      (λ listed lists before same walked. lists before
      (behind_body c.open_bodies_alike.ensures.alike c.args.walk.now c.args.cut c.args.symbols.now c.in_ok-rest.rest.items c.as_slice.result.now before c.as_slice.ensures.value
      c.in_ok-rest.ensures.same same walked c.requires.cut))
      c.able_behind.ensures.lists;
}
