use Rattle.std.proofs.Common.{◌∙◌, refl, sym, arith}
use Rattle.message_tokens.proofs.GoingOn.{if_ok_map, rest_sound, sound_take}
use Rattle.message_tokens.proofs.Bodies.{cut_is}
use Rattle.message_tokens.proofs.listing.is_cut.Goals as goal

pub sees_else-requires-clause-sound : goal.sees_else-requires-clause-sound
sees_else-requires-clause-sound c = rest_sound c.args.cut c.args.symbols.now c.args.symbols.now refl c.requires.sound

pub is_open_body-requires-clause-sound : goal.is_open_body-requires-clause-sound
is_open_body-requires-clause-sound c = sound_take c.args.cut c.args.symbols.now c.requires.sound

pub returns : goal.returns
returns c =
    if_ok_map c.is_open_body.result _ _
    (λ is body yes. cut_is c.args.cut c.args.symbols.now (omega (arith, c.if-cut-lt-LEAST_CUT.false)) (omega (arith, c.if-cut-symbols.false)) (sym c.sees_else.ensures ∙ c.if-sees_else.false) (body yes))
    c.is_open_body.ensures
