use Rattle.std.proofs.Common.{◌∙◌, length, take, ap, arith, sym, subst}
use Rattle.std.proofs.lemmas.List.{length-take-le}
use Rattle.nss_symbols.specs.Cursor.{AreSound}
use Rattle.message_tokens.proofs.GoingOn.{as_many_seen, none_walked, if_ok_map, walked_again}
use Rattle.message_tokens.proofs.listing.following.Goals as goal

pub returns-in-None : goal.returns-in-None
returns-in-None c = record {
  lists = none_walked (take c.args.at c.args.tokens.now) c.args.tried.now c.new.result.items c.in_ok-symbols.symbols.items c.as_slice.result.now c.in_ok-nest_walk.field-0
      c.as_slice.ensures.value c.in_ok-symbols.ensures.same c.in_ok-nest_walk.ensures c.in-None.is c.new.ensures.items;
}

pub able_after-requires-clause-few : goal.able_after-requires-clause-few
able_after-requires-clause-few c =
    let many = ap length c.as_slice-in-Some.ensures.value ∙ as_many_seen c.in_ok-symbols.symbols.items (take c.args.at c.args.tokens.now) c.in_ok-symbols.ensures.same in
    let front = length-take-le c.args.at c.args.tokens.now c.requires.place in
    omega (arith, many, front, c.requires.few, c.requires.place)

pub able_after-requires-clause-sound : goal.able_after-requires-clause-sound
able_after-requires-clause-sound c = subst AreSound (sym c.as_slice-in-Some.ensures.value) c.in_ok-symbols.ensures.sound

pub returns : goal.returns
returns c = record {
  lists =
      let (same, walked) = walked_again c.in-Some.walk c.in_ok-symbols.symbols.items c.as_slice.result.now c.as_slice-in-Some.result.now (take c.args.at c.args.tokens.now)
      c.in_ok-nest_walk.field-0 c.as_slice.ensures.value c.as_slice-in-Some.ensures.value c.in_ok-symbols.ensures.same c.in_ok-nest_walk.ensures c.in-Some.is in
      if_ok_map c.able_after.result _ _ (λ listed lists. lists (take c.args.at c.args.tokens.now) same walked) c.able_after.ensures.lists;
}
