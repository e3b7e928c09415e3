use Rattle.std.proofs.Common.{◌≡◌, ◌∙◌, [], ◌∷◌, ◌++◌, false, map, ap, sym, subst}
use Rattle.nss_symbols.specs.Cursor.{plain_symbol, AreSound}
use Rattle.nss_symbols.specs.Tokens.{symbol_of}
use Rattle.nss_parser.specs.Front.{TellsPrefix}
use Rattle.message_tokens.specs.Behind.{TellsFollowing}
use Rattle.message_tokens.proofs.GoingOn.{too_deep, grammar_tells, sound_push, if_ok_map}
use Rattle.message_tokens.proofs.listing.can_follow.Goals as goal

pub returns-then-not-branch : goal.returns-then-not-branch
returns-then-not-branch c =
    subst (λ s. TellsFollowing c.args.walk.now c.args.count (map plain_symbol c.args.rest.now) s false) c.seen_of-symbol.ensures.same
    (too_deep c.args.walk.now c.args.count (map plain_symbol c.args.rest.now) (plain_symbol c.seen_of-symbol.result) c.in_ok-stays_within.field-0 c.in_ok-stays_within.ensures c.if-not-branch.true)

pub is_prefix-requires-clause-sound : goal.is_prefix-requires-clause-sound
is_prefix-requires-clause-sound c =
    let whole : c.as_slice.result.now ≡ c.args.rest.now ++ c.seen_of-symbol.result ∷ [] =
    c.as_slice.ensures.value ∙ c.in_ok-push.ensures.items ∙ ap (λ xs. xs ++ c.seen_of-symbol.result ∷ []) c.in_ok-all.ensures.items in
    subst AreSound (sym whole) (sound_push c.args.rest.now c.seen_of-symbol.result c.requires.sound c.seen_of-symbol.ensures.sound)

pub returns : goal.returns
returns c =
    let whole : c.as_slice.result.now ≡ c.args.rest.now ++ c.seen_of-symbol.result ∷ [] =
    c.as_slice.ensures.value ∙ c.in_ok-push.ensures.items ∙ ap (λ xs. xs ++ c.seen_of-symbol.result ∷ []) c.in_ok-all.ensures.items in
    if_ok_map c.is_prefix.result (TellsPrefix c.args.count (map plain_symbol c.as_slice.result.now))
    (TellsFollowing c.args.walk.now c.args.count (map plain_symbol c.args.rest.now) (symbol_of c.args.token.now))
    (λ able tells. subst (λ s. TellsFollowing c.args.walk.now c.args.count (map plain_symbol c.args.rest.now) s able) c.seen_of-symbol.ensures.same
    (grammar_tells c.args.walk.now c.args.count c.args.rest.now c.as_slice.result.now c.seen_of-symbol.result c.in_ok-stays_within.field-0 able
    c.in_ok-stays_within.ensures c.if-not-branch.false whole tells))
    c.is_prefix.ensures
