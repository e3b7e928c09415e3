use Rattle.std.proofs.Common.{◌≡◌, ◌∙◌, [], ◌∷◌, ◌++◌, ap, sym, subst}
use Rattle.nss_symbols.specs.declared.symbol.Seen.TheVariants as seen
use Rattle.nss_symbols.specs.declared.terminal.Terminal.TheVariants as terminal
use Rattle.nss_symbols.specs.Cursor.{AreSound}
use Rattle.message_tokens.proofs.GoingOn.{sound_push}
use Rattle.message_tokens.proofs.listing.is_open_body.Goals as goal

pub whole_items-requires-clause-sound : goal.whole_items-requires-clause-sound
whole_items-requires-clause-sound c =
    let whole : c.as_slice.result.now ≡ c.args.symbols.now ++ seen.Fixed terminal.CloseBrace ∷ [] =
    c.as_slice.ensures.value ∙ c.in_ok-push.ensures.items ∙ ap (λ xs. xs ++ seen.Fixed terminal.CloseBrace ∷ []) c.in_ok-all.ensures.items in
    subst AreSound (sym whole) (sound_push c.args.symbols.now (seen.Fixed terminal.CloseBrace) c.requires.sound tt)
