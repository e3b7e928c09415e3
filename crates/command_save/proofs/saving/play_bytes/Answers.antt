use Rattle.std.proofs.Common.{List, ℕ, Option, subst, sym}
use Rattle.std.specs.Option.{option_map}
use Rattle.std.proofs.lemmas.Result.{MatchResult-weaker}
use Rattle.plan_text.specs.Plans.{Limits}
use Rattle.play_save.specs.States.{MayCount, MayList, MayRest}
use Rattle.command_save.proofs.StateLemmas.{state_for, for_limits, written_for, large_for}
use Rattle.command_save.proofs.saving.play_bytes.Goals as goal

pub put_play-requires-clause-rests : goal.put_play-requires-clause-rests
put_play-requires-clause-rests c =
    subst (λ (bytes : List ℕ). MayRest c.args.listed.now.scripts.now bytes c.args.broken.world.world) (sym c.into_vec.ensures.items) c.requires.saves.rests

pub put_play-requires-clause-come : goal.put_play-requires-clause-come
put_play-requires-clause-come c =
    subst (λ (l : Limits). MayCount l c.args.broken.world.world c.args.broken.played.entries c.args.broken.played.instructions)
    (sym c.limits_of-limits.ensures.limits) c.requires.saves.come

pub put_play-requires-clause-listed : goal.put_play-requires-clause-listed
put_play-requires-clause-listed c =
    subst (λ (text : Option (List ℕ)). MayList text c.args.listed.now.scripts.now) (sym c.text_of-header.ensures.text) c.requires.listing.listed

pub returns : goal.returns
returns c = record {
  saved = λ p is.
      let scripts = c.args.listed.now.scripts.now in
      let file = c.into_vec.result.items in
      let world = c.args.broken.world.world in
      let played = c.args.broken.played in
      let f = state_for c.args.header (option_map (λ text. text.items) c.text_of-header.result) c.args.file file c.args.listed.now.plan.now scripts world played c.text_of-header.ensures.text
      c.into_vec.ensures.items p is in
      let exact = for_limits (λ v. v.items) (option_map (λ text. text.items) c.text_of-header.result) scripts file played.entries played.instructions world c.put_play.result
      c.limits_of-limits.ensures.limits c.put_play.ensures.exact in
      MatchResult-weaker c.put_play.result exact (λ v. written_for f v.items) (large_for f);
}
