use Rattle.std.proofs.Common.{◌∙◌, ap, sym}
use Rattle.std.specs.Option.{option_map}
use Rattle.nss_tree.specs.Reading.{plain_tree}
use Rattle.typing_rules.specs.UnitReading.{typed_unit}
use Rattle.run_places.specs.Spots.{plain_spot}
use Rattle.message_remarks.proofs.Shown.{there_shown}
use Rattle.message_remarks.proofs.there.put_there.Goals as goal

pub returns-clause-shows : goal.returns-clause-shows
returns-clause-shows c =
    λ told. there_shown c.args.script.now.unit (plain_tree c.args.script.now.tree) (typed_unit c.args.script.now.typed) c.args.saying.at c.in-Some.spot
    c.args.saying.in_action (option_map (λ name. name.now) c.function_at.result) c.args.saying.before.now c.args.saying.behind.now c.args.saying.shows_line
    _ _ _ _ _ _ _ _
    (sym (ap (option_map plain_spot) c.in-Some.is) ∙ c.in_ok-spot.ensures.spot) c.function_at.ensures.named c.in_ok-put_spot.ensures.shows
    c.in_ok-put_words.ensures.appends c.in_ok-put_plain.ensures.appends c.in_ok-put_function.ensures.appends c.in_ok-put_plain-2.ensures.appends
    c.in_ok-put_words-2.ensures.appends c.in_ok-put_line.ensures.shows
