use Rattle.std.proofs.Common.{◌∙◌}
use Rattle.stamped_slots.specs.StampLemmas.{put_last}
use Rattle.world_rules.specs.Standing.{content_key, number_key}
use Rattle.world_rules.proofs.StandingLemmas.{index_put, when_ok}
use Rattle.world_rules.proofs.effects.add.Goals as goal

pub returns-in-Ok-clause-ok : goal.returns-in-Ok-clause-ok
returns-in-Ok-clause-ok c = c.in-Ok.ensures.ok ∙ put_last c.args.stamp c.args.stood c.args.all.now.items c.requires.under

pub returns-in-Ok-clause-by_number : goal.returns-in-Ok-clause-by_number
returns-in-Ok-clause-by_number c =
    index_put number_key c.args.stamp c.args.stood c.args.all.now.items c.insert.new.self.items
    c.args.numbers.now c.put_stamp.new.numbers c.requires.under c.requires.numbers
    (when_ok c.put_stamp.result c.if-is_err.ensures.value c.put_stamp.ensures.numbers)
    (c.in-Ok.ensures.ok ∙ put_last c.args.stamp c.args.stood c.args.all.now.items c.requires.under)

pub returns-in-Ok-clause-by_content : goal.returns-in-Ok-clause-by_content
returns-in-Ok-clause-by_content c =
    index_put content_key c.args.stamp c.args.stood c.args.all.now.items c.insert.new.self.items
    c.args.contents.now c.put_stamp.new.contents c.requires.under c.requires.contents
    (when_ok c.put_stamp.result c.if-is_err.ensures.value c.put_stamp.ensures.contents)
    (c.in-Ok.ensures.ok ∙ put_last c.args.stamp c.args.stood c.args.all.now.items c.requires.under)
