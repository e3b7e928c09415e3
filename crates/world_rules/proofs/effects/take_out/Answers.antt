use Rattle.world_rules.specs.Standing.{content_key, number_key}
use Rattle.world_rules.proofs.StandingLemmas.{index_taken}
use Rattle.world_rules.proofs.effects.take_out.Goals as goal

pub returns-in-Some-clause-by_number : goal.returns-in-Some-clause-by_number
returns-in-Some-clause-by_number c =
    index_taken number_key c.args.stamp c.in-Some.stood c.args.all.now.items c.take.new.self.items
    c.args.numbers.now c.remove_stamp.new.numbers c.requires.rise c.requires.numbers
    c.in-Some.ensures.taken c.remove_stamp.ensures.numbers c.take.ensures.left

pub returns-in-Some-clause-by_content : goal.returns-in-Some-clause-by_content
returns-in-Some-clause-by_content c =
    index_taken content_key c.args.stamp c.in-Some.stood c.args.all.now.items c.take.new.self.items
    c.args.contents.now c.remove_stamp.new.contents c.requires.rise c.requires.contents
    c.in-Some.ensures.taken c.remove_stamp.ensures.contents c.take.ensures.left
