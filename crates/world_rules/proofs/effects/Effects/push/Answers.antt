use Rattle.std.proofs.Common.{◌≡◌, ◌+◌, arith}
use Rattle.world_rules.proofs.StandingLemmas.{kept_more}
use Rattle.world_rules.proofs.effects.Effects.push.Goals as goal

pub invariant_of-self-in-Some : goal.invariant_of-self-in-Some
invariant_of-self-in-Some c =
    let more : c.in-Some.next ≡ c.self.inside.next + 1 = grind (arith, c.in-Some.ensures) in
    kept_more c.self.inside.next c.in-Some.next c.args.stood c.self.inside.all.items c.add.new.all.items
    c.add.new.numbers c.add.new.contents c.self.invariant.under c.in_ok-add-in-Some.ensures.ok
    more c.add.ensures.by_number c.add.ensures.by_content
