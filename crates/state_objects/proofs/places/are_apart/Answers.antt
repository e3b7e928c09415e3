use Rattle.std.proofs.Common.{rules, ◌≡◌, ◌∙◌, true, sym}
use Rattle.state_objects.specs.Places.{shares_place}
use Rattle.state_objects.proofs.Sharing.{seen_none}
use Rattle.state_objects.proofs.places.are_apart.Goals as goal

pub returns-then-contains : goal.returns-then-contains
returns-then-contains c =
    let shared : c.shares_place.result ≡ true = search rules in
    record {
      test = seen_none c.variables_tell.ensures.same (shares_place c.args.counts.now) c.args.parts.now c.loop-part.part-index c.part-item.result c.loop-part.vars _
          c.loop-part.invariant c.variable-v.ensures.tells (sym c.contains.ensures.found ∙ c.if-contains.true) c.loop-part-test.true c.part-item.is
          (sym c.shares_place.ensures.shared ∙ shared);
    }
