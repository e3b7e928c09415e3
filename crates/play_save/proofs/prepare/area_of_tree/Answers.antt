use Rattle.std.proofs.Common.{refl, rules}
use Rattle.gff_tree.specs.Whole.{plain_gff}
use Rattle.play_save.proofs.Holding.{no_area, other_count}
use Rattle.play_save.proofs.prepare.area_of_tree.Goals as goal

pub returns-in-Err-Shape-clause-broken : goal.returns-in-Err-Shape-clause-broken
returns-in-Err-Shape-clause-broken c = (
  refl,
  no_area c.args.bytes.now (plain_gff c.args.tree) c.args.objects c.in-Err-Shape.field-0 c.in-Err-Shape.field-0-0 c.in-Err-Shape.field-0-1
      c.in-Err-Shape.field-0-2 c.one_tree.ensures.one c.requires.tree c.in-Err-Shape.field-0-is c.in-Err-Shape.ensures.first,
)

pub returns-else-count-objects-clause-broken : goal.returns-else-count-objects-clause-broken
returns-else-count-objects-clause-broken c = (
  refl,
  other_count c.args.bytes.now (plain_gff c.args.tree) c.args.objects c.count.result c.in-Ok.area c.one_tree.ensures.one c.requires.tree c.in-Ok.ensures.area.1
      c.count.ensures.count (search rules),
)
