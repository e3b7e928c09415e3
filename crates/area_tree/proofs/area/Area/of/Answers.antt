use Rattle.std.proofs.Common.{length, map, sym, ap, subst, arith}
use Rattle.gff_tree.specs.Whole.{plain_gff}
use Rattle.area_rules.specs.Area.{bare, HaveDistinct}
use Rattle.area_tree.specs.Index.{Indexes}
use Rattle.area_tree.proofs.CountLemmas.{objects_few}
use Rattle.area_tree.proofs.area.Area.of.Goals as goal

pub index-requires : goal.index-requires
index-requires c =
    record {
      few = omega (
        arith,
        ap length c.deref.ensures.value,
        ap length c.in-Ok.ensures.objects,
        objects_few (plain_gff c.args.tree).top,
        c.requires.few,
      );
    }

pub invariant_of-result : goal.invariant_of-result
invariant_of-result c = (
  record {
    sound = c.args.tree.sound;
    whole = c.in-Ok.ensures.whole;
    same = ap (map bare) c.in-Ok.ensures.objects;
    distinct = subst HaveDistinct (sym c.in-Ok.ensures.objects) (c.objects_tell.ensures.objects (plain_gff c.args.tree).top c.in-Ok.ensures.whole);
    few = omega (arith, ap length c.in-Ok.ensures.objects, objects_few (plain_gff c.args.tree).top, c.requires.few);
  },
  subst (Indexes c.in-Ok-index.tags.places c.in-Ok-index.tags.numbers.items) c.deref.ensures.value c.in-Ok-index.ensures.indexes,
)
