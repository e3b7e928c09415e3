use Rattle.std.proofs.Common.{◌-◌, ap, filter, not}
use Rattle.gff_tree.specs.Whole.{plain_gff}
use Rattle.local_variables.specs.Variables.{is_int}
use Rattle.area_tree.proofs.AreaLemmas.{place_of, index_left, object_left, made_view}
use Rattle.area_tree.proofs.area.Area.delete_int.Goals as goal

pub invariant_of-self : goal.invariant_of-self
invariant_of-self c =
    let l = object_left (plain_gff c.self.inside.tree) c.self.inside.objects.items
    (c.args.o - 1) c.index_mut-object.result.now c.delete_int.new.self
    (filter (λ v. not (is_int c.args.name.now v)))
    (c.variables_tell.ensures.filter (λ v. not (is_int c.args.name.now v))) c.self.invariant.0
    (place_of c.args.o c.self.inside.objects.items c.args.self.now.objects
    (ap (λ a. a.objects) c.self.view_is) c.requires.first c.requires.within) c.index_mut-object.ensures.value c.delete_int.ensures.gone in
    (l.0, index_left c.self.inside.tags.places c.self.inside.tags.numbers.items c.self.inside.objects.items _ c.self.invariant.1 l.1)

pub returns : goal.returns
returns c = record {
  gone =
      made_view (plain_gff c.self.inside.tree) c.self.inside.objects.items
      (c.args.o - 1) c.index_mut-object.result.now c.delete_int.new.self
      (filter (λ v. not (is_int c.args.name.now v))) c.args.self.now c.self.view_is
      (place_of c.args.o c.self.inside.objects.items c.args.self.now.objects
      (ap (λ a. a.objects) c.self.view_is) c.requires.first c.requires.within) c.index_mut-object.ensures.value c.delete_int.ensures.gone;
}
