use Rattle.std.specs.Int.{w32}
use Rattle.std.proofs.lemmas.Int.{to_z-of_z}
use Rattle.std.proofs.Common.{◌-◌, ap}
use Rattle.gff_tree.specs.Whole.{plain_gff}
use Rattle.local_variables.specs.Variables.{IntVar, put}
use Rattle.area_tree.proofs.AreaLemmas.{place_of, index_left, tried_left, tried_ok, tried_err, ok_number}
use Rattle.area_tree.proofs.area.Area.set_int.Goals as goal

pub invariant_of-self : goal.invariant_of-self
invariant_of-self c =
    let l = tried_left (plain_gff c.self.inside.tree) c.self.inside.objects.items
    (c.args.o - 1) c.index_mut-object.result.now c.set_int.new.self _ c.set_int.result
    (c.variables_tell.ensures.put _) c.self.invariant.0
    (place_of c.args.o c.self.inside.objects.items c.args.self.now.objects
    (ap (λ a. a.objects) c.self.view_is) c.requires.first c.requires.within) c.index_mut-object.ensures.value c.set_int.ensures.ok c.set_int.ensures.err in
    (l.0, index_left c.self.inside.tags.places c.self.inside.tags.numbers.items c.self.inside.objects.items _ c.self.invariant.1 l.1)

pub returns-clause-ok : goal.returns-clause-ok
returns-clause-ok c =
    tried_ok (plain_gff c.self.inside.tree) c.self.inside.objects.items
    (c.args.o - 1) c.index_mut-object.result.now c.set_int.new.self
    (put (IntVar c.args.name.now c.args.v)) c.args.self.now c.set_int.result c.self.view_is
    (place_of c.args.o c.self.inside.objects.items c.args.self.now.objects
    (ap (λ a. a.objects) c.self.view_is) c.requires.first c.requires.within) c.index_mut-object.ensures.value
    (ok_number c.args.name.now c.set_int.new.self c.index_mut-object.result.now _ c.args.v c.set_int.result
    (to_z-of_z w32 c.args.v c.ranges.v) c.set_int.ensures.ok)

pub returns-clause-err : goal.returns-clause-err
returns-clause-err c =
    tried_err (plain_gff c.self.inside.tree) c.self.inside.objects.items (c.args.o - 1) c.index_mut-object.result.now c.set_int.new.self c.args.self.now c.set_int.result c.self.view_is
    (place_of c.args.o c.self.inside.objects.items c.args.self.now.objects
    (ap (λ a. a.objects) c.self.view_is) c.requires.first c.requires.within) c.index_mut-object.ensures.value c.set_int.ensures.err
