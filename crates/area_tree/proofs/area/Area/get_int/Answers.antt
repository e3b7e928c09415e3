use Rattle.std.proofs.Common.{◌∙◌, ap}
use Rattle.std.specs.Int.{w32}
use Rattle.std.proofs.lemmas.Int.{to_z-of_z}
use Rattle.gff_tree.specs.Whole.{plain_gff}
use Rattle.local_variables.specs.Variables.{int_named}
use Rattle.area_tree.proofs.AreaLemmas.{place_of, object_seen}
use Rattle.area_tree.proofs.area.Area.get_int.Goals as goal

pub returns : goal.returns
returns c =
    let seen = object_seen c.args.o (plain_gff c.self.inside.tree) c.self.inside.objects.items c.args.self.now c.index.result.now c.self.view_is
    (place_of c.args.o c.self.inside.objects.items c.args.self.now.objects (ap (λ a. a.objects) c.self.view_is) c.requires.first c.requires.within) c.index.ensures in
    record { value = to_z-of_z w32 c.int.result (record { sfits = c.int.type_inv }) ∙ (c.int.ensures.value ∙ ap (int_named c.args.name.now) (c.vars.ensures.vars ∙ ap (λ x. x.vars) seen)) }
