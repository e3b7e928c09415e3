use Rattle.std.proofs.Common.{◌∙◌, ap}
use Rattle.gff_tree.specs.Whole.{plain_gff}
use Rattle.area_rules.specs.Area.{script_named}
use Rattle.area_tree.proofs.AreaLemmas.{place_of, object_seen}
use Rattle.area_tree.proofs.area.Area.script_of.Goals as goal

pub returns : goal.returns
returns c =
    let seen = object_seen c.args.o (plain_gff c.self.inside.tree) c.self.inside.objects.items c.args.self.now c.index.result.now c.self.view_is
    (place_of c.args.o c.self.inside.objects.items c.args.self.now.objects (ap (λ a. a.objects) c.self.view_is) c.requires.first c.requires.within) c.index.ensures in
    record { name = c.script.ensures.name ∙ ap (λ x. script_named c.args.label.now x.scripts) seen }
