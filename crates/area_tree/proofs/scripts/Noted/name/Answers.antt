use Rattle.std.proofs.Common.{Some, None, ap, ◌∙◌}
use Rattle.area_rules.specs.Area.{script_named}
use Rattle.area_tree.proofs.ScriptLemmas.{found_name, no_name}
use Rattle.area_tree.proofs.scripts.Noted.name.Goals as goal

pub returns-in-Some-get : goal.returns-in-Some-get
returns-in-Some-get c = record {
  name =
      c.name.ensures
      ∙ found_name c.args.label.now c.self.inside.all c.self.inside.first c.in-Some.place (Some c.in-Some-get.script.now) c.self.invariant c.in-Some.ensures.number
      c.in-Some-get.ensures.item
      ∙ ap (script_named c.args.label.now) c.self.view_is;
}

pub returns-in-None-get : goal.returns-in-None-get
returns-in-None-get c = record {
  name =
      found_name c.args.label.now c.self.inside.all c.self.inside.first c.in-Some.place None c.self.invariant c.in-Some.ensures.number
      c.in-None-get.ensures.item
      ∙ ap (script_named c.args.label.now) c.self.view_is;
}

pub returns-in-None : goal.returns-in-None
returns-in-None c = record {
  name = no_name c.args.label.now c.self.inside.all c.self.inside.first c.self.invariant c.in-None.ensures.number ∙ ap (script_named c.args.label.now) c.self.view_is;
}
