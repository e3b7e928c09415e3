use Rattle.std.proofs.Common.{◌≡◌, ◌∙◌, ap, List, ℕ, rules}
use Rattle.std.specs.Prelude.{codes}
use Rattle.area_rules.specs.Area.{PlainArea, object, script_named}
use Rattle.world_rules.specs.Rows.{name_or}
use Rattle.world_parts.proofs.parts.Parts.event_script.Goals as goal

pub returns : goal.returns
returns g c =
    let named : List ℕ → PlainArea → List ℕ = λ label area. script_named label (object area c.args.o).scripts in
    let here : c.self.inside.area ≡ c.args.self.now.world.area = search rules in
    let first = c.script_of-first.ensures.name ∙ (ap (λ (label : List ℕ). named label c.self.inside.area) c.as_slice.ensures ∙ ap (named (codes "ScriptUserDefine")) here) in
    let second = c.script_of-second.ensures.name ∙ (ap (λ (label : List ℕ). named label c.self.inside.area) c.as_slice-2.ensures ∙ ap (named (codes "OnUserDefined")) here) in
    record {
      name =
          c.name_or.ensures.name
          ∙ (ap (λ (name : List ℕ). name_or name c.script_of-second.result.now) first
          ∙ ap (name_or (named (codes "ScriptUserDefine") c.args.self.now.world.area)) second);
    }
