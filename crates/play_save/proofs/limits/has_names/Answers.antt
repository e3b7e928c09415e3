use Rattle.std.proofs.Common.{rules, arith, refl, sym, ap, ◌∙◌, ◌-◌, ◌<◌, length}
use Rattle.state_format.specs.declared.parts.Script.{Script}
use Rattle.play_save.proofs.NamesLemmas.{named_none, tested_more, tested_none, tested_old}
use Rattle.play_save.proofs.limits.has_names.Goals as goal
use Rattle.play_save.proofs.limits.has_names.Goals.{then-not-is_script_name-via-then-not-is_script_name, then-not-is_script_name-via-else-not-is_script_name+then-not-is_new}

pub loop-left-init : goal.loop-left-init
loop-left-init c = (named_none _ c.args.scripts.now (omega arith), omega arith)

pub returns-then-not-is_script_name : goal.returns-then-not-is_script_name
returns-then-not-is_script_name c =
    let inside : c.loop-left.left - 1 < length c.args.scripts.now = omega (arith, c.loop-left-test.true, c.loop-left.invariant.1) in
    elim c.then-not-is_script_name.branch [
      | then-not-is_script_name-via-then-not-is_script_name w ↦ record {
        test = tested_none c.args.scripts.now (c.loop-left.left - 1) c.index-scripts-left.result c.as_slice-name.result.now c.is_script_name.result _
            (record {
              name = c.as_slice-name.ensures.items ∙ ap (λ (x : Script). x.name) (sym c.index-scripts-left.is);
              is = c.is_script_name.ensures.test;
              new = refl;
              inside = inside;
              at = c.index-scripts-left.is;
            })
            (search rules);
      }
      | then-not-is_script_name-via-else-not-is_script_name+then-not-is_new w ↦ record {
        test = tested_old c.args.scripts.now (c.loop-left.left - 1) c.index-scripts-left.result c.as_slice-name.result.now c.is_script_name.result w.is_new.result
            (record {
              name = c.as_slice-name.ensures.items ∙ ap (λ (x : Script). x.name) (sym c.index-scripts-left.is);
              is = c.is_script_name.ensures.test;
              new = w.is_new.ensures.test;
              inside = inside;
              at = c.index-scripts-left.is;
            }) (search rules);
      }
    ]

pub loop-left-preserved : goal.loop-left-preserved
loop-left-preserved c = (
  tested_more c.args.scripts.now (c.loop-left.left - 1) c.loop-left.left c.index-scripts-left.result c.as_slice-name.result.now c.is_script_name.result c.is_new.result
      (record {
        name = c.as_slice-name.ensures.items ∙ ap (λ (x : Script). x.name) (sym c.index-scripts-left.is);
        is = c.is_script_name.ensures.test;
        new = c.is_new.ensures.test;
        inside = omega (arith, c.loop-left-test.true, c.loop-left.invariant.1);
        at = c.index-scripts-left.is;
      }) (search rules) (search rules) c.loop-left.invariant.0 (omega (arith, c.loop-left-test.true)),
  omega (arith, c.loop-left.invariant.1),
)
