use Rattle.std.proofs.Common.{◌++◌, ap, refl, ◌∙◌, subst}
use Rattle.std.specs.List.{AllByRecursion}
use Rattle.ncs_machine.specs.declared.scripts.Loaded.{Loaded}
use Rattle.state_format.specs.Fields.{Fields, joined, script_fields}
use Rattle.state_parts.specs.Keeping.{any_text}
use Rattle.state_parts.specs.KeepingLemmas.{map_same}
use Rattle.state_parts.specs.PuttingLemmas.{asked, put_none, put_got, put_end, parts_end, flat_mapped}
use Rattle.play_save.specs.Scripts.{script_part}
use Rattle.play_save.proofs.Telling.{IsWritable, all_scripts, all_code}
use Rattle.play_save.proofs.put.put_loaded.Goals as goal

pub loop-loaded-init : goal.loop-loaded-init
loop-loaded-init g c = put_none (λ (l : Loaded). l) IsWritable any_text (λ (l : Loaded). script_fields (script_part l)) (λ (l : Loaded). l) c.args.scripts.now (g.W.Writer.taken c.args.out.now)

pub loop-loaded-preserved : goal.loop-loaded-preserved
loop-loaded-preserved g c = put_got (λ (l : Loaded). l) IsWritable any_text
    (λ (l : Loaded). script_fields (script_part l)) (λ (l : Loaded). l) c.args.scripts.now
    (g.W.Writer.taken c.args.out.now) c.loop-loaded.loaded-index c.loaded-item.result
    (g.W.Writer.taken c.loop-loaded.out)
    (g.W.Writer.taken c.put_script.new.out) c.loop-loaded.invariant c.in_ok-put_script.ensures.put
    (record { same = refl; form = (c.in_ok-put_script.ensures.form, c.put_script.ensures.code); short = refl })
    (asked c.args.scripts.now c.loop-loaded.loaded-index c.loaded-item.result c.loop-loaded-test.true c.loaded-item.is)

pub returns : goal.returns
returns g c =
    let end = put_end (λ (l : Loaded). l) IsWritable any_text (λ (l : Loaded). script_fields (script_part l))
    (λ (l : Loaded). l) c.args.scripts.now (g.W.Writer.taken c.args.out.now) c.loop-loaded.loaded-index
    (g.W.Writer.taken c.loop-loaded.out) c.loop-loaded.invariant c.loop-loaded-test.false in
    let parts = parts_end (λ (l : Loaded). l) IsWritable any_text (λ (l : Loaded). script_fields (script_part l))
    (λ (l : Loaded). l) c.args.scripts.now (g.W.Writer.taken c.args.out.now) c.loop-loaded.loaded-index
    (g.W.Writer.taken c.loop-loaded.out) c.loop-loaded.invariant c.loop-loaded-test.false in
    let all = subst (AllByRecursion IsWritable) (map_same c.args.scripts.now) parts.form in
    record {
      put = end ∙ ap (λ (l : Fields). g.W.Writer.taken c.args.out.now ++ joined l) (flat_mapped script_fields script_part c.args.scripts.now);
      form = all_scripts c.args.scripts.now all;
      code = all_code c.args.scripts.now all;
    }
