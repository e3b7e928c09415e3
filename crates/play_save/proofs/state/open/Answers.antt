use Rattle.std.proofs.Common.{refl, sym, subst}
use Rattle.area_rules.specs.Area.{PlainArea}
use Rattle.world_rules.specs.World.{World}
use Rattle.saved_state.specs.declared.saved.Saved.{Saved}
use Rattle.ncs_machine.specs.Host.{scripts_of, tables_of}
use Rattle.ncs_machine.specs.Stored.{StatesFit}
use Rattle.play_save.specs.Rules.{IsAreaOf}
use Rattle.play_save.proofs.CapturedLemmas.{items_if, entries_if}
use Rattle.play_save.proofs.Scripts.{holds_scripts}
use Rattle.play_save.proofs.Opening.{all_code, all_meet, all_stand, same_parts, small_names, few_scripts, states_fit}
use Rattle.play_save.proofs.state.open.Goals as goal

pub returns-in-Ok : goal.returns-in-Ok
returns-in-Ok c =
    let s = c.args.parts.now in
    let p = c.args.prepared in
    let is = c.requires.prepared in
    let limits = c.requires.accepted.1.1.1.0 in
    let held = holds_scripts s p is limits.bounds.scripts in
    let states = c.requires.accepted.1.1.1.1.1.0 in
    record {
      header = is.header;
      play = record {
        header = refl;
        scripts = sym (same_parts p.table s.scripts p.scripts (small_names s.scripts limits.names.names) held.scripts);
        area = refl;
        limit = refl;
        entries = refl;
        until = refl;
      };
      come = record { taken = refl; done = refl };
      world = record {
        tree = p.area.tree;
        area = subst (λ (a : PlainArea). IsAreaOf a.tree s.area) (sym is.area.area) is.area.of;
        world = c.in-Ok.ensures.world;
      };
      few = few_scripts p.table s.scripts p.scripts limits.bounds.scripts held.scripts;
      code = all_code p.table s.scripts p.scripts held.scripts;
      meets = all_meet p.table s.scripts p.scripts held.scripts;
      stand = all_stand p.table s.scripts p.scripts held.scripts;
      fit = subst (λ (w : World Saved). StatesFit (scripts_of p.scripts) (tables_of p.scripts) w) (sym c.in-Ok.ensures.world)
          (states_fit p.scripts p.area.tree s (items_if s p held states) (entries_if s p held states));
    }
