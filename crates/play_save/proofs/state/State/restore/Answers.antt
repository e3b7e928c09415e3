use Rattle.std.proofs.Common.{subst}
use Rattle.module_player.specs.Limits.{limits_in}
use Rattle.state_format.specs.declared.parts.Parts.{Parts}
use Rattle.play_save.specs.Scripts.{script_parts}
use Rattle.play_save.specs.Rules.{IsHeaderOf}
use Rattle.play_save.specs.States.{IsPlayOf, HasCome, IsWorldOf}
use Rattle.play_save.proofs.state.State.restore.Goals as goal

pub open-requires : goal.open-requires
open-requires c = record { accepted = c.self.invariant.1.0; prepared = c.self.invariant.1.1 }

pub returns-in-Ok : goal.returns-in-Ok
returns-in-Ok c =
    let made = c.in-Ok.ensures in
    record {
      header = subst (λ (s : Parts). IsHeaderOf s.header c.in-Ok.opened.table) c.self.view_is made.header;
      play = subst (λ (s : Parts). IsPlayOf s s.header (script_parts c.in-Ok.opened.scripts) s.area (limits_in c.in-Ok.opened.limits)) c.self.view_is made.play;
      come = subst (λ (s : Parts). HasCome s c.in-Ok.opened.taken c.in-Ok.opened.done) c.self.view_is made.come;
      world = subst (λ (s : Parts). IsWorldOf s c.in-Ok.opened.world.world) c.self.view_is made.world;
      few = made.few;
      code = made.code;
      meets = made.meets;
      stand = made.stand;
      fit = made.fit;
    }
