use Rattle.std.proofs.Common.{◌≤◌, sym, subst}
use Rattle.world_rules.specs.AlikeLaws.{call}
use Rattle.world_rules.specs.World.{count}
use Rattle.hook_table.specs.InHooks.{known_by}
use Rattle.world_core.specs.Calls.{cells_of}
use Rattle.world_core.proofs.WorldLemmas.{engine_kept}
use Rattle.world_core.proofs.world.World.engine.Goals as goal

pub invariant_of-self : goal.invariant_of-self
invariant_of-self g c =
    let caller = subst (λ h. c.args.caller ≤ count h.world) (sym c.self.view_is) c.requires.caller in (
      engine_kept c.calls_keep_worlds.ensures.engine c.args.table.now
          (cells_of (known_by c.args.hooks.now)) c.args.routine c.in-Some.found.now
          (call c.args.caller c.args.args.now c.args.action)
          c.self.inside.parts.world c.by_role.new.parts.world c.by_role.result c.in-Some.ensures.entry c.by_role.ensures.ok c.by_role.ensures.err c.self.invariant.0 caller,
      c.by_role.ensures.posts,
      c.self.invariant.2,
    )
