-- A machine that runs in the world's own engine has the answers of the meaning.
use Rattle.std.proofs.Common.{sym, subst, ap, ◌∙◌}
use Rattle.world_rules.specs.Engine.{engine}
use Rattle.world_rules.specs.Alike.{Alike}
use Rattle.world_rules.specs.AlikeLaws.{call}
use Rattle.world_rules.specs.StayAlike.{engine_keeps_alike}
use Rattle.machine_rules.specs.Cells.{value_types}
use Rattle.source_meaning.specs.Expressions.{parts_in}
use Rattle.source_laws.specs.Carries.{Carries}
use Rattle.source_laws.specs.EngineHost.{EngineIsRun}

pub engine_is_run : EngineIsRun
engine_is_run s host tables same typed = record {
  value = λ n caller values a d w v h alike. let k = engine_keeps_alike (Carries s) host.table tables n caller values a d w v h alike in
      (same.value n caller values a w) ∙ k.value;
  world = λ n caller values a d w v h alike. let k = engine_keeps_alike (Carries s) host.table tables n caller values a d w v h alike in
      subst (λ u. Alike (Carries s) u (engine host.table tables n (call caller values d) v).world) (sym (same.world n caller values a w)) k.world;
  typed = λ n r caller values a w is callable types. ap (λ o. value_types (parts_in o)) (same.value n caller values a w) ∙ typed.answers n r caller values a w is callable types;
  runs = typed.runs;
}
