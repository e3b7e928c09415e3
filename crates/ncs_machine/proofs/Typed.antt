-- The answers of routines that can be called have their result types.
use Rattle.saved_state.specs.declared.saved.Saved.{Saved}
use Rattle.world_rules.specs.AlikeLaws.{call}
use Rattle.ncs_machine.specs.Host.{EngineView, engine_answer}
use Rattle.ncs_machine.specs.Steps.{AnswersTyped}
use Rattle.nwq_value.specs.Engine.{IsTable}
use Rattle.world_core.specs.Answers.{AnswersHaveTypes}
use Rattle.ncs_machine.specs.HostLemmas.{has_type, can_be_called}

pub answers_typed : (e : EngineView) → AnswersHaveTypes Saved → IsTable e.table → AnswersTyped e
answers_typed e law table n caller r values action w listed callable =
    has_type r.result (engine_answer e n caller values action w).value (law e.table e.cell n r (call caller values action) w table listed (can_be_called r callable))
