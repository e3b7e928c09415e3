-- The engine's answers have the routines' types, in the words of the meaning.
use Rattle.std.proofs.Common.{◌≡◌, [], ◌∷◌, Option, Some, None, ap, refl}
use Rattle.nwq_value.specs.declared.value.Ty.{Ty}
use Rattle.nwq_value.specs.declared.value.Ty.TheVariants.{Void, Int, Text, Object, Effect, Event, Action, Struct, Refused}
use Rattle.nwq_value.specs.declared.value.Value.{Value}
use Rattle.saved_state.specs.declared.saved.Saved.{Saved}
use Rattle.stack_shape.specs.Calls.{result_types}
use Rattle.machine_rules.specs.Cells.{value_types}
use Rattle.stack_rules.specs.Laws.{TablesTypeExecuteScript}
use Rattle.world_rules.specs.AlikeLaws.{call}
use Rattle.world_rules.specs.Engine.{engine}
use Rattle.source_meaning.specs.Expressions.{parts_in}
use Rattle.world_core.specs.Answers.{AnswersHaveTypes, IsOfType}
use Rattle.command_meaning.specs.Units.{TablesAnswerInTypes}
use Rattle.ncs_machine.specs.HostLemmas.{can_be_called}

one_type : (t : Ty) (o : Option Value) → IsOfType t o → value_types (parts_in o) ≡ result_types t
one_type Void None h = refl
one_type Void (Some v) h = absurd h
one_type Int None h = absurd h
one_type Int (Some v) h = ap (λ u. u ∷ []) h
one_type Text None h = absurd h
one_type Text (Some v) h = ap (λ u. u ∷ []) h
one_type Object None h = absurd h
one_type Object (Some v) h = ap (λ u. u ∷ []) h
one_type Effect None h = absurd h
one_type Effect (Some v) h = ap (λ u. u ∷ []) h
one_type Event None h = absurd h
one_type Event (Some v) h = ap (λ u. u ∷ []) h
one_type Action None h = absurd h
one_type Action (Some v) h = ap (λ u. u ∷ []) h
one_type (Struct n) None h = absurd h
one_type (Struct n) (Some v) h = ap (λ u. u ∷ []) h
one_type Refused None h = absurd h
one_type Refused (Some v) h = ap (λ u. u ∷ []) h

pub tables_answer_in_types : AnswersHaveTypes Saved → TablesTypeExecuteScript → TablesAnswerInTypes
tables_answer_in_types law execute header cell is = record {
  answers = λ n r caller values a w there callable types.
      one_type r.result (engine header cell n (call caller values a) w).value (law header cell n r (call caller values a) w is there (can_be_called r callable));
  runs = λ n r there role. let takes = execute header is n r there role in (takes.takes, ap result_types takes.gives);
}
