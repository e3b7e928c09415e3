-- Answers of the engine have their routines' types, so a host over well-stacked scripts is sound; a
-- name that is found is a listed script's. No contract speaks of these lemmas: they serve the
-- proofs here and in the crates above.
use Rattle.std.proofs.Common.{ap, ◌∙◌, ◌≡◌, ◌≢◌, ℕ, Bool, true, false, List, [], ◌∷◌, map, Option, Some, None, sym}
use Rattle.std.specs.Prelude.{get_or, not, ◌&&◌}
use Rattle.std.specs.Char.{to_ascii_lowercase}
use Rattle.std.specs.Str.{bytes_eq}
use Rattle.std.specs.List.{list_any, position}
use Rattle.std.proofs.lemmas.List.Quantifiers.{position-Some}
use Rattle.std.proofs.lemmas.Option.{slice_get-get_or}
use Rattle.nwq_value.specs.declared.value.Ty.{Ty}
use Rattle.nwq_value.specs.declared.value.Ty.TheVariants.{Void, Int, Text, Object, Effect, Event as EventTy, Action, Struct, Refused}
use Rattle.nwq_value.specs.declared.value.Value.{Value}
use Rattle.nwq_value.specs.declared.engine.Role.TheVariants.{Uncallable}
use Rattle.nwq_value.specs.declared.engine.Routine.{Routine}
use Rattle.nwq_value.specs.Engine.{IsTable}
use Rattle.saved_state.specs.declared.saved.Saved.{Saved}
use Rattle.stack_shape.specs.Calls.{is_callable, is_uncallable, is_void}
use Rattle.machine_rules.specs.Machine.{Script, script_named}
use Rattle.stack_rules.specs.Fits.{Tables, IsListed}
use Rattle.stack_rules.specs.Laws.{AllMeet, HasType, IsWellStackedHost, TablesTypeExecuteScript}
use Rattle.world_rules.specs.World.{World}
use Rattle.world_rules.specs.AlikeLaws.{call}
use Rattle.world_core.specs.Answers.{AnswersHaveTypes, IsOfType}
use Rattle.ncs_machine.specs.Host.{EngineView, engine_answer, host}

-- ---- the engine's answers

pub has_type : (t : Ty) (o : Option Value) → IsOfType t o → HasType t o
has_type Void None h = h
has_type Void (Some v) h = h
has_type Int None h = h
has_type Int (Some v) h = h
has_type Text None h = h
has_type Text (Some v) h = h
has_type Object None h = h
has_type Object (Some v) h = h
has_type Effect None h = h
has_type Effect (Some v) h = h
has_type EventTy None h = h
has_type EventTy (Some v) h = h
has_type Action None h = h
has_type Action (Some v) h = h
has_type (Struct n) None h = h
has_type (Struct n) (Some v) h = h
has_type Refused None h = h
has_type Refused (Some v) h = h

pub can_be_called : (r : Routine) → is_callable r ≡ true → r.role ≢ Uncallable
unfolding is_callable
can_be_called r h e = off
    (sym (ap (λ (b : Bool). not b && not (list_any (λ p. is_void p.ty) r.params))
    (ap is_uncallable e)) ∙ h)
  where
    off : false ≡ true → ⊥
    off e = absurd cc

pub host_is_sound : (scripts : List Script) (tables : Tables) (e : EngineView) (first : World Saved)
    → TablesTypeExecuteScript → AnswersHaveTypes Saved → IsTable e.table
    → AllMeet e.table scripts tables → IsWellStackedHost (host scripts e) tables first
unfolding host
host_is_sound scripts tables e first types answers table meets = record {
  scripts = meets;
  execute = types e.table table;
  typed = λ number caller r values action world listed callable fit fits reached.
      has_type r.result (engine_answer e number caller values action world).value
      (answers e.table e.cell number r (call caller values action) world table listed
      (can_be_called r callable));
}

-- ---- scripts by their names

first_listed : (scripts : List Script) (p : Script → Bool) (number : ℕ)
    → position p scripts ≡ Some number → IsListed scripts number
first_listed [] p number h = absurd cc
first_listed (s ∷ scripts) p number h =
    let q = position-Some p (s ∷ scripts) number s h in
    (get_or (s ∷ scripts) number s, slice_get-get_or (s ∷ scripts) number s q.0)

pub named_listed : (scripts : List Script) (name : List ℕ) (number : ℕ)
    → script_named scripts name ≡ Some number → IsListed scripts number
named_listed scripts name number h = first_listed scripts
    (λ s. bytes_eq (map to_ascii_lowercase name) s.name) number h
