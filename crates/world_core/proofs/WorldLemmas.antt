-- What worlds keep through calls.
use Rattle.std.proofs.Common.{◌≡◌, ◌≤◌, ℕ, suc, Bool, true, false, cond, List, [], ◌∷◌, drop, arith, Result, Ok, Err, Option, None, Some, slice_get, sym, ap, subst, ◌∙◌}
use Rattle.std.specs.List.{AllByRecursion}
use Rattle.std.specs.Option.{IfSome}
use Rattle.std.specs.Result.{IfOk, OnErr}
use Rattle.delay_agenda.specs.declared.entry.Entry.{Entry}
use Rattle.delay_agenda.specs.Laws.{TakeKeeps}
use Rattle.delay_agenda.specs.Waiting.{is_turn_of, turn_count}
use Rattle.nwq_value.specs.Engine.{EngineTable}
use Rattle.nwq_value.specs.declared.engine.Role.{Role}
use Rattle.nwq_value.specs.declared.engine.Role.TheVariants.{Pure}
use Rattle.nwq_value.specs.declared.engine.Routine.{Routine}
use Rattle.nwq_value.specs.declared.memory.NoMemory.{NoMemory}
use Rattle.nwq_value.specs.declared.value.Value.{Value}
use Rattle.world_rules.specs.Pure.{CellLookup, pure}
use Rattle.world_rules.specs.World.{World, count}
use Rattle.world_rules.specs.Rows.{Answered, Call}
use Rattle.world_rules.specs.Engine.{by_role, by_routine, engine}
use Rattle.world_rules.specs.Kept.{IsWorld, IsBegun, IsPlaced, BeginKeeps, EngineKeeps}
use Rattle.world_rules.specs.Turns.{with_entries}
use Rattle.world_parts.specs.Begun.{IsBegunAs}

answered : {X : Type 0} → (r : Result (Option Value) NoMemory) (a : Answered X) (w v : World X) → IfOk r (λ value. record { value = value; world = v } ≡ a) → OnErr r (v ≡ w) →
    IsWorld w → IsWorld a.world → IsWorld v
answered {X = X} (Ok value) a w v ok err before after = subst IsWorld (sym (ap (λ (x : Answered X). x.world) ok)) after
answered (Err e) a w v ok err before after = subst IsWorld (sym err) before

-- a call of a routine leaves what every world keeps
pub engine_kept : {X : Type 0} → EngineKeeps X → (table : EngineTable) (cell : CellLookup) (n : ℕ) (r : Routine) (c : Call X) (w v : World X) (result : Result (Option Value) NoMemory) →
    Some r ≡ slice_get table.routines n → IfOk result (λ value. record { value = value; world = v } ≡ by_role cell n r r.role c w) → OnErr result (v ≡ w) → IsWorld w → c.caller ≤ count w → IsWorld v
unfolding engine
engine_kept {X = X} keeps table cell n r c w v result there ok err world caller =
    answered result (by_role cell n r r.role c w) w v ok err world
    (subst (λ (o : Option Routine). IsWorld (by_routine cell n o c w).world) (sym there) (keeps table cell n c w world caller).world)

-- what a function of strings and numbers gives is the engine's answer, whoever calls
function_is : {X : Type 0} → (table : EngineTable) (cell : CellLookup) (n k : ℕ) (r : Routine) (c : Call X) (w : World X) (v : Option Value) →
    slice_get table.routines n ≡ Some r → r.role ≡ Pure k → v ≡ pure cell k c.values → record { value = v; world = w } ≡ engine table cell n c w
unfolding engine
function_is {X = X} table cell n k r c w v listed role is =
    ap (λ (v : Option Value). record { value = v; world = w }) is
    ∙ ap (λ (o : Role). by_role cell n r o c w) (sym role)
    ∙ ap (λ (o : Option Routine). by_routine cell n o c w) (sym listed)

pub function_answers : {X : Type 0} → (result : Result (Option Value) NoMemory) (table : EngineTable) (cell : CellLookup) (n k : ℕ) (r : Routine) (c : Call X) (w : World X) →
    slice_get table.routines n ≡ Some r → r.role ≡ Pure k → IfOk result (λ value. value ≡ pure cell k c.values) →
    IfOk result (λ value. record { value = value; world = w } ≡ engine table cell n c w)
function_answers {X = X} (Ok value) table cell n k r c w listed role is = function_is table cell n k r c w value listed role is
function_answers {X = X} (Err e) table cell n k r c w listed role is = tt

-- an entry that is begun
pub begun_kept : {X : Type 0} → BeginKeeps X → (until : ℕ) (w v : World X) (entry : Option (Entry X)) → IsWorld w → IsBegunAs until w entry v →
    IfSome entry (λ e. IsBegun until w (record { entry = e; world = v }))
begun_kept keeps until w v None world is = tt
begun_kept keeps until w v (Some e) world is = subst (λ o. IfSome o (IsBegun until w)) is (keeps until w world)

-- ---- an entry that is taken off

all_but_first : {A : Type 0} (P : A → Type 0) (xs : List A) → AllByRecursion P xs → AllByRecursion P (drop 1 xs)
all_but_first P [] all = tt
all_but_first P (x ∷ xs) all = all.1

no_more : (b : Bool) (n : ℕ) → n ≤ cond b (suc n) n
no_more true n = omega arith
no_more false n = omega arith

fewer_turns : {X : Type 0} (o : ℕ) (es : List (Entry X)) → turn_count o (drop 1 es) ≤ turn_count o es
fewer_turns o [] = omega arith
fewer_turns o (e ∷ es) = no_more (is_turn_of o e) (turn_count o es)

pub taken_kept : {X : Type 0} → TakeKeeps X → (w v : World X) → v ≡ with_entries (drop 1 w.agenda.entries) w → IsWorld w → IsWorld v
taken_kept {X = X} keeps w v is world = subst IsWorld (sym is) (record {
  counted = world.counted;
  agenda = keeps w.agenda world.agenda;
  placed = all_but_first (λ (e : Entry X). IsPlaced (count w) e.kind) w.agenda.entries world.placed;
  due = all_but_first (λ (e : Entry X). w.clock ≤ e.due) w.agenda.entries world.due;
  turns = λ o. let few = fewer_turns o w.agenda.entries in let all = world.turns o in omega arith;
})
