-- The code of defaults, of arguments and of engine calls does what they mean.
use Rattle.std.proofs.Common.{arith, ◌≡◌, ◌≤◌, ◌+◌, ◌-◌, ℕ, zero, suc, List, [], ◌∷◌, ◌++◌, length, drop, Option, Some, None, Bool, true, false, sym, subst, ◌∙◌, ap, refl, append_assoc}
use Rattle.std.specs.Prelude.{◌&&◌, ◌==◌, nat_le, slice_get, if◌then◌else◌}
use Rattle.std.specs.Option.{option_map, option_and_then}
use Rattle.std.proofs.lemmas.Bool.Decides.{nat_tests, Decides-eqb}
use Rattle.std.proofs.lemmas.List.{length-append, length-map, map-append, drop_at, append-nil}
use Rattle.nwq_value.specs.declared.value.Ty.{Ty}
use Rattle.nwq_value.specs.declared.value.Ty.TheVariants.{Void, Text as TextTy, Object as ObjectTy}
use Rattle.nwq_value.specs.declared.value.Value.{Value}
use Rattle.nwq_value.specs.declared.value.Value.TheVariants.{Text, Object}
use Rattle.nwq_value.specs.declared.engine.Const.{Const}
use Rattle.nwq_value.specs.declared.engine.Const.TheVariants as const
use Rattle.nwq_value.specs.declared.engine.Param.{Param}
use Rattle.nwq_value.specs.declared.engine.Role.{Role}
use Rattle.nwq_value.specs.declared.engine.Role.TheVariants.{Built, Pure, World as WorldRole, Uncallable}
use Rattle.nwq_value.specs.declared.engine.Routine.{Routine}
use Rattle.nwq_value.specs.Engine.{const_type}
use Rattle.nwq_value.specs.Values.{type_of as type_of_value}
use Rattle.ncs_code.specs.Plain.{PlainOp}
use Rattle.ncs_code.specs.Plain as ops
use Rattle.ncs_code.specs.Spelling.{op_size}
use Rattle.ncs_code.specs.File.{op_at, resume_place}
use Rattle.ncs_emit.specs.Labelled.{Line, Instruction, Label, line_size, lines_size}
use Rattle.ncs_emit.specs.Standing.{LinesStand}
use Rattle.typing_rules.specs.declared.places.Callee.TheVariants.{Engine}
use Rattle.typing_rules.specs.Types.{is_void}
use Rattle.typing_rules.specs.Typed.{TypedExpr, TypedExprs, call, no_typed, more_typed, type_of}
use Rattle.typing_rules.specs.Cells.{Structs, cell_types, is_captured}
use Rattle.saved_state.specs.declared.cell.Cell.{Cell}
use Rattle.saved_state.specs.declared.cell.Cell.TheVariants.{Value as Holds}
use Rattle.saved_state.specs.declared.saved.Saved.{Saved}
use Rattle.saved_state.specs.Cells.{StackView, cells_beneath, captured}
use Rattle.stack_shape.specs.Ranges.{cell_count}
use Rattle.stack_shape.specs.Calls.{is_callable, action_count, argument_types as parameter_types}
use Rattle.emission_rules.specs.Operations.{bytes_of, literal_of, constant}
use Rattle.emission_rules.specs.Expressions.{constants, argument_labels, argument_code, count_arguments, arguments_cells, emit, emit_all, all_labels}
use Rattle.world_rules.specs.Alike.{OptionAlike}
use Rattle.world_rules.specs.AlikeLaws.{call as source_call}
use Rattle.world_rules.specs.Engine.{engine}
use Rattle.world_rules.specs.Pure.{CellLookup}
use Rattle.world_rules.specs.World.{World}
use Rattle.machine_rules.specs.Cells.{value_types, values_on}
use Rattle.machine_rules.specs.Calls.{Taken, taken, arguments, is_execute_script}
use Rattle.machine_rules.specs.Act.{Moves, Asks, Executes, act, stored, stored_cells, engine_called as machine_called, asked as machine_asked, executed as executed_act}
use Rattle.machine_rules.specs.Machine.{Goes, step, answered as machine_answered, executed as machine_executed}
use Rattle.machine_rules.specs.Laws.{EqualityIsTested}
use Rattle.source_meaning.specs.Values.{constant_value}
use Rattle.source_meaning.specs.Evaluation.{Variables, Deferred, Progress, Outcome, Gives, bind, spend}
use Rattle.source_meaning.specs.Expressions.{Running, Caller, Arguments, with_argument, parts_in, all_parts, answered, runs_script, runs_script_in, executed, asked, engine_called, defaults, deferred}
use Rattle.source_meaning.specs.Expressions.{argument, eval, evals}
use Rattle.source_meaning.specs.Expressions as meaning
use Rattle.source_meaning.specs.Scripts.{Function}
use Rattle.source_laws.specs.Ledger.{Machine, MachineHost, Took, Sim}
use Rattle.source_laws.specs.Kept.{pushed, AreHeld, Site, IsListed, at, Kept, spot_at}
use Rattle.source_laws.specs.Fine.{IsArgument, CallsRoutine, IsFine, AreFine}
use Rattle.source_laws.specs.Simulation.{Executor, running_at, HoldsValue, value_place, value_credits, ExprRuns}
use Rattle.source_laws.specs.Calling.{pushed_all, all_types, with_types, types_before, constant_types, one_if, actions_in, EngineRuns, CapturesCarry, ExecutesRun}
use Rattle.source_laws.proofs.Cells.{pushed_over, pushed_length, held_over, held_values}
use Rattle.source_laws.specs.RangeLemmas.{count_of}
use Rattle.source_laws.proofs.Ledger.{took_none, took_cost, took_less, sim_bind, sim_paid, sim_chosen, sim_map}
use Rattle.source_laws.proofs.Places.{above_globals}
use Rattle.source_laws.proofs.Steps.{both_stand, sizes, acted, constant_goes, jump_goes}
use Rattle.source_laws.proofs.Calls.{single_types, ValuesAreValues, taken_values, taken_one, arguments_fit, actions_fit, count_fits, all_over, held_all}

-- machine and meaning call the same routine ExecuteScript
same_routine : (r : Role) → meaning.is_execute_script r ≡ is_execute_script r
same_routine (Built n) = refl
same_routine (Pure k) = refl
same_routine WorldRole = refl
same_routine Uncallable = refl

-- ---- each argument leaves a credit

pub spare_defaults : List Const → ℕ → ℕ
spare_defaults [] c = c
spare_defaults (k ∷ ks) c = suc (spare_defaults ks c)

pub spare : TypedExprs → ℕ → ℕ
spare no_typed c = c
spare (more_typed e es) c = suc (spare es c)

spare_is : (es : TypedExprs) (c : ℕ) → spare es c ≡ count_arguments es + c
unfolding spare
spare_is no_typed c = omega arith
spare_is (more_typed e es) c = let h = spare_is es c in omega (arith, h)

spare_defaults_is : (ks : List Const) (c : ℕ) → spare_defaults ks c ≡ length ks + c
unfolding spare_defaults
spare_defaults_is [] c = omega arith
spare_defaults_is (k ∷ ks) c = let h = spare_defaults_is ks c in omega (arith, h)

spare_all : (es : TypedExprs) (ks : List Const) (c : ℕ) → spare es (spare_defaults ks c) ≡ count_arguments es + length ks + c
spare_all es ks c = let h = spare_is es (spare_defaults ks c) in let k = spare_defaults_is ks c in omega (arith, h, k)

pub spare_more : (es : TypedExprs) (ks : List Const) (c : ℕ) → c ≤ spare es (spare_defaults ks c)
spare_more es ks c = let h = spare_all es ks c in omega (arith, h)

some_parameter : (ps : List Param) {t : Ty} {ts : List Ty} → parameter_types ps ≡ t ∷ ts → 1 ≤ length ps
some_parameter [] h = absurd cc
some_parameter (p ∷ ps) h = omega arith

-- ---- how many cells arguments take

total : List (List Ty) → ℕ
total [] = 0
total (ts ∷ rest) = length ts + total rest

all_length : (vs : List (List Value)) (cells : List Cell) → length (pushed_all vs cells) ≡ total (all_types vs) + length cells
unfolding total
all_length [] cells = omega arith
all_length (v ∷ vs) cells =
    let a = pushed_length v (pushed_all vs cells) in
    let b = all_length vs cells in
    let c = length-map v type_of_value in
    omega (arith, a, b, c)

void_cells : (structs : Structs) (t : Ty) → is_void t ≡ true → length (cell_types structs t) ≡ 0
void_cells structs Void h = refl
void_cells structs t h = absurd cc

total_case : (structs : Structs) (b : Bool) (e : TypedExpr) (rest : List (List Ty)) → is_void (type_of e) ≡ b
    → total (with_types b (cell_types structs (type_of e)) rest) ≡ length (cell_types structs (type_of e)) + total rest
unfolding total
total_case structs true e rest h = let none = void_cells structs (type_of e) h in omega (arith, none)
total_case structs false e rest h = refl

total_before : (x : Site) (es : TypedExprs) (rest : List (List Ty)) → total (types_before x.layout.structs es rest) ≡ arguments_cells x.layout es + total rest
unfolding total
total_before x no_typed rest = omega arith
total_before x (more_typed e es) rest =
    let a = total_case x.layout.structs (is_captured e) e (types_before x.layout.structs es rest) refl in
    let b = total_before x es rest in
    omega (arith, a, b)

joined : (code : List PlainOp) (places : ℕ → ℕ) (place : ℕ) (a b : List Line) → LinesStand code places place a → LinesStand code places (place + lines_size a) b → LinesStand code places place (a ++ b)
joined code places place [] b h k = let e : place + 0 ≡ place = omega arith in subst (λ m. LinesStand code places m b) e k
joined code places place (line ∷ a) b h k =
    let e : place + (line_size line + lines_size a) ≡ place + line_size line + lines_size a = omega arith in
    (h.0, joined code places (place + line_size line) a b h.1 (subst (λ m. LinesStand code places m b) e k))

constant_alone : (k : Const) (self : ℕ) → value_types (constant_value self k ∷ []) ≡ const_type k ∷ []
constant_alone (const.Int n) self = refl
constant_alone (const.Text bytes) self = refl
constant_alone const.SelfObject self = refl
constant_alone const.InvalidObject self = refl

module _ (host : MachineHost) (R : Saved → Deferred → Type 0) (tested : EqualityIsTested) (x : Site) (listed : IsListed host x)
    (tables : CellLookup) (execute : Executor) (functions : List Function) (caller : Caller) (most : ℕ) where
  abbrev here : Running
  here = running_at host tables execute x

  abbrev Runs : TypedExpr → Type 0
  Runs e = ExprRuns host R x tables execute functions caller most e

  -- ---- defaults

  abbrev HasDefaults : List ℕ → ℕ → List Const → List (List Value) → Progress → Type 0
  HasDefaults scope size ks vs p = (all_types vs ≡ constant_types ks) × Kept R x scope size p.globals p.locals p.world

  abbrev defaults_place : (scope : List ℕ) (size : ℕ) (ks : List Const) → ℕ → List Cell → List Cell → List ℕ
      → List Saved → (vs : List (List Value)) (p : Progress) → HasDefaults scope size ks vs p → Machine
  defaults_place scope size ks next base between calls pending vs p h = spot_at R x next (pushed_all vs base) between calls pending h.1

  pub defaults_run : (ks : List Const) (scope : List ℕ) (size place c : ℕ) (p : Progress)
      (K : Kept R x scope size p.globals p.locals p.world) (base between : List Cell) (calls : List ℕ)
      (pending : List Saved)
      → LinesStand x.code x.places place (constants ks)
      → Sim host R (HasDefaults scope size ks)
      (defaults_place scope size ks (place + lines_size (constants ks)) base between calls pending) p.left c
      (spot_at R x place base between calls pending K) (λ vs. spare_defaults ks c) (defaults x.self ks p)
  unfolding spare_defaults
  defaults_run [] scope size place c p K base between calls pending stands =
      let same : place ≡ place + 0 = omega arith in (
        (refl, K),
        subst (λ k. Took host p.left c (spot_at R x place base between calls pending K) p.left c
            (spot_at R x k base between calls pending K)) same
            (took_none host p.left c (spot_at R x place base between calls pending K)),
      )
  defaults_run (k ∷ ks) scope size place c p K base between calls pending stands =
      let first = constants ks in
      let last = constant k ∷ [] in
      let b = both_stand x.code x.places place first last stands in
      let middle = place + lines_size first in
      let next = place + lines_size (first ++ last) in
      let goes : middle + op_size (ops.Const (literal_of k)) ≡ next = let h = sizes first last in omega (arith, h) in
      sim_bind host R (HasDefaults scope size ks) (defaults_place scope size ks middle base between calls pending)
      (HasDefaults scope size (k ∷ ks)) (defaults_place scope size (k ∷ ks) next base between calls pending)
      p.left c (spot_at R x place base between calls pending K) (λ vs. spare_defaults ks c)
      (λ vs. suc (spare_defaults ks c)) (defaults x.self ks p)
      (λ vs q. spend q (λ r. Gives ((constant_value x.self k ∷ []) ∷ vs) r))
      (defaults_run ks scope size place c p K base between calls pending b.0)
      (λ vs q h less.
      let L = h.1 in
      let s = spot_at R x middle (pushed_all vs base) between calls pending L in
      let t = spot_at R x next (Holds (constant_value x.self k) ∷ pushed_all vs base) between calls pending L in
      sim_paid host R (HasDefaults scope size (k ∷ ks))
      (defaults_place scope size (k ∷ ks) next base between calls pending) (spare_defaults ks c) s
      (λ vs. suc (spare_defaults ks c)) q (λ r. Gives ((constant_value x.self k ∷ []) ∷ vs) r) L.alike
      (λ m left. (
        t,
        constant_goes host x listed middle next k (pushed_all vs base ++ (L.frame ++ (between ++ L.under))) calls pending L.machine b.1.0 goes,
        (
          (ap (λ ts. ts ∷ all_types vs) (constant_alone k x.self) ∙ ap (λ ts. (const_type k ∷ []) ∷ ts) h.0, L),
          took_less host (suc (spare_defaults ks c)) (omega arith) (took_none host m (15 + spare_defaults ks c) t),
        ),
      )))

  -- ---- states that are captured

  all_held : (cells : List Cell) → AreHeld cells → (v : List Value) × (values_on (length cells) cells ≡ Some v)
  all_held cells h = let v = held_values cells [] h in (v.0, ap (values_on (length cells)) (sym (append-nil cells)) ∙ v.1)

  store_goes : {scope : List ℕ} {size : ℕ} {globals locals : Variables} {world : World Deferred} (place depth : ℕ)
      (temps between : List Cell) (calls : List ℕ) (pending : List Saved) (K : Kept R x scope size globals locals world)
      → op_at x.code place ≡ Some (ops.StoreState (bytes_of x.layout.globals) (bytes_of depth)) → length temps + size ≡ depth → AreHeld temps → x.layout.globals ≡ x.bp
      → step host (spot_at R x place temps between calls pending K)
      ≡ Some (Goes (spot_at R x (place + 10) temps between calls
      (captured x.script (resume_place place) x.layout.globals depth
      (record { cells = temps ++ (K.frame ++ (between ++ K.under)); bp = x.bp }) ∷ pending) K))
  unfolding act
  store_goes place depth temps between calls pending K begins deep held full =
      let cells = temps ++ (K.frame ++ (between ++ K.under)) in
      let stack : StackView = record { cells = cells; bp = x.bp } in
      let saved = captured x.script (resume_place place) x.layout.globals depth stack in
      let f = (at x place cells calls pending K.machine).running in
      let whole = above_globals temps K.frame between K.under in
      let long = ap length whole in
      let parts = length-append (temps ++ (K.frame ++ between)) K.under in
      let under = K.under_size in
      let reached : nat_le x.bp (length cells) ≡ true = grind (arith, nat_tests, long, parts, under) in
      let above : length (temps ++ (K.frame ++ between)) ≡ length cells - x.bp = omega (arith, long, parts, under) in
      let beneath : cells_beneath x.bp cells ≡ K.under = ap (drop (length cells - x.bp)) whole ∙ drop_at (temps ++ (K.frame ++ between)) K.under (length cells - x.bp) above in
      let globals = all_held K.under K.under_held in
      let globals_there : values_on x.layout.globals (cells_beneath x.bp cells)
      ≡ Some globals.0 = ap (values_on x.layout.globals) beneath ∙ ap (λ k. values_on k K.under) (full ∙ sym under)
      ∙ globals.1 in
      let top = held_values (temps ++ K.frame) (between ++ K.under) (held_over temps K.frame held K.frame_held) in
      let frame = K.frame_size in
      let count = length-append temps K.frame in
      let size_is : depth ≡ length (temps ++ K.frame) = omega (arith, deep, frame, count) in
      let locals_there : values_on depth cells
      ≡ Some top.0 = ap (values_on depth) (sym (append_assoc temps K.frame (between ++ K.under)))
      ∙ ap (λ k. values_on k ((temps ++ K.frame) ++ (between ++ K.under))) size_is ∙ top.1 in
      let kept : stored_cells x.layout.globals depth f ≡ Some saved =
      ap (λ (b : Bool). if b then option_and_then (λ _. option_map (λ _. saved) (values_on depth cells)) (values_on x.layout.globals (cells_beneath x.bp cells)) else None) reached
      ∙ ap (option_and_then (λ _. option_map (λ _. saved) (values_on depth cells))) globals_there
      ∙ ap (option_map (λ _. saved)) locals_there in
      let next = at x (place + 10) cells calls (saved ∷ pending) K.machine in
      let act_is : stored (bytes_of x.layout.globals) (bytes_of depth) f ≡ Some (Moves next.running) =
      ap (option_and_then (λ g. option_and_then
      (λ l. option_map (λ s. Moves (record f { place = place + 10; pending = s ∷ pending })) (stored_cells g l f))
      (cell_count (bytes_of depth)))) (count_of x.layout.globals)
      ∙ ap (option_and_then (λ l. option_map (λ s. Moves (record f { place = place + 10; pending = s ∷ pending })) (stored_cells x.layout.globals l f))) (count_of depth)
      ∙ ap (option_map (λ s. Moves (record f { place = place + 10; pending = s ∷ pending }))) kept in
      acted host x listed place (ops.StoreState (bytes_of x.layout.globals) (bytes_of depth)) cells calls pending K.machine (Moves next.running) begins act_is

  -- ---- arguments

  -- what is captured among arguments: at most one action
  pub record Captured (pending now : List Saved) (action : Option Deferred) : Type 0 where
    pub saved : Saved
    pub deferred : Deferred
    pub is : action ≡ Some deferred
    pub stored : now ≡ saved ∷ pending
    pub carries : R saved deferred

  pub record HasArguments (scope : List ℕ) (size : ℕ) (es : TypedExprs) (a : Arguments) (pending : List Saved) (b : Arguments) (q : Progress) : Type 0 where
    pub types : all_types b.values ≡ types_before x.layout.structs es (all_types a.values)
    pub kept : Kept R x scope size q.globals q.locals q.world
    pub now : List Saved
    pub none : actions_in es ≡ 0 → (b.action ≡ a.action) × (now ≡ pending)
    pub one : actions_in es ≡ 1 → Captured pending now b.action

  abbrev arguments_place : (scope : List ℕ) (size : ℕ) (es : TypedExprs) (a : Arguments) → ℕ → List Cell → List Cell
      → List ℕ → (pending : List Saved) → (b : Arguments) (q : Progress) → HasArguments scope size es a pending b q
      → Machine
  arguments_place scope size es a next base between calls pending b q h = spot_at R x next (pushed_all b.values base) between calls h.now h.kept

  abbrev ArgumentsRun : TypedExprs → Type 0
  ArgumentsRun es =
      (scope : List ℕ) (size n depth place c : ℕ) (a : Arguments) (p : Progress) (K : Kept R x scope size p.globals p.locals p.world) (base between : List Cell) (calls : List ℕ) (pending : List Saved)
      → AreFine host.table functions x scope es → LinesStand x.code x.places place (emit_all x.layout n depth es)
      → length (pushed_all a.values base) + size ≡ depth → p.left ≤ most → AreHeld base → actions_in es ≤ 1
      → Sim host R (HasArguments scope size es a pending) (arguments_place scope size es a (place + lines_size (emit_all x.layout n depth es)) base between calls pending)
      p.left c (spot_at R x place (pushed_all a.values base) between calls pending K) (λ b. spare es c) (evals here caller scope es a p)

  none_run : ArgumentsRun no_typed
  unfolding spare
  none_run scope size n depth place c a p K base between calls pending fine stands deep le held few =
      let same : place ≡ place + 0 = omega arith in
      let s = spot_at R x place (pushed_all a.values base) between calls pending K in (
        record { types = refl; kept = K; now = pending; none = λ h. (refl, refl); one = λ h. absurd (omega (arith, h)) },
        subst (λ k. Took host p.left c s p.left c (spot_at R x k (pushed_all a.values base) between calls pending K)) same (took_none host p.left c s),
      )

  -- one argument more, behind the others
  value_case : (e : TypedExpr) (es : TypedExprs) (a b : Arguments) (pending : List Saved) (scope : List ℕ)
      (size label depth place next c : ℕ) (q : Progress) (h : HasArguments scope size es a pending b q)
      (base between : List Cell) (calls : List ℕ) → Runs e → is_captured e ≡ false
      → IsFine host.table functions x scope e → LinesStand x.code x.places place (emit x.layout label depth e)
      → place + lines_size (emit x.layout label depth e) ≡ next
      → length (pushed_all b.values base) + size ≡ depth → q.left ≤ most → AreHeld base
      → Sim host R (HasArguments scope size (more_typed e es) a pending) (arguments_place scope size (more_typed e es) a next base between calls pending)
      q.left c (spot_at R x place (pushed_all b.values base) between calls h.now h.kept) (λ d. suc c) (argument here scope false e (λ r. eval here caller scope e r) b q)
  value_case e es a b pending scope size label depth place next c q h base between calls re plain fine stands goes deep le held =
      let B = HasArguments scope size (more_typed e es) a pending in
      sim_bind host R (HoldsValue R x scope size (type_of e)) (value_place R x scope size (type_of e) (place + lines_size (emit x.layout label depth e)) (pushed_all b.values base) between calls h.now)
      B (arguments_place scope size (more_typed e es) a next base between calls pending)
      q.left c (spot_at R x place (pushed_all b.values base) between calls h.now h.kept) (value_credits c) (λ d. suc c) (eval here caller scope e q) (λ parts r. Gives (with_argument parts b) r)
      (re scope size label depth place c q h.kept (pushed_all b.values base) between calls h.now fine stands deep le (held_all b.values base held))
      (λ v r k less.
      let counts : (m : ℕ) → actions_in (more_typed e es) ≡ m → actions_in es ≡ m = λ m is. no_more (actions_in es) ∙ ap (λ (t : Bool). one_if t + actions_in es) (sym plain) ∙ is in (
        record {
          types = ap (λ ts. ts ∷ all_types b.values) k.0 ∙ ap (λ ts. cell_types x.layout.structs (type_of e) ∷ ts) h.types
              ∙ ap (λ (t : Bool). with_types t (cell_types x.layout.structs (type_of e)) (types_before x.layout.structs es (all_types a.values))) (sym plain);
          kept = k.1;
          now = h.now;
          none = λ is. h.none (counts 0 is);
          one = λ is. h.one (counts 1 is);
        },
        subst (λ j. Took host r.left (8 + c)
            (spot_at R x (place + lines_size (emit x.layout label depth e))
            (pushed v (pushed_all b.values base)) between calls h.now k.1) r.left (suc c)
            (spot_at R x j (pushed v (pushed_all b.values base)) between calls h.now k.1)) goes
            (took_less host (suc c) (omega arith)
            (took_none host r.left (8 + c)
            (spot_at R x (place + lines_size (emit x.layout label depth e))
            (pushed v (pushed_all b.values base)) between calls h.now k.1))),
      ))
    where
      no_more : (n : ℕ) → n ≡ 0 + n
      no_more n = omega arith

  -- an action is captured, and its code is jumped over
  action_case : (e : TypedExpr) (es : TypedExprs) (a b : Arguments) (pending : List Saved) (scope : List ℕ)
      (size label here_label depth place next c : ℕ) (q : Progress) (h : HasArguments scope size es a pending b q)
      (base between : List Cell) (calls : List ℕ) → CapturesCarry host R x tables execute functions → is_captured e ≡ true → IsFine host.table functions x scope e → x.layout.globals ≡ x.bp
      → LinesStand x.code x.places place (argument_code x.layout here_label depth true (emit x.layout label depth e))
      → place + lines_size (argument_code x.layout here_label depth true (emit x.layout label depth e)) ≡ next
      → length (pushed_all b.values base) + size ≡ depth → AreHeld base → actions_in (more_typed e es) ≤ 1
      → Sim host R (HasArguments scope size (more_typed e es) a pending) (arguments_place scope size (more_typed e es) a next base between calls pending)
      q.left c (spot_at R x place (pushed_all b.values base) between calls h.now h.kept) (λ d. suc c) (argument here scope true e (λ r. eval here caller scope e r) b q)
  action_case e es a b pending scope size label here_label depth place next c q h base between calls captures action fine full stands goes deep held few =
      let value = emit x.layout label depth e in
      let retn = Instruction ops.Retn ∷ [] in
      let K = h.kept in
      let temps = pushed_all b.values base in
      let temps_held = held_all b.values base held in
      let sixteen : place + 10 + 6 ≡ resume_place place = omega arith in
      let code = subst (λ k. LinesStand x.code x.places k (value ++ (Instruction ops.Retn ∷ Label here_label ∷ []))) sixteen stands.1.1 in
      let parts = both_stand x.code x.places (resume_place place) value (Instruction ops.Retn ∷ Label here_label ∷ []) code in
      let with_retn = joined x.code x.places (resume_place place) value retn parts.0 (parts.1.0, tt) in
      let saved = captured x.script (resume_place place) x.layout.globals depth (record { cells = temps ++ (K.frame ++ (between ++ K.under)); bp = x.bp }) in
      let s0 = spot_at R x place temps between calls h.now K in
      let s1 = spot_at R x (place + 10) temps between calls (saved ∷ h.now) K in
      let s2 = spot_at R x next temps between calls (saved ∷ h.now) K in
      let ending : x.places here_label ≡ next = let z = sizes value (Instruction ops.Retn ∷ Label here_label ∷ []) in parts.1.1.0 ∙ omega (arith, goes, z) in
      let first = store_goes place depth temps between calls h.now K stands.0 deep temps_held full in
      let second = jump_goes host x listed (place + 10) next _ (temps ++ (K.frame ++ (between ++ K.under))) calls (saved ∷ h.now) K.machine stands.1.0.begins (stands.1.0.leads ∙ ending) in
      let rest_none : actions_in es ≡ 0 = let all = ap (λ (t : Bool). one_if t + actions_in es) action in omega (arith, all, few) in
      let before = h.none rest_none in
      sim_paid host R (HasArguments scope size (more_typed e es) a pending) (arguments_place scope size (more_typed e es) a next base between calls pending) c s0 (λ d. suc c) q
      (λ r. Gives (record b { action = Some (deferred here scope e r) }) r) K.alike
      (λ m left.
      let r = record q { left = m } in (
        s1,
        first,
        (
          record {
            types = h.types ∙ ap (λ (t : Bool). with_types t (cell_types x.layout.structs (type_of e)) (types_before x.layout.structs es (all_types a.values))) (sym action);
            kept = K;
            now = saved ∷ h.now;
            none = λ is. absurd (let all = ap (λ (t : Bool). one_if t + actions_in es) action in omega (arith, all, is));
            one = λ is. record {
              saved = saved;
              deferred = deferred here scope e r;
              is = refl;
              stored = ap (λ ps. saved ∷ ps) before.1;
              carries = captures scope size label depth place e r K temps between fine with_retn deep temps_held full;
            };
          },
          took_cost host m (15 + c) (suc c) s1 s2 (omega arith) second,
        ),
      ))

  -- ---- all arguments

  abbrev pub EachRuns : TypedExprs → Type 0
  EachRuns no_typed = Unit {0}
  EachRuns (more_typed e es) = (is_captured e ≡ false → Runs e) × EachRuns es

  argument_case : (t : Bool) (e : TypedExpr) (es : TypedExprs) (a b : Arguments) (pending : List Saved) (scope : List ℕ)
      (size first second depth place next c : ℕ) (q : Progress) (h : HasArguments scope size es a pending b q)
      (base between : List Cell) (calls : List ℕ) → CapturesCarry host R x tables execute functions
      → (is_captured e ≡ false → Runs e) → is_captured e ≡ t → IsFine host.table functions x scope e
      → IsArgument x e
      → LinesStand x.code x.places place (argument_code x.layout first depth t (emit x.layout (second + argument_labels t) depth e))
      → place + lines_size (argument_code x.layout first depth t (emit x.layout (second + argument_labels t) depth e)) ≡ next
      → length (pushed_all b.values base) + size ≡ depth → q.left ≤ most → AreHeld base → actions_in (more_typed e es) ≤ 1
      → Sim host R (HasArguments scope size (more_typed e es) a pending) (arguments_place scope size (more_typed e es) a next base between calls pending)
      q.left c (spot_at R x place (pushed_all b.values base) between calls h.now h.kept) (λ d. suc c) (argument here scope t e (λ r. eval here caller scope e r) b q)
  argument_case true e es a b pending scope size first second depth place next c q h base between calls captures re is fine fits stands goes deep le held few =
      action_case e es a b pending scope size (second + argument_labels true) first depth place next c q h base between calls captures is fine (fits.made is) stands goes deep held few
  argument_case false e es a b pending scope size first second depth place next c q h base between calls captures re is fine fits stands goes deep le held few =
      value_case e es a b pending scope size (second + argument_labels false) depth place next c q h base between calls (re is) is fine stands goes deep le held

  fewer_actions : (t : Bool) (n : ℕ) → one_if t + n ≤ 1 → n ≤ 1
  fewer_actions true n h = omega arith
  fewer_actions false n h = omega arith

  more_run : (e : TypedExpr) (es : TypedExprs) → CapturesCarry host R x tables execute functions → (is_captured e ≡ false → Runs e) → ArgumentsRun es → ArgumentsRun (more_typed e es)
  unfolding spare
  more_run e es captures re res scope size n depth place c a p K base between calls pending fine stands deep le held few =
      let l = x.layout in
      let first = emit_all l n depth es in
      let within = depth + arguments_cells l es in
      let code = argument_code l (n + all_labels es) within (is_captured e) (emit l (n + all_labels es + argument_labels (is_captured e)) within e) in
      let b = both_stand x.code x.places place first code stands in
      let middle = place + lines_size first in
      let next = place + lines_size (first ++ code) in
      let goes : middle + lines_size code ≡ next = let h = sizes first code in omega (arith, h) in
      sim_bind host R (HasArguments scope size es a pending) (arguments_place scope size es a middle base between calls pending)
      (HasArguments scope size (more_typed e es) a pending) (arguments_place scope size (more_typed e es) a next base between calls pending)
      p.left c (spot_at R x place (pushed_all a.values base) between calls pending K) (λ d. spare es c)
      (λ d. suc (spare es c)) (evals here caller scope es a p)
      (λ d q. argument here scope (is_captured e) e (λ r. eval here caller scope e r) d q)
      (res scope size n depth place c a p K base between calls pending fine.2 b.0 deep le held (fewer_actions (is_captured e) (actions_in es) few))
      (λ d q h less.
      let before = all_length a.values base in
      let after = all_length d.values base in
      let types = ap total h.types in
      let counted = total_before x es (all_types a.values) in
      argument_case (is_captured e) e es a d pending scope size (n + all_labels es) (n + all_labels es) within middle next (spare es c) q h base between calls captures re refl fine.0 fine.1 b.1 goes
      (omega (arith, before, after, types, counted, deep)) (omega (arith, less, le)) held few)

  pub arguments_run : (es : TypedExprs) → CapturesCarry host R x tables execute functions → EachRuns es → ArgumentsRun es
  arguments_run no_typed captures each = none_run
  arguments_run (more_typed e es) captures each = more_run e es captures each.0 (arguments_run es captures each.1)

  -- ---- a call's arguments, with its defaults

  pub record HasCall (scope : List ℕ) (size : ℕ) (es : TypedExprs) (ks : List Const) (pending : List Saved) (b : Arguments) (q : Progress) : Type 0 where
    pub types : all_types b.values ≡ types_before x.layout.structs es (constant_types ks)
    pub kept : Kept R x scope size q.globals q.locals q.world
    pub now : List Saved
    pub none : actions_in es ≡ 0 → (b.action ≡ None) × (now ≡ pending)
    pub one : actions_in es ≡ 1 → Captured pending now b.action

  abbrev pub call_place : (scope : List ℕ) (size : ℕ) (es : TypedExprs) (ks : List Const) → ℕ → List Cell → List Cell
      → List ℕ → (pending : List Saved) → (b : Arguments) (q : Progress) → HasCall scope size es ks pending b q
      → Machine
  call_place scope size es ks next base between calls pending b q h = spot_at R x next (pushed_all b.values base) between calls h.now h.kept

  abbrev pub arguments_of : List ℕ → TypedExprs → List Const → Progress → Outcome Arguments
  arguments_of scope es ks p = bind (defaults x.self ks p) (λ values q. evals here caller scope es (record { values = values; action = None }) q)

  constants_total : (ks : List Const) → total (constant_types ks) ≡ length ks
  unfolding total
  constants_total [] = refl
  constants_total (k ∷ ks) = let h = constants_total ks in omega (arith, h)

  pub call_arguments_run : (es : TypedExprs) (ks : List Const) → CapturesCarry host R x tables execute functions → EachRuns es
      → (scope : List ℕ) (size n depth place c : ℕ) (p : Progress) (K : Kept R x scope size p.globals p.locals p.world) (base between : List Cell) (calls : List ℕ) (pending : List Saved)
      → AreFine host.table functions x scope es
      → LinesStand x.code x.places place (constants ks ++ emit_all x.layout n depth es)
      → length base + length ks + size ≡ depth → p.left ≤ most → AreHeld base → actions_in es ≤ 1
      → Sim host R (HasCall scope size es ks pending) (call_place scope size es ks (place + lines_size (constants ks ++ emit_all x.layout n depth es)) base between calls pending)
      p.left c (spot_at R x place base between calls pending K) (λ b. spare es (spare_defaults ks c)) (arguments_of scope es ks p)
  call_arguments_run es ks captures each scope size n depth place c p K base between calls pending fine stands deep le held few =
      let first = constants ks in
      let second = emit_all x.layout n depth es in
      let b = both_stand x.code x.places place first second stands in
      let middle = place + lines_size first in
      let next = place + lines_size (first ++ second) in
      let goes : middle + lines_size second ≡ next = let h = sizes first second in omega (arith, h) in
      sim_bind host R (HasDefaults scope size ks) (defaults_place scope size ks middle base between calls pending)
      (HasCall scope size es ks pending) (call_place scope size es ks next base between calls pending)
      p.left c (spot_at R x place base between calls pending K) (λ vs. spare_defaults ks c)
      (λ d. spare es (spare_defaults ks c)) (defaults x.self ks p)
      (λ vs q. evals here caller scope es (record { values = vs; action = None }) q)
      (defaults_run ks scope size place c p K base between calls pending b.0)
      (λ vs q h less.
      let a : Arguments = record { values = vs; action = None } in
      let count = all_length vs base in
      let types = ap total h.0 in
      let defaults_size = constants_total ks in
      sim_map host R (HasArguments scope size es a pending) (arguments_place scope size es a (middle + lines_size second) base between calls pending)
      (HasCall scope size es ks pending) (call_place scope size es ks next base between calls pending) q.left
      (spare_defaults ks c) (spot_at R x middle (pushed_all vs base) between calls pending h.1)
      (λ d. spare es (spare_defaults ks c)) (λ d. spare es (spare_defaults ks c)) (evals here caller scope es a q)
      (arguments_run es captures each scope size n depth middle
      (spare_defaults ks c) a q h.1 base between calls pending fine b.1
      (omega (arith, count, types, defaults_size, deep)) (omega (arith, less, le)) held few)
      (λ d r g. (
        record { types = g.types ∙ ap (types_before x.layout.structs es) h.0; kept = g.kept; now = g.now; none = g.none; one = g.one },
        subst (λ j. Took host r.left (spare es (spare_defaults ks c))
            (spot_at R x (middle + lines_size second) (pushed_all d.values base) between calls g.now g.kept) r.left
            (spare es (spare_defaults ks c)) (spot_at R x j (pushed_all d.values base) between calls g.now g.kept)) goes
            (took_none host r.left (spare es (spare_defaults ks c)) (spot_at R x (middle + lines_size second) (pushed_all d.values base) between calls g.now g.kept)),
      )))

  -- ---- engine calls

  record TakenIs (params : List Param) (a : Arguments) (cells : List Cell) (pending now : List Saved) : Type 0 where
    action : Option Saved
    is : taken params (pushed_all a.values cells) now ≡ Some (record { values = all_parts a.values; action = action; cells = cells; pending = pending })
    alike : OptionAlike R action a.action

  taken_is : (params : List Param) (es : TypedExprs) (a : Arguments) (cells : List Cell) (pending now : List Saved) (n : ℕ) → actions_in es ≡ n → action_count params ≡ n → n ≤ 1
      → all_types a.values ≡ single_types (parameter_types params)
      → (actions_in es ≡ 0 → (a.action ≡ None) × (now ≡ pending))
      → (actions_in es ≡ 1 → Captured pending now a.action) → TakenIs params a cells pending now
  taken_is params es a cells pending now zero is count few types none one =
      let h = none is in
      record {
        action = None;
        is = ap (taken params (pushed_all a.values cells)) h.1 ∙ taken_values params a.values cells pending count types;
        alike = subst (OptionAlike R None) (sym h.0) tt;
      }
  taken_is params es a cells pending now (suc zero) is count few types none one =
      let h = one is in
      record {
        action = Some h.saved;
        is = ap (taken params (pushed_all a.values cells)) h.stored ∙ taken_one params a.values cells h.saved pending count types;
        alike = subst (OptionAlike R (Some h.saved)) (sym h.is) h.carries;
      }
  taken_is params es a cells pending now (suc (suc n)) is count few types none one = absurd (omega arith)

  flat_types : (vs : List (List Value)) (ts : List Ty) → all_types vs ≡ single_types ts → value_types (all_parts vs) ≡ ts
  flat_types [] [] h = refl
  flat_types [] (t ∷ ts) h = absurd cc
  flat_types (v ∷ vs) [] h = absurd cc
  flat_types (v ∷ vs) (t ∷ ts) h =
      let first : value_types v ≡ t ∷ [] = cc in
      let rest : all_types vs ≡ single_types ts = cc in
      map-append type_of_value v (all_parts vs) ∙ ap (λ us. us ++ value_types (all_parts vs)) first ∙ ap (λ us. t ∷ us) (flat_types vs ts rest)

  -- the frame behind the call, with what the engine answers on top
  answer_is : (o : Option Value) (place next : ℕ) (before cells : List Cell) (calls : List ℕ) (now pending : List Saved) (world after : World Saved)
      → machine_answered (record { value = o; world = after }) (at x next cells calls pending world).running
      (at x place before calls now world) ≡ at x next (pushed (parts_in o) cells) calls pending after
  answer_is None place next before cells calls now pending world after = refl
  answer_is (Some v) place next before cells calls now pending world after = refl

  name_and_target : (vs : List Value) → value_types vs ≡ TextTy ∷ ObjectTy ∷ [] → (name : List ℕ) × (target : ℕ) × (vs ≡ Text name ∷ Object target ∷ [])
  name_and_target (Text name ∷ Object target ∷ []) h = (name, target, refl)
  name_and_target vs h = absurd cc

  -- ACTION takes the arguments
  called_is : (routine count place : ℕ) (r : Routine) (a : Arguments) (temps rest : List Cell) (calls : List ℕ)
      (pending now : List Saved) (world : World Saved) → slice_get host.table.routines routine ≡ Some r
      → is_callable r ≡ true → count ≡ length r.params → (t : TakenIs r.params a (temps ++ rest) pending now)
      → machine_called host.table routine count (at x place (pushed_all a.values temps ++ rest) calls now world).running
      ≡ machine_asked routine count r (at x place (pushed_all a.values temps ++ rest) calls now world).running
      (record { values = all_parts a.values; action = t.action; cells = temps ++ rest; pending = pending })
  called_is routine count place r a temps rest calls pending now world is callable same t =
      let f = (at x place (pushed_all a.values temps ++ rest) calls now world).running in
      let test : (is_callable r && (count == length r.params)) ≡ true = ap (λ (b : Bool). b && (count == length r.params)) callable ∙ (Decides-eqb count (length r.params)).1 same in
      let took : arguments r count (pushed_all a.values temps ++ rest) now ≡ Some (record { values = all_parts a.values; action = t.action; cells = temps ++ rest; pending = pending }) =
      ap (λ (b : Bool). if b then taken r.params (pushed_all a.values temps ++ rest) now else None) test
      ∙ ap (λ cells. taken r.params cells now) (all_over a.values temps rest) ∙ t.is in
      ap (option_and_then (λ q. option_and_then (machine_asked routine count q f) (arguments q count (pushed_all a.values temps ++ rest) now))) is
      ∙ ap (option_and_then (machine_asked routine count r f)) took

  -- the instruction of a call, and what the call means
  action_runs : (t : Ty) (routine : ℕ) (es : TypedExprs) (ks : List Const) → EngineRuns host R tables
      → ExecutesRun host R x execute most → (call_fine : CallsRoutine host.table x.layout.structs t routine es ks)
      → ValuesAreValues es
      → (scope : List ℕ) (size place next c : ℕ) (a : Arguments) (q : Progress) (temps between : List Cell) (calls : List ℕ) (pending : List Saved) (h : HasCall scope size es ks pending a q)
      → op_at x.code place ≡ Some (ops.Action routine (count_arguments es + length ks)) → place + 5 ≡ next → q.left ≤ most → count_arguments es + length ks ≤ c → AreHeld temps
      → Sim host R (HoldsValue R x scope size t)
      (value_place R x scope size t next temps between calls pending) q.left c
      (spot_at R x place (pushed_all a.values temps) between calls h.now h.kept) (value_credits c)
      (engine_called here routine a q)
  unfolding act
  action_runs t routine es ks engine_runs executes fine values scope size place next c a q temps between calls pending h begins goes le spared held =
      let r = fine.routine in
      let count = count_arguments es + length ks in
      let L = h.kept in
      let rest = L.frame ++ (between ++ L.under) in
      let same = count_fits es ks r.params fine.arguments in
      let actions = actions_fit es ks r.params fine.arguments values in
      let types = h.types ∙ arguments_fit x.layout.structs es ks r.params fine.arguments fine.single values in
      let t_is = taken_is r.params es a (temps ++ rest) pending h.now (actions_in es) refl (sym actions) (let few = fine.actions in omega (arith, actions, few)) types h.none h.one in
      let s = spot_at R x place (pushed_all a.values temps) between calls h.now L in
      let after : Taken = record { values = all_parts a.values; action = t_is.action; cells = temps ++ rest; pending = pending } in
      let asks = called_is routine count place r a temps rest calls pending h.now L.machine fine.is fine.callable same t_is in
      let all = flat_types a.values (parameter_types r.params) types in
      let B = HoldsValue R x scope size t in
      let there = value_place R x scope size t next temps between calls pending in
      let runs_is : runs_script host.table routine ≡ is_execute_script r.role = ap runs_script_in fine.is ∙ same_routine r.role in
      sim_chosen host R B there q.left c s (value_credits c) (runs_script host.table routine) (λ u. executed here (all_parts a.values) u) (λ u. asked here routine a u) q
      (λ yes.
      let runs = engine_runs.runs routine r fine.is (sym runs_is ∙ yes) in
      let parts = name_and_target (all_parts a.values) (all ∙ runs.0) in
      let frame = (spot_at R x (place + 5) temps between calls pending L).running in
      let asked_is : machine_asked routine count r s.running after ≡ Some (Executes parts.0 parts.1 frame) =
      ap (λ (b : Bool). if b then executed_act (all_parts a.values) frame else Some (Asks routine (all_parts a.values) t_is.action frame)) (sym runs_is ∙ yes)
      ∙ ap (λ vs. executed_act vs frame) parts.2 in
      let takes = acted host x listed place (ops.Action routine count) (pushed_all a.values temps ++ rest) calls h.now L.machine (Executes parts.0 parts.1 frame) begins (asks ∙ asked_is) in
      let nothing : cell_types x.layout.structs t ≡ [] = fine.result ∙ runs.1 in
      subst (λ vs. Sim host R B there q.left c s (value_credits c) (executed here vs q)) (sym parts.2)
      (sim_map host R (HoldsValue R x scope size Void)
      (value_place R x scope size Void next temps between calls pending) B there q.left c s (value_credits c)
      (value_credits c) (execute parts.0 parts.1 q)
      (executes parts.0 parts.1 scope size next c q L temps between calls pending s le (let some = some_parameter r.params runs.0 in omega (arith, some, same, spared)) refl refl held
      (takes ∙ ap (λ k. Some (Goes (machine_executed host parts.0 parts.1 (spot_at R x k temps between calls pending L).running s))) goes))
      (λ v u g. ((g.0 ∙ sym nothing, g.1), took_none host u.left (8 + c) (spot_at R x next (pushed v temps) between calls pending g.1)))))
      (λ no.
      let frame = (spot_at R x (place + 5) temps between calls pending L).running in
      let asked_is : machine_asked routine count r s.running after ≡ Some (Asks routine (all_parts a.values) t_is.action frame) =
      ap (λ (b : Bool). if b then executed_act (all_parts a.values) frame else Some (Asks routine (all_parts a.values) t_is.action frame)) (sym runs_is ∙ no) in
      let gives = host.engine routine x.self (all_parts a.values) t_is.action L.machine in
      let means = engine host.table tables routine (source_call x.self (all_parts a.values) a.action) q.world in
      let value_is = engine_runs.value routine x.self (all_parts a.values) t_is.action a.action L.machine q.world t_is.alike L.alike in
      let world_is = engine_runs.world routine x.self (all_parts a.values) t_is.action a.action L.machine q.world t_is.alike L.alike in
      let K : Kept R x scope size q.globals q.locals means.world = record {
        under = L.under;
        frame = L.frame;
        machine = gives.world;
        under_size = L.under_size;
        frame_size = L.frame_size;
        under_held = L.under_held;
        frame_held = L.frame_held;
        global_values = L.global_values;
        local_values = L.local_values;
        alike = world_is;
      } in
      let takes = acted host x listed place (ops.Action routine count)
      (pushed_all a.values temps ++ rest) calls h.now L.machine
      (Asks routine (all_parts a.values) t_is.action frame) begins (asks ∙ asked_is)
      ∙ ap (λ u. Some (Goes u)) (answer_is gives.value place (place + 5) (pushed_all a.values temps ++ rest) (temps ++ rest) calls h.now pending L.machine gives.world)
      ∙ ap (λ o. Some (Goes (at x (place + 5) (pushed (parts_in o) (temps ++ rest)) calls pending gives.world))) value_is
      ∙ ap (λ k. Some (Goes (at x k (pushed (parts_in means.value) (temps ++ rest)) calls pending gives.world))) goes
      ∙ ap (λ cells. Some (Goes (at x next cells calls pending gives.world))) (sym (pushed_over (parts_in means.value) temps rest)) in
      let typed = ap (λ o. value_types (parts_in o)) (sym value_is) ∙ engine_runs.typed routine r x.self (all_parts a.values) t_is.action L.machine fine.is fine.callable all ∙ sym fine.result in
      sim_paid host R B there c s (value_credits c) q
      (λ u. answered (engine host.table tables routine (record { caller = x.self; values = all_parts a.values; action = a.action }) u.world) u) L.alike
      (λ m left. (
        spot_at R x next (pushed (parts_in means.value) temps) between calls pending K,
        takes,
        ((typed, K), took_less host (8 + c) (omega arith) (took_none host m (15 + c) (spot_at R x next (pushed (parts_in means.value) temps) between calls pending K))),
      )))

  values_are : (es : TypedExprs) (scope : List ℕ) → AreFine host.table functions x scope es → ValuesAreValues es
  values_are no_typed scope h = tt
  values_are (more_typed e es) scope h = (h.1.value, values_are es scope h.2)

  pub engine_call_runs : (t : Ty) (routine : ℕ) (es : TypedExprs) (ks : List Const) → EngineRuns host R tables
      → CapturesCarry host R x tables execute functions → ExecutesRun host R x execute most → EachRuns es
      → Runs (call t (Engine routine) es ks)
  engine_call_runs t routine es ks engine_runs captures executes each scope size n depth place c p K temps between calls pending fine stands deep le held =
      let within = depth + 0 + length ks in
      let first = constants ks ++ emit_all x.layout n within es in
      let last = Instruction (ops.Action routine (count_arguments es + length ks)) ∷ [] in
      let regroup : constants ks ++ (emit_all x.layout n within es ++ last) ≡ first ++ last = sym (append_assoc (constants ks) (emit_all x.layout n within es) last) in
      let lines = subst (LinesStand x.code x.places place) regroup stands in
      let b = both_stand x.code x.places place first last lines in
      let middle = place + lines_size first in
      let next = place + lines_size (constants ks ++ (emit_all x.layout n within es ++ last)) in
      let goes : middle + 5 ≡ next = let h = sizes first last in let k = ap lines_size regroup in omega (arith, h, k) in
      let call_fine = fine.0 in
      let values = values_are es scope fine.1 in
      let actions = actions_fit es ks call_fine.routine.params call_fine.arguments values in
      let few = call_fine.actions in
      sim_bind host R (HasCall scope size es ks pending) (call_place scope size es ks middle temps between calls pending)
      (HoldsValue R x scope size t) (value_place R x scope size t next temps between calls pending)
      p.left c (spot_at R x place temps between calls pending K) (λ b. spare es (spare_defaults ks c)) (value_credits c) (arguments_of scope es ks p) (λ a q. engine_called here routine a q)
      (call_arguments_run es ks captures each scope size n within place c p K temps between calls pending fine.1 b.0 (omega (arith, deep)) le held (omega (arith, actions, few)))
      (λ a q h less.
      let all = spare es (spare_defaults ks c) in
      let s = spot_at R x middle (pushed_all a.values temps) between calls h.now h.kept in
      sim_map host R (HoldsValue R x scope size t) (value_place R x scope size t next temps between calls pending)
      (HoldsValue R x scope size t) (value_place R x scope size t next temps between calls pending)
      q.left all s (value_credits all) (value_credits c) (engine_called here routine a q)
      (action_runs t routine es ks engine_runs executes call_fine values scope size middle next all a q temps between calls pending h b.1.0 goes (omega (arith, less, le))
      (let z = spare_all es ks c in omega (arith, z)) held)
      (λ v r g. (g, took_less host (8 + c) (let z = spare_more es ks c in omega (arith, z)) (took_none host r.left (8 + all) (spot_at R x next (pushed v temps) between calls pending g.1)))))
