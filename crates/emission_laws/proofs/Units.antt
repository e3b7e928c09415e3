-- The code of a whole unit flows, and so is well stacked.
use Rattle.std.proofs.Common.{arith, ◌≡◌, ◌≤◌, ◌<◌, ◌+◌, inl, inr, ◌&&◌, cond, eqb, ℕ, zero, suc, List, [], ◌∷◌, ◌++◌, length, map, Option, Some, None, Bool, true, false, slice_get, sym, ◌∙◌, ap}
use Rattle.std.proofs.Common.{refl, subst, append_assoc, append-nil}
use Rattle.std.specs.Prelude.{nat_lt}
use Rattle.std.proofs.lemmas.Bool.Decides.{nat_tests, Decides-eqb}
use Rattle.std.proofs.lemmas.List.{length-append}
use Rattle.nss_tree.specs.Units.{structure, constant, global, function}
use Rattle.nwq_value.specs.declared.value.Ty.{Ty}
use Rattle.nwq_value.specs.declared.value.Ty.TheVariants.{Void, Int}
use Rattle.nwq_value.specs.Engine.{EngineTable}
use Rattle.ncs_code.specs.Plain as ops
use Rattle.ncs_code.specs.File.{header_size}
use Rattle.ncs_code.specs.Laws.{SizeSome}
use Rattle.ncs_emit.specs.declared.jump.Jump.TheVariants.{Jsr}
use Rattle.ncs_emit.specs.Labelled.{Line, JumpTo, lines_size, placements, program, place_of_label}
use Rattle.typing_rules.specs.declared.places.EntryPoint.{EntryPoint}
use Rattle.typing_rules.specs.declared.places.EntryPoint.TheVariants.{Main, Conditional}
use Rattle.typing_rules.specs.Typed.{TypedName, TypedParameter, TypedItem, TypedUnit}
use Rattle.typing_rules.specs.Numbers.{number_of}
use Rattle.typing_rules.specs.Cells.{Structs, cells}
use Rattle.emission_rules.specs.Layout.{Layout, layout_of, position, params_cells, names_cells, all_declared_cells, global_cells}
use Rattle.emission_rules.specs.Operations.{beneath}
use Rattle.emission_rules.specs.Statements.{no_exits, some_labels, names_labels, emit_names, initial, all_stmt_labels}
use Rattle.emission_rules.specs.Units.{body_count, functions_labels, emit_function, emit_functions, has_globals, globals_labels, emit_globals, entry_call, start_labels, emit_start, unit_code}
use Rattle.emission_rules.specs.Bounds.{IsBounded, AreItems, AreNames, AreStmts}
use Rattle.emission_rules.specs.Laws.{EachPlacedOnce, CodeStands}
use Rattle.stack_shape.specs.declared.shape.Slot.{Slot}
use Rattle.stack_shape.specs.declared.shape.Slot.TheVariants.{Of, Base}
use Rattle.stack_shape.specs.Rule.{rule}
use Rattle.stack_rules.specs.Tables.{Callee}
use Rattle.stack_rules.specs.Rules.{WellStacked}
use Rattle.source_meaning.specs.Scripts.{Function, functions, global_names, parameter_names}
use Rattle.source_laws.specs.Kept.{Site, In}
use Rattle.source_meaning.specs.Statements.{after_names}
use Rattle.source_laws.specs.FunctionsRun.{AreParameters}
use Rattle.emission_laws.specs.WellTyped.{site, start_site, IsBegin, IsFineEntry, IsWellTyped}
use Rattle.emission_laws.specs.Spots.{Starts, Runs, Spot}
use Rattle.emission_laws.specs.Table.{emitted_table, first_spot}
use Rattle.emission_laws.specs.Laws.{UnitsAreWellStacked}
use Rattle.emission_laws.proofs.Walks.{begin, flowing_meets, walk}
use Rattle.emission_laws.proofs.Cells.{Ground, over, Seen, on_top}
use Rattle.emission_laws.proofs.Ops.{started_turns, drop_turns}
use Rattle.emission_laws.proofs.Parts.{Labelled, labelled_both, Flows, both, and_line, line_and, nothing, one, back, call as calling, mark}
use Rattle.emission_laws.proofs.Turns.{Turn, turn, retyped, line_seq}
use Rattle.emission_laws.proofs.Expressions.{value_types, value_length, parameter_cells, callee_for}
use Rattle.emission_laws.proofs.Statements.{named_types, named_length, all_declared, all_declared_length, Sighted, sight_more, sight_named, names_flow, dropped_flows, dropped_all, ground, stmts_flow}

-- ---- lists of labels' spots

abbrev lookup : List Spot → ℕ → Spot
lookup [] n = begin
lookup (s ∷ ss) zero = s
lookup (s ∷ ss) (suc n) = lookup ss n

labelled_lookup : (spot_of : ℕ → Spot) (n : ℕ) (ss : List Spot) → ((i : ℕ) → i < length ss → spot_of (n + i) ≡ lookup ss i) → Labelled spot_of n ss
labelled_lookup spot_of n [] h = tt
labelled_lookup spot_of n (s ∷ ss) h =
    let here : n ≡ n + 0 = omega arith in (
      ap spot_of here ∙ h 0 (omega arith),
      labelled_lookup spot_of (n + 1) ss (λ i lt. (let same : n + 1 + i ≡ n + suc i = omega arith in ap spot_of same ∙ h (suc i) (omega arith))),
    )

own_labels : (ss : List Spot) → Labelled (lookup ss) 0 ss
own_labels ss = labelled_lookup (lookup ss) 0 ss (λ i lt. (let same : 0 + i ≡ i = omega arith in ap (lookup ss) same))

-- ---- names in a row

names_both : (l : Layout) (n depth : ℕ) (xs ys : List TypedName) → emit_names l n depth (xs ++ ys) ≡ emit_names l n depth xs ++ emit_names l (n + names_labels xs) (depth + names_cells l.structs xs) ys
names_both l n depth [] ys = ap (λ m. emit_names l m depth ys) (omega arith) ∙ ap (λ d. emit_names l (n + 0) d ys) (omega arith)
names_both l n depth (x ∷ xs) ys =
    let more = names_both l (n + some_labels x.value) (depth + cells l.structs x.name.ty) xs ys in
    let count : n + some_labels x.value + names_labels xs ≡ n + (some_labels x.value + names_labels xs) = omega arith in
    let deep : depth + cells l.structs x.name.ty + names_cells l.structs xs ≡ depth + (cells l.structs x.name.ty + names_cells l.structs xs) = omega arith in
    ap (λ (ls : List Line). initial l n depth x.name.ty x.value ++ ls) (more
    ∙ ap (λ m. emit_names l (n + some_labels x.value) (depth + cells l.structs x.name.ty) xs ++ emit_names l m (depth + cells l.structs x.name.ty + names_cells l.structs xs) ys) count
    ∙ ap (λ d. emit_names l (n + some_labels x.value) (depth + cells l.structs x.name.ty) xs ++ emit_names l (n + (some_labels x.value + names_labels xs)) d ys) deep)
    ∙ sym (append_assoc (initial l n depth x.name.ty x.value) (emit_names l (n + some_labels x.value) (depth + cells l.structs x.name.ty) xs) _)

globals_are : (l : Layout) (n depth : ℕ) (is : List TypedItem) → emit_globals l n depth is ≡ emit_names l n depth (global_names is)
globals_are l n depth [] = refl
globals_are l n depth (structure i x ls ∷ is) = globals_are l n depth is
globals_are l n depth (constant i t x v ∷ is) = globals_are l n depth is
globals_are l n depth (function i t x ps body ∷ is) = globals_are l n depth is
globals_are l n depth (global i t xs ∷ is) =
    ap (λ (ls : List Line). emit_names l n depth xs ++ ls) (globals_are l (n + names_labels xs) (depth + names_cells l.structs xs) is) ∙ sym (names_both l n depth xs (global_names is))

labels_both : (xs ys : List TypedName) → names_labels (xs ++ ys) ≡ names_labels xs + names_labels ys
labels_both [] ys = omega arith
labels_both (x ∷ xs) ys = omega (arith, labels_both xs ys)

globals_labelled : (is : List TypedItem) → globals_labels is ≡ names_labels (global_names is)
globals_labelled [] = refl
globals_labelled (structure i x ls ∷ is) = globals_labelled is
globals_labelled (constant i t x v ∷ is) = globals_labelled is
globals_labelled (function i t x ps body ∷ is) = globals_labelled is
globals_labelled (global i t xs ∷ is) = omega (arith, globals_labelled is, labels_both xs (global_names is))

cells_both : (structs : Structs) (xs ys : List TypedName) → names_cells structs (xs ++ ys) ≡ names_cells structs xs + names_cells structs ys
cells_both structs [] ys = omega arith
cells_both structs (x ∷ xs) ys = omega (arith, cells_both structs xs ys)

global_cells_are : (structs : Structs) (is : List TypedItem) → global_cells structs is ≡ names_cells structs (global_names is)
global_cells_are structs [] = refl
global_cells_are structs (structure i x ls ∷ is) = omega (arith, global_cells_are structs is)
global_cells_are structs (constant i t x v ∷ is) = omega (arith, global_cells_are structs is)
global_cells_are structs (function i t x ps body ∷ is) = omega (arith, global_cells_are structs is)
global_cells_are structs (global i t xs ∷ is) = omega (arith, global_cells_are structs is, cells_both structs xs (global_names is))

are_both : (bodies : ℕ) (l : Layout) (xs ys : List TypedName) → AreNames bodies l xs → AreNames bodies l ys → AreNames bodies l (xs ++ ys)
are_both bodies l [] ys f g = g
are_both bodies l (x ∷ xs) ys f g = (f.0, f.1, are_both bodies l xs ys f.2 g)

global_names_are : (bodies : ℕ) (l : Layout) (is : List TypedItem) → AreItems bodies l is → AreNames bodies l (global_names is)
global_names_are bodies l [] are = tt
global_names_are bodies l (structure i x ls ∷ is) are = global_names_are bodies l is are
global_names_are bodies l (constant i t x v ∷ is) are = global_names_are bodies l is are
global_names_are bodies l (function i t x ps None ∷ is) are = global_names_are bodies l is are
global_names_are bodies l (function i t x ps (Some body) ∷ is) are = global_names_are bodies l is are.2
global_names_are bodies l (global i t xs ∷ is) are = are_both bodies l xs (global_names is) are.0 (global_names_are bodies l is are.1)

no_names : (is : List TypedItem) → has_globals is ≡ false → global_names is ≡ []
no_names [] h = refl
no_names (structure i x ls ∷ is) h = no_names is h
no_names (constant i t x v ∷ is) h = no_names is h
no_names (function i t x ps body ∷ is) h = no_names is h
no_names (global i t xs ∷ is) h = absurd cc

in_kept : (n : ℕ) (ds : List TypedName) (scope : List ℕ) → In n scope → In n (after_names ds scope)
in_kept n [] scope h = h
in_kept n (d ∷ ds) scope h = in_kept n ds (d.name.number ∷ scope) (inr h)

in_after : (n : ℕ) (ds : List TypedName) (scope : List ℕ) → In n (map number_of ds) → In n (after_names ds scope)
in_after n [] scope h = absurd h
in_after n (d ∷ ds) scope (inl e) = in_kept n ds (d.name.number ∷ scope) (inl e)
in_after n (d ∷ ds) scope (inr h) = in_after n ds (d.name.number ∷ scope) h

-- ---- functions in a row

bodies_are : (is : List TypedItem) → body_count is ≡ length (functions is)
bodies_are [] = refl
bodies_are (structure i x ls ∷ is) = bodies_are is
bodies_are (constant i t x v ∷ is) = bodies_are is
bodies_are (global i t xs ∷ is) = bodies_are is
bodies_are (function i t x ps None ∷ is) = bodies_are is
bodies_are (function i t x ps (Some body) ∷ is) = omega (arith, bodies_are is)

beyond : {A : Type 0} (xs : List A) (n : ℕ) → length xs ≤ n → slice_get xs n ≡ None
beyond [] n le = refl
beyond (x ∷ xs) zero le = absurd (omega (arith, le))
beyond (x ∷ xs) (suc n) le = beyond xs n (omega (arith, le))

within : {A : Type 0} (xs : List A) (n : ℕ) (x : A) → slice_get xs n ≡ Some x → n < length xs
within [] n x h = absurd cc
within (y ∷ xs) zero x h = omega arith
within (y ∷ xs) (suc n) x h = omega (arith, within xs n x h)

abbrev first_spots : Structs → List Ty → ℕ → List Function → List Spot
first_spots structs globals f [] = []
first_spots structs globals f (fn ∷ fns) = first_spot f (callee_for structs globals fn) ∷ first_spots structs globals (f + 1) fns

first_length : (structs : Structs) (globals : List Ty) (f : ℕ) (fns : List Function) → length (first_spots structs globals f fns) ≡ length fns
first_length structs globals f [] = refl
first_length structs globals f (fn ∷ fns) = ap suc (first_length structs globals (f + 1) fns)

first_known : (structs : Structs) (globals : List Ty) (spot_of : ℕ → Spot) (f : ℕ) (fns : List Function) → Labelled spot_of f (first_spots structs globals f fns)
    → (i : ℕ) (fn : Function) → slice_get fns i ≡ Some fn → spot_of (f + i) ≡ first_spot (f + i) (callee_for structs globals fn)
first_known structs globals spot_of f [] h i fn is = absurd cc
first_known structs globals spot_of f (g ∷ fns) h zero fn is =
    let same : f ≡ f + 0 = omega arith in
    let one : g ≡ fn = cc in
    subst (λ m. spot_of m ≡ first_spot m (callee_for structs globals fn)) same (h.0 ∙ ap (λ (k : Function). first_spot f (callee_for structs globals k)) one)
first_known structs globals spot_of f (g ∷ fns) h (suc i) fn is =
    let same : f + 1 + i ≡ f + suc i = omega arith in
    subst (λ m. spot_of m ≡ first_spot m (callee_for structs globals fn)) same (first_known structs globals spot_of (f + 1) fns h.1 i fn is)

-- ---- parameters

parameters_deep : (structs : Structs) (ps : List TypedParameter) → params_cells structs ps ≡ length (parameter_cells structs ps)
parameters_deep structs [] = refl
parameters_deep structs (p ∷ ps) = omega (arith, parameters_deep structs ps, value_length structs p.ty, length-append (value_types structs p.ty) (parameter_cells structs ps))

parameters_seen : (x : Site) (ps : List TypedParameter) → AreParameters x ps → Sighted x (parameter_names ps) (parameter_cells x.layout.structs ps)
parameters_seen x [] are n h = absurd h
parameters_seen x (p ∷ ps) are n h =
    sight_more x (parameter_names ps) (parameter_cells x.layout.structs ps) p.name.number p.ty (are.0 ∙ parameters_deep x.layout.structs ps) are.1 (parameters_seen x ps are.2) n h

-- what makes the globals takes nothing and gives nothing
abbrev start_callee : Callee
start_callee = record { taken = []; under = []; given = Some [] }

abbrev callee_at : Structs → List Ty → Bool → ℕ → ℕ → Option Function → Option Callee
callee_at structs globals b bodies f (Some fn) = Some (callee_for structs globals fn)
callee_at structs globals b bodies f None = cond (b && eqb f bodies) (Some start_callee) None

module _ (header : EngineTable) (u : TypedUnit) (bounded : IsBounded u) (typed : IsWellTyped header u) where
  abbrev l : Layout
  l = layout_of u

  abbrev fs : List Function
  fs = functions u.items

  abbrev bodies : ℕ
  bodies = body_count u.items

  abbrev total : ℕ
  total = (unit_code u).labels

  abbrev names : List TypedName
  names = global_names u.items

  abbrev globals : List Ty
  globals = named_types l.structs names

  abbrev callee_of : ℕ → Option Callee
  callee_of f = callee_at l.structs globals (has_globals u.items) bodies f (slice_get fs f)

  callees : (f : ℕ) (fn : Function) → slice_get fs f ≡ Some fn → callee_of f ≡ Some (callee_for l.structs globals fn)
  callees f fn is = ap (callee_at l.structs globals (has_globals u.items) bodies f) is

  globals_many : length globals ≡ l.globals
  globals_many = named_length l.structs names ∙ sym (global_cells_are l.structs u.items)

  globals_seen : (n : ℕ) → In n (map number_of names) → Seen globals (position l n) (value_types l.structs ((site u).types n))
  globals_seen n h =
      let sight = sight_named header fs (start_site u) Void 0 [] [] names refl typed.names (λ m none. absurd none) in
      subst (λ (ts : List Ty). Seen ts (position l n) (value_types l.structs ((site u).types n))) (append-nil globals) (sight n (in_after n names [] h))

  -- what is known of labels
  abbrev Known : (ℕ → Spot) → Type 0
  Known spot_of =
      ((f : ℕ) (fn : Function) → slice_get fs f ≡ Some fn → spot_of f ≡ first_spot f (callee_for l.structs globals fn))
      × (has_globals u.items ≡ true → spot_of bodies ≡ first_spot bodies start_callee)

  abbrev Part : ℕ → ℕ → ℕ → Option Spot → Option Spot → List Line → Type 0
  Part n count place spot out lines = Flows header total callee_of Known n count place spot out lines

  -- ---- functions

  function_flows : (n f place : ℕ) (fn : Function) (next : Option Spot) → slice_get fs f ≡ Some fn → AreStmts bodies l false false fn.body → n + all_stmt_labels fn.body ≤ total
      → Part n (all_stmt_labels fn.body) place (Some (first_spot f (callee_for l.structs globals fn))) next (emit_function l n f fn.parameters fn.body)
  function_flows n f place fn next is are few =
      let fine = typed.bodies f fn is in
      let ps : List Ty = parameter_cells l.structs fn.parameters in
      let deep = parameters_deep l.structs fn.parameters in
      let seen = λ (m : ℕ) (h : In m (site u).globals). globals_seen m h in
      let none : false ≡ true → ⊥ = λ h. absurd cc in
      line_and header total callee_of (mark header total callee_of f (λ spot_of holds. holds.0 f fn is))
      (and_line header total callee_of
      (stmts_flow header fs (site u) bodies total callee_of globals callees seen (λ made. globals_many) refl f fn is fn.body Known n _ (params_cells l.structs fn.parameters)
      (parameter_names fn.parameters) ps false false false false no_exits None (parameters_seen (site u) fn.parameters fine.parameters) fine.body fine.switches are few deep
      (λ h. absurd (none h)) (λ h. absurd (none h)) tt).by
      (line_and header total callee_of
      (dropped_flows header fs (site u) bodies total callee_of globals callees seen (λ made. globals_many)
      (ground header fs (site u) bodies total callee_of globals callees seen (λ made. globals_many) refl f fn is)
      (λ made. refl) (all_declared_cells l.structs fn.body) n _ (all_declared l.structs fn.body) ps (sym (all_declared_length l.structs fn.body))).by
      (line_and header total callee_of
      (dropped_all header fs (site u) bodies total callee_of globals callees seen (λ made. globals_many)
      (ground header fs (site u) bodies total callee_of globals callees seen (λ made. globals_many) refl f fn is)
      (λ made. refl) (params_cells l.structs fn.parameters) n _ ps deep).by
      (back header total callee_of (record { callee = callee_for l.structs globals fn; known = callees f fn is; given = refl; saved = refl; pending = refl })))))

  -- in front of the functions of these items, of which the first has this number
  abbrev front : ℕ → List TypedItem → Option Spot
  front f [] = None
  front f (function m t x ps (Some body) ∷ is) = Some (first_spot f (callee_for l.structs globals (record { result = t; parameters = ps; body = body })))
  front f (_ ∷ is) = front f is

  functions_flow : (is : List TypedItem) (n f place : ℕ) → ((i : ℕ) → slice_get fs (f + i) ≡ slice_get (functions is) i) → AreItems bodies l is → n + functions_labels is ≤ total
      → Part n (functions_labels is) place (front f is) None (emit_functions l n f is)
  functions_flow [] n f place same are few = nothing header total callee_of
  functions_flow (structure i x ls ∷ is) n f place same are few = functions_flow is n f place same are few
  functions_flow (constant i t x v ∷ is) n f place same are few = functions_flow is n f place same are few
  functions_flow (global i t xs ∷ is) n f place same are few = functions_flow is n f place same are.1 few
  functions_flow (function i t x ps None ∷ is) n f place same are few = functions_flow is n f place same are few
  functions_flow (function i t x ps (Some body) ∷ is) n f place same are few =
      let fn : Function = record { result = t; parameters = ps; body = body } in
      let here : f ≡ f + 0 = omega arith in
      both header total callee_of
      (function_flows n f place fn (front (f + 1) is) (ap (slice_get fs) here ∙ same 0) are.0 (omega arith))
      (functions_flow is (n + all_stmt_labels body) (f + 1) _ (λ k. (let next : f + 1 + k ≡ f + suc k = omega arith in ap (slice_get fs) next ∙ same (suc k))) are.2 (omega arith))
      refl refl

  -- ---- the start

  entered : (g : Ground) (n place f : ℕ) (t : Ty) (ts : List Ty) → g.under ≡ map Of globals → IsBegin fs f t
      → Turn header total callee_of Known g 0 0 n 0 place (value_types l.structs t ++ ts) (value_types l.structs t ++ ts) (JumpTo Jsr f ∷ [])
  entered g n place f t ts under e =
      let fn : Function = e.function in
      let taken : map Of (parameter_cells l.structs fn.parameters) ++ map Of (value_types l.structs fn.result) ≡ map Of (value_types l.structs t) =
      ap (λ (ps : List TypedParameter). map Of (parameter_cells l.structs ps) ++ map Of (value_types l.structs fn.result)) e.parameters
      ∙ ap (λ (r : Ty). map Of (value_types l.structs r)) e.result in
      record {
        by = calling header total callee_of f (record {
          callee = callee_for l.structs globals fn;
          known = callees f fn e.is;
          rest = map Of ts ++ g.mid;
          cells = sym (on_top (value_types l.structs t) ts g.mid) ∙ ap (λ (cells : List Slot). cells ++ (map Of ts ++ g.mid)) (sym taken);
          deeper = [];
          under = under ∙ sym (append-nil (map Of globals));
          given = map Of (value_types l.structs fn.result);
          gives = refl;
          left = ap (λ (cells : List Slot). record (over g 0 ts) { cells = cells })
              (sym (on_top (value_types l.structs t) ts g.mid) ∙ ap (λ (r : Ty). map Of (value_types l.structs r) ++ (map Of ts ++ g.mid)) (sym e.result));
        });
      }

  entry_flows : (g : Ground) (n place : ℕ) (entry : EntryPoint) → g.under ≡ map Of globals → IsFineEntry fs entry
      → Turn header total callee_of Known g 0 0 n 0 place [] [] (entry_call entry)
  entry_flows g n place (Main f) under fine = entered g n place f Void [] under fine
  entry_flows g n place (Conditional f) under fine =
      line_seq (turn (ops.RsAdd 0x03) tt (started_turns header g 0 Int [] tt))
      (line_seq (entered g n _ f Int [] under fine)
      (turn (ops.MovSp (beneath 1)) tt (drop_turns header g 0 (Int ∷ []) [])))

  abbrev own_count : Bool → ℕ
  own_count false = 0
  own_count true = 1

  abbrev rest_count : Bool → ℕ
  rest_count false = 0
  rest_count true = globals_labels u.items

  -- the script begins on nothing
  abbrev outside : Ground
  outside = record { way = Starts; mid = []; under = []; saved = [] }

  -- where the globals are made
  abbrev making : Ground
  making = record { way = Runs bodies; mid = []; under = []; saved = [] }

  -- where they are made and the entry function runs
  abbrev based_ground : Ground
  based_ground = record { way = Runs bodies; mid = Base ∷ (map Of globals ++ []); under = map Of globals ++ []; saved = [] ∷ [] }

  save_rule : rule header ops.SaveBp (over making 0 globals) ≡ Some (over based_ground 0 [])
  unfolding rule
  save_rule = refl

  restore_rule : rule header ops.RestoreBp (over based_ground 0 []) ≡ Some (over making 0 globals)
  unfolding rule
  restore_rule = refl

  start_known : has_globals u.items ≡ true → callee_of bodies ≡ Some start_callee
  start_known b =
      ap (callee_at l.structs globals (has_globals u.items) bodies bodies) (beyond fs bodies (omega (arith, bodies_are u.items)))
      ∙ ap (λ c. cond (c && eqb bodies bodies) (Some start_callee) None) b
      ∙ ap (λ c. cond c (Some start_callee) None) ((Decides-eqb bodies bodies).1 refl)

  globals_flow : (n place : ℕ) → n + globals_labels u.items ≤ total → Turn header total callee_of Known making 0 0 n (globals_labels u.items) place [] globals (emit_globals l n 0 u.items)
  globals_flow n place few =
      let labels = globals_labelled u.items in
      let flow : Turn header total callee_of Known making 0 0 n (names_labels names) place [] (globals ++ []) (emit_names l n 0 names) =
      names_flow header fs (start_site u) bodies total callee_of globals callees (λ m none. absurd none) (λ made. globals_many) making
      (λ made. (let none : globals ≡ [] = empty globals (globals_many ∙ made) in ap (map Of) (sym none))) Void names n place 0 [] [] (λ m none. absurd none) (inr typed.calls) typed.names
      (global_names_are bodies l u.items bounded.items) (omega (arith, labels)) refl in
      subst (λ c. Turn header total callee_of Known making 0 0 n c place [] globals (emit_globals l n 0 u.items)) (sym labels)
      (subst (λ (ls : List Line). Turn header total callee_of Known making 0 0 n (names_labels names) place [] globals ls) (sym (globals_are l n 0 u.items))
      (retyped flow (append-nil globals)))
    where
      empty : (ts : List Ty) → length ts ≡ 0 → ts ≡ []
      empty [] e = refl
      empty (t ∷ ts) e = absurd (omega (arith, e))

  start_flows : (b : Bool) (next : Option Spot) → has_globals u.items ≡ b → bodies + start_labels b u.items ≤ total
      → Part (bodies + own_count b) (rest_count b) header_size (Some begin) next (emit_start l bodies b u.items u.entry)
  start_flows false next is few =
      let none : [] ≡ map Of globals = ap (λ (ds : List TypedName). map Of (named_types l.structs ds)) (sym (no_names u.items is)) in
      and_line header total callee_of (entry_flows outside _ header_size u.entry none typed.entry).by (back header total callee_of tt)
  start_flows true next is few =
      let first : Spot = first_spot bodies start_callee in
      line_and header total callee_of
      (calling header total callee_of bodies (record { callee = start_callee; known = start_known is; rest = []; cells = refl; deeper = []; under = refl; given = []; gives = refl; left = refl }))
      (line_and header total callee_of (back header total callee_of {next = Some first} tt)
      (line_and header total callee_of (mark header total callee_of bodies (λ spot_of holds. holds.1 is))
      (and_line header total callee_of (globals_flow (bodies + 1) _ (omega arith)).by
      (line_and header total callee_of (one header total callee_of {way = Runs bodies} ops.SaveBp tt save_rule)
      (line_and header total callee_of (entry_flows based_ground _ _ u.entry (append-nil (map Of globals)) typed.entry).by
      (line_and header total callee_of (one header total callee_of {way = Runs bodies} ops.RestoreBp tt restore_rule)
      (line_and header total callee_of
      (dropped_all header fs (start_site u) bodies total callee_of globals callees (λ m none. absurd none) (λ made. globals_many) making
      (λ made. (let none : globals ≡ [] = empty globals (globals_many ∙ made) in ap (map Of) (sym none))) l.globals _ _ globals (sym globals_many)).by
      (back header total callee_of (record { callee = start_callee; known = start_known is; given = refl; saved = refl; pending = refl })))))))))
    where
      empty : (ts : List Ty) → length ts ≡ 0 → ts ≡ []
      empty [] e = refl
      empty (t ∷ ts) e = absurd (omega (arith, e))

  -- ---- the whole

  abbrev own_spots : Bool → List Spot
  own_spots false = []
  own_spots true = first_spot bodies start_callee ∷ []

  own_length : (b : Bool) → length (own_spots b) ≡ own_count b
  own_length false = refl
  own_length true = refl

  counted : (b : Bool) → start_labels b u.items ≡ own_count b + rest_count b
  counted false = refl
  counted true = refl

  own_known : (b : Bool) (spot_of : ℕ → Spot) (n : ℕ) → Labelled spot_of n (own_spots b) → b ≡ true → spot_of n ≡ first_spot bodies start_callee
  own_known true spot_of n h is = h.0
  own_known false spot_of n h is = absurd cc

  known_callee : (spot_of : ℕ → Spot) → Known spot_of → (label : ℕ) (callee : Callee) → callee_of label ≡ Some callee → (label < total) × (spot_of label ≡ first_spot label callee)
  known_callee spot_of holds label callee h = on (slice_get fs label) refl h
    where
      here : (b : Bool) → has_globals u.items ≡ b → cond (b && eqb label bodies) (Some start_callee) None ≡ Some callee → (label < total) × (spot_of label ≡ first_spot label callee)
      here true is h = at_bodies (eqb label bodies) refl h
        where
          at_bodies : (c : Bool) → eqb label bodies ≡ c → cond c (Some start_callee) None ≡ Some callee → (label < total) × (spot_of label ≡ first_spot label callee)
          at_bodies true e h =
              let same : label ≡ bodies = (Decides-eqb label bodies).0 e in
              let one : start_callee ≡ callee = cc in (
                omega (arith, same, ap (λ b. start_labels b u.items) is),
                subst (λ (m : ℕ). spot_of m ≡ first_spot m callee) (sym same) (holds.1 is ∙ ap (first_spot bodies) one),
              )
          at_bodies false e h = absurd cc
      here false is h = absurd cc

      on : (o : Option Function) → slice_get fs label ≡ o → callee_at l.structs globals (has_globals u.items) bodies label o ≡ Some callee → (label < total) × (spot_of label ≡ first_spot label callee)
      on (Some fn) is h =
          let one : callee_for l.structs globals fn ≡ callee = cc in
          (omega (arith, within fs label fn is, bodies_are u.items), holds.0 label fn is ∙ ap (first_spot label) one)
      on None is h = here (has_globals u.items) refl h

  pub well_stacked : SizeSome → EachPlacedOnce → CodeStands → WellStacked header (program (unit_code u).lines)
  well_stacked some placed stand =
      let b : Bool = has_globals u.items in
      let n : ℕ = bodies + start_labels b u.items in
      let sum = counted b in
      let first = start_flows b (front 0 u.items) refl (omega arith) in
      let rest = functions_flow u.items n 0 (header_size + lines_size (emit_start l bodies b u.items u.entry))
      (λ i. (let same : 0 + i ≡ i = omega arith in ap (slice_get fs) same)) bounded.items (omega arith) in
      let flow = both header total callee_of first rest (omega (arith, sum)) refl in
      let firsts : List Spot = first_spots l.structs globals 0 fs in
      let spots : List Spot = firsts ++ (own_spots b ++ flow.spots) in
      let spot_of : ℕ → Spot = lookup spots in
      let one_part = labelled_both spot_of 0 firsts (own_spots b ++ flow.spots) (own_labels spots) in
      let many : 0 + length firsts ≡ bodies = omega (arith, first_length l.structs globals 0 fs, bodies_are u.items) in
      let two_part = labelled_both spot_of bodies (own_spots b) flow.spots (subst (λ m. Labelled spot_of m (own_spots b ++ flow.spots)) many one_part.1) in
      let third : Labelled spot_of (bodies + own_count b) flow.spots = subst (λ m. Labelled spot_of m flow.spots) (ap (λ k. bodies + k) (own_length b)) two_part.1 in
      let holds : Known spot_of = (
        λ f fn is. (let same : 0 + f ≡ f = omega arith in subst (λ m. spot_of m ≡ first_spot m (callee_for l.structs globals fn)) same (first_known l.structs globals spot_of 0 fs one_part.0 f fn is)),
        λ is. own_known b spot_of bodies two_part.0 is,
      ) in
      let f = flow.flow spot_of third holds in (
        emitted_table (place_of_label (unit_code u).lines) callee_of (walk header total callee_of spot_of f),
        flowing_meets header total callee_of spot_of some (program (unit_code u).lines) (place_of_label (unit_code u).lines) (unit_code u).lines f (stand u)
            (λ label lt. placed_some label total (placements (unit_code u).lines label) (placed u label) lt) (known_callee spot_of holds),
      )
    where
      placed_some : (label total count : ℕ) → count ≡ cond (nat_lt label total) 1 0 → label < total → 1 ≤ count
      placed_some label total count is lt = grind (arith, nat_tests)

pub units_are_well_stacked : SizeSome → EachPlacedOnce → CodeStands → UnitsAreWellStacked
units_are_well_stacked some placed stand header u bounded typed = well_stacked header u bounded typed some placed stand
