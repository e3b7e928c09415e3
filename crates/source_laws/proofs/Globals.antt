-- The globals of a script are made as declarations, over an empty stack.
use Rattle.std.proofs.Common.{arith, ◌≡◌, ◌≤◌, ◌+◌, inl, inr, ℕ, List, [], ◌∷◌, ◌++◌, length, map, Option, Some, None, true, false, sym, ◌∙◌, ap, refl, append_assoc}
use Rattle.std.specs.Prelude.{slice_get}
use Rattle.nss_tree.specs.Units.{structure, constant, global, function}
use Rattle.nwq_value.specs.declared.value.Ty.{Ty}
use Rattle.nwq_value.specs.declared.value.Ty.TheVariants.{Void}
use Rattle.nwq_value.specs.Engine.{EngineTable}
use Rattle.typing_rules.specs.declared.places.Callee.TheVariants.{Unit as InUnit, Engine}
use Rattle.typing_rules.specs.declared.places.Place.TheVariants.{Local, Global, Const as IsConst}
use Rattle.typing_rules.specs.Numbers.{number_of}
use Rattle.typing_rules.specs.Typed.{TypedExpr, TypedExprs, TypedName, TypedItem, literal, name, call, member, prefix, postfix, binary, assign, no_typed, more_typed}
use Rattle.ncs_emit.specs.Labelled.{lines_size}
use Rattle.ncs_emit.specs.Standing.{LinesStand}
use Rattle.typing_rules.specs.Cells.{Structs, cell_types, cells}
use Rattle.saved_state.specs.declared.saved.Saved.{Saved}
use Rattle.emission_rules.specs.Layout.{Layout, position, names_cells, item_cells, global_cells}
use Rattle.emission_rules.specs.Statements.{no_exits, some_labels, initial, names_labels, emit_names}
use Rattle.emission_rules.specs.Units.{emit_globals}
use Rattle.world_rules.specs.Pure.{CellLookup}
use Rattle.machine_rules.specs.Laws.{EqualityIsTested}
use Rattle.source_meaning.specs.Evaluation.{no_variables, with_variable, Deferred, Progress, Outcome, Gives, Divides, OutOfSteps, bind}
use Rattle.source_meaning.specs.Expressions.{Running, Caller}
use Rattle.source_meaning.specs.Statements.{Flow, Next, Broke, Continued, Returned, initial as initial_value, declared, after_names}
use Rattle.source_meaning.specs.Scripts.{Function, global_names, no_functions}
use Rattle.source_laws.specs.Ledger.{Machine, MachineHost, Took, Sim}
use Rattle.source_laws.specs.Kept.{Site, IsListed, at, In, part_types, Vars, Kept}
use Rattle.source_laws.specs.Fine.{IsFine, AreFine}
use Rattle.source_laws.specs.FineStatements.{IsFineValue, AreFineNames}
use Rattle.source_laws.specs.Simulation.{Executor, running_at, ExprRuns}
use Rattle.source_laws.specs.Calling.{EngineRuns, CapturesCarry, ExecutesRun}
use Rattle.source_laws.specs.FunctionsRun.{CallsRun}
use Rattle.source_laws.specs.StatementsRun.{Exit, IsExit, FlowHolds, flow_place, flow_credits}
use Rattle.source_laws.proofs.Ledger.{took_none, took_then, took_less}
use Rattle.source_laws.proofs.Functions.{every_runs}
use Rattle.source_laws.proofs.Statements.{MaybeRuns, EachName, seen_names, declaration_does}

-- ---- their code, their cells and their names

more_names : (l : Layout) (n depth : ℕ) (xs ys : List TypedName)
    → emit_names l n depth (xs ++ ys) ≡ emit_names l n depth xs ++ emit_names l (n + names_labels xs) (depth + names_cells l.structs xs) ys
more_names l n depth [] ys =
    let a : n ≡ n + 0 = omega arith in
    let b : depth ≡ depth + 0 = omega arith in
    ap (λ k. emit_names l k depth ys) a ∙ ap (λ k. emit_names l (n + 0) k ys) b
more_names l n depth (x ∷ xs) ys =
    let first = initial l n depth x.name.ty x.value in
    let next = n + some_labels x.value in
    let deeper = depth + cells l.structs x.name.ty in
    let many = names_cells l.structs xs in
    let a : next + names_labels xs ≡ n + (some_labels x.value + names_labels xs) = omega arith in
    let b : deeper + many ≡ depth + (cells l.structs x.name.ty + many) = omega arith in
    ap (λ t. first ++ t) (more_names l next deeper xs ys)
    ∙ sym (append_assoc first (emit_names l next deeper xs) (emit_names l (next + names_labels xs) (deeper + many) ys))
    ∙ ap (λ k. (first ++ emit_names l next deeper xs) ++ emit_names l k (deeper + many) ys) a
    ∙ ap (λ k. (first ++ emit_names l next deeper xs) ++ emit_names l (n + (some_labels x.value + names_labels xs)) k ys) b

pub globals_code : (l : Layout) (n depth : ℕ) (items : List TypedItem) → emit_globals l n depth items ≡ emit_names l n depth (global_names items)
globals_code l n depth [] = refl
globals_code l n depth (structure m x ls ∷ items) = globals_code l n depth items
globals_code l n depth (constant m t x k ∷ items) = globals_code l n depth items
globals_code l n depth (global m t ds ∷ items) =
    ap (λ u. emit_names l n depth ds ++ u) (globals_code l (n + names_labels ds) (depth + item_cells l.structs (global m t ds)) items)
    ∙ sym (more_names l n depth ds (global_names items))
globals_code l n depth (function m t x ps body ∷ items) = globals_code l n depth items

more_cells : (structs : Structs) (xs ys : List TypedName) → names_cells structs (xs ++ ys) ≡ names_cells structs xs + names_cells structs ys
more_cells structs [] ys = omega arith
more_cells structs (x ∷ xs) ys = let h = more_cells structs xs ys in omega (arith, h)

pub globals_cells : (structs : Structs) (items : List TypedItem) → global_cells structs items ≡ names_cells structs (global_names items)
globals_cells structs [] = refl
globals_cells structs (structure m x ls ∷ items) = let h = globals_cells structs items in omega (arith, h)
globals_cells structs (constant m t x k ∷ items) = let h = globals_cells structs items in omega (arith, h)
globals_cells structs (global m t ds ∷ items) = let h = globals_cells structs items in let k = more_cells structs ds (global_names items) in omega (arith, h, k)
globals_cells structs (function m t x ps body ∷ items) = let h = globals_cells structs items in omega (arith, h)

pub names_seen : (ds : List TypedName) (scope : List ℕ) (n : ℕ) → In n (map number_of ds) → In n (after_names ds scope)
names_seen [] scope n i = absurd i
names_seen (d ∷ ds) scope n (inl same) = seen_names ds (d.name.number ∷ scope) n (inl same)
names_seen (d ∷ ds) scope n (inr i) = names_seen ds (d.name.number ∷ scope) n i

-- ---- declarations are left at their end alone

abbrev Only : {A : Type 0} → (A → Type 0) → Outcome A → Type 0
Only P (Gives a p) = P a
Only P (Divides self p) = Unit {0}
Only P (OutOfSteps p) = Unit {0}

only_bind : {A C : Type 0} (P : C → Type 0) (r : Outcome A) (go : A → Progress → Outcome C) → ((a : A) (p : Progress) → Only P (go a p)) → Only P (bind r go)
unfolding bind
only_bind P (Gives a p) go h = h a p
only_bind P (Divides self p) go h = tt
only_bind P (OutOfSteps p) go h = tt

goes_on : (c : Running) (caller : Caller) (sight : List ℕ) (ds : List TypedName) (p : Progress) → Only (λ f. f ≡ Next) (declared c caller sight ds p)
goes_on c caller sight [] p = refl
goes_on c caller sight (d ∷ ds) p =
    only_bind (λ f. f ≡ Next) (initial_value c caller sight d.name.ty d.value p)
    (λ parts q. declared c caller (d.name.number ∷ sight) ds
    (record q { locals = with_variable q.locals d.name.number parts }))
    (λ parts q. goes_on c caller (d.name.number ∷ sight) ds (record q { locals = with_variable q.locals d.name.number parts }))

sim_only : {A : Type 0} (host : MachineHost) (R : Saved → Deferred → Type 0) (P : A → Type 0) (B : A → Progress → Type 0) (place : (a : A) (p : Progress) → B a p → Machine)
    (D : A → Progress → Type 0) (there : (a : A) (p : Progress) → D a p → Machine) (n c : ℕ) (s : Machine) (d e : A → ℕ) (r : Outcome A)
    → Sim host R B place n c s d r → Only P r
    → ((a : A) (p : Progress) (b : B a p) → P a → (x : D a p) × Took host p.left (d a) (place a p b) p.left (e a) (there a p x))
    → Sim host R D there n c s e r
sim_only host R P B place D there n c s d e (Gives a p) h only k = let x = k a p h.0 only in (x.0, took_then host h.1 x.1)
sim_only host R P B place D there n c s d e (Divides self p) h only k = h
sim_only host R P B place D there n c s d e (OutOfSteps p) h only k = h

-- ---- declarations in whose values no function is called

never : false ≡ true → ⊥
never h = absurd cc

not_there : (f : ℕ) (fn : Function) → slice_get [] f ≡ Some fn → ⊥
not_there f fn is = absurd cc

abbrev no_exit : Exit
no_exit = record { allowed = false; scope = []; depth = 0; label = 0 }

not_allowed : (x : Site) (scope : List ℕ) (size : ℕ) → IsExit x scope size no_exit
not_allowed x scope size = record { within = λ a. absurd (never a); seen = λ a n i. absurd i; beneath = λ a n i. absurd i }

module _ (host : MachineHost) (R : Saved → Deferred → Type 0) (tested : EqualityIsTested) (x : Site) (listed : IsListed host x)
    (tables : CellLookup) (execute : Executor) (most : ℕ)
    (engine_runs : EngineRuns host R tables) (captures : CapturesCarry host R x tables execute []) (executes : ExecutesRun host R x execute most) where
  none_called : CallsRun host R x [] no_functions most
  none_called f fn is values types p less K lower back waiting pending c d enough = absurd (not_there f fn is)

  any_runs : (e : TypedExpr) → ExprRuns host R x tables execute [] no_functions most e
  any_runs e = every_runs host R tested x listed tables execute [] no_functions most engine_runs captures executes none_called (λ g fn is. absurd (not_there g fn is)) e

  some_runs : (o : Option TypedExpr) → MaybeRuns host R x listed tables execute [] no_functions most Void o
  some_runs None = tt
  some_runs (Some e) = any_runs e

  names_run : (ds : List TypedName) → EachName host R x listed tables execute [] no_functions most Void ds
  names_run [] = tt
  names_run (d ∷ ds) = (some_runs d.value, names_run ds)

  -- the names stand on a frame
  abbrev pub AreMade : List TypedName → Flow → Progress → Type 0
  AreMade ds f p = Kept R x (after_names ds []) (0 + names_cells x.layout.structs ds) p.globals p.locals p.world

  abbrev pub made_place : (ds : List TypedName) → ℕ → ℕ → (f : Flow) (p : Progress) → AreMade ds f p → Machine
  made_place ds next back f p K = at x next (K.frame ++ K.under) (back ∷ []) [] K.machine

  pub names_made : (ds : List TypedName) (n place back c : ℕ) (p : Progress) (K : Kept R x [] 0 p.globals p.locals p.world)
      → AreFineNames host.table [] x Void 0 [] ds → LinesStand x.code x.places place (emit_names x.layout n 0 ds) → p.left ≤ most
      → Sim host R (AreMade ds) (made_place ds (place + lines_size (emit_names x.layout n 0 ds)) back) p.left c (at x place (K.frame ++ K.under) (back ∷ []) [] K.machine) (λ f. c)
      (declared (running_at host tables execute x) no_functions [] ds p)
  names_made ds n place back c p K fine lines le =
      let many = names_cells x.layout.structs ds in
      let next = place + lines_size (emit_names x.layout n 0 ds) in
      sim_only host R (λ f. f ≡ Next) (FlowHolds R x Void no_exit no_exit (after_names ds []) (0 + many)) (flow_place R x Void no_exit no_exit (after_names ds []) (0 + many) next [] [] back [] [])
      (AreMade ds) (made_place ds next back) p.left c (at x place (K.frame ++ K.under) (back ∷ []) [] K.machine)
      (flow_credits c many) (λ f. c) (declared (running_at host tables execute x) no_functions [] ds p)
      (declaration_does host R x listed tables execute [] no_functions most Void 0 Void ds (names_run ds)
      no_exits no_exit no_exit [] 0 n place c p K [] [] back [] [] fine lines
      (record { break_label = refl; break_depth = refl; continue_label = refl; continue_depth = refl }) (not_allowed x [] 0) (not_allowed x [] 0) refl le)
      (goes_on (running_at host tables execute x) no_functions [] ds p)
      (λ f q h only. left_by f q h only)
    where
      left_by : (f : Flow) (q : Progress) (h : FlowHolds R x Void no_exit no_exit (after_names ds []) (0 + names_cells x.layout.structs ds) f q) → f ≡ Next
          → (K : AreMade ds f q) × Took host q.left (flow_credits c (names_cells x.layout.structs ds) f)
          (flow_place R x Void no_exit no_exit (after_names ds []) (0 + names_cells x.layout.structs ds) (place + lines_size (emit_names x.layout n 0 ds)) [] [] back [] [] f q h)
          q.left c (made_place ds (place + lines_size (emit_names x.layout n 0 ds)) back f q K)
      left_by Next q h only = (
        h,
        took_less host c (omega arith)
            (took_none host q.left (flow_credits c (names_cells x.layout.structs ds) Next)
            (made_place ds (place + lines_size (emit_names x.layout n 0 ds)) back Next q h)),
      )
      left_by Broke q h only = absurd cc
      left_by Continued q h only = absurd cc
      left_by (Returned v) q h only = absurd cc

-- ---- globals without any cell

-- the script over an empty stack, with these globals in sight
abbrev pub bottom : Site → List ℕ → Site
bottom x gs = record x { globals = gs; bp = 0 }

module _ (x : Site) (table : EngineTable) (fs : List Function) (few more : List ℕ) (all : (n : ℕ) → In n few → In n more) where
  mutual
    -- what is fine with no function and fewer globals in sight is so with more
    pub fine_more : (scope : List ℕ) (e : TypedExpr) → IsFine table [] (bottom x few) scope e → IsFine table fs (bottom x more) scope e
    fine_more scope (literal k) h = h
    fine_more scope (name t (Local n)) h = h
    fine_more scope (name t (Global n)) h = (all n h.0, h.1, h.2, h.3)
    fine_more scope (name t (IsConst k)) h = h
    fine_more scope (call t (InUnit f) es ks) h = absurd (not_there f h.0.function h.0.is)
    fine_more scope (call t (Engine n) es ks) h = (h.0, all_more scope es h.1)
    fine_more scope (member t e before) h = (fine_more scope e h.0, h.1, h.2)
    fine_more scope (prefix t o e) h = (fine_more scope e h.0, h.1, h.2, h.3)
    fine_more scope (postfix t o e) h = (fine_more scope e h.0, h.1, h.2, h.3)
    fine_more scope (binary t o d e) h = (fine_more scope d h.0, fine_more scope e h.1, h.2)
    fine_more scope (assign t o d e) h = (fine_more scope d h.0, fine_more scope e h.1, h.2, h.3)

    all_more : (scope : List ℕ) (es : TypedExprs) → AreFine table [] (bottom x few) scope es → AreFine table fs (bottom x more) scope es
    all_more scope no_typed h = tt
    all_more scope (more_typed e es) h = (fine_more scope e h.0, record { made = h.1.made; value = h.1.value }, all_more scope es h.2)

  fine_value : (scope : List ℕ) (t : Ty) (o : Option TypedExpr) → IsFineValue table [] (bottom x few) Void scope t o → IsFineValue table fs (bottom x more) Void scope t o
  fine_value scope t None h = h
  fine_value scope t (Some e) h = (fine_more scope e h.0, h.1)

  pub names_more : (ds : List TypedName) (depth : ℕ) (scope : List ℕ) → AreFineNames table [] (bottom x few) Void depth scope ds → AreFineNames table fs (bottom x more) Void depth scope ds
  names_more [] depth scope h = h
  names_more (d ∷ ds) depth scope h =
      (h.0, h.1, fine_value scope d.name.ty d.value h.2, names_more ds (depth + cells x.layout.structs d.name.ty) (d.name.number ∷ scope) h.3)

nothing : {A : Type 0} (xs : List A) → length xs ≡ 0 → xs ≡ []
nothing [] h = refl
nothing (x ∷ xs) h = absurd (omega arith)

record IsEmpty (x : Site) (depth n : ℕ) : Type 0 where
  place : position x.layout n ≡ depth
  types : part_types x n ≡ []

empty_names : (table : EngineTable) (x : Site) (ds : List TypedName) (depth : ℕ) (scope : List ℕ) → AreFineNames table [] x Void depth scope ds → names_cells x.layout.structs ds ≡ 0
    → (n : ℕ) → In n (map number_of ds) → IsEmpty x depth n
empty_names table x [] depth scope h none n i = absurd i
empty_names table x (d ∷ ds) depth scope h none n (inl same) = record {
  place = ap (position x.layout) same ∙ h.0;
  types = ap (part_types x) same ∙ ap (cell_types x.layout.structs) h.1 ∙ nothing (cell_types x.layout.structs d.name.ty) (omega (arith, none));
}
empty_names table x (d ∷ ds) depth scope h none n (inr i) =
    let k : depth + cells x.layout.structs d.name.ty ≡ depth = omega (arith, none) in
    let e = empty_names table x ds (depth + cells x.layout.structs d.name.ty) (d.name.number ∷ scope) h.3 (omega (arith, none)) n i in
    record { place = e.place ∙ k; types = e.types }

-- such globals are there before they are made
pub empty_globals : (table : EngineTable) (x : Site) (ds : List TypedName) → AreFineNames table [] x Void 0 [] ds → names_cells x.layout.structs ds ≡ 0
    → Vars x (map number_of ds) [] no_variables
empty_globals table x ds h none = record {
  value = λ n i. record { above = []; below = []; is = refl; at = sym (empty_names table x ds 0 [] h none n i).place };
  typed = λ n i. sym (empty_names table x ds 0 [] h none n i).types;
  apart = λ m n i j different.
      let e = empty_names table x ds 0 [] h none m i in
      let a = e.place in
      let b = ap length e.types in
      inl (omega (arith, a, b));
}
