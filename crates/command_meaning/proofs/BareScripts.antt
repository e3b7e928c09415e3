-- What a unit without action arguments does leaves a bare world bare.
use Rattle.std.proofs.Common.{◌≡◌, ℕ, zero, suc, pos, Bool, true, false, List, [], ◌∷◌, ◌++◌, Option, None, Some, refl, sym, subst, true≢false}
use Rattle.std.specs.Prelude.{slice_get}
use Rattle.std.specs.List.{AllByRecursion}
use Rattle.nss_tree.specs.declared.operators.BinaryOperator.{BinaryOperator}
use Rattle.nss_tree.specs.declared.operators.BinaryOperator.TheVariants as bin
use Rattle.nss_tree.specs.declared.operators.PrefixOperator.{PrefixOperator}
use Rattle.nss_tree.specs.Statements.{block, empty, expression, if_only, if_else, while_loop, do_loop, for_loop, switch, break_off, continue_on, return_from, declaration, case_label, default_label}
use Rattle.nss_tree.specs.Statements.{no_stmt, more_stmts}
use Rattle.nss_tree.specs.Units.{structure, constant, global, function}
use Rattle.nwq_value.specs.declared.value.Ty.{Ty}
use Rattle.nwq_value.specs.declared.value.Ty.TheVariants.{Int as IntTy}
use Rattle.nwq_value.specs.declared.value.Value.{Value}
use Rattle.nwq_value.specs.declared.value.Value.TheVariants.{Int, Text, Object}
use Rattle.nwq_value.specs.declared.engine.Const.{Const}
use Rattle.nwq_value.specs.Operators.{values_eq}
use Rattle.typing_rules.specs.declared.places.Place.{Place}
use Rattle.typing_rules.specs.declared.places.Place.TheVariants.{Local, Global, Const as IsConst}
use Rattle.typing_rules.specs.declared.places.Callee.{Callee}
use Rattle.typing_rules.specs.declared.places.Callee.TheVariants.{Unit as InUnit, Engine}
use Rattle.typing_rules.specs.declared.places.EntryPoint.{EntryPoint}
use Rattle.typing_rules.specs.declared.places.EntryPoint.TheVariants.{Main, Conditional}
use Rattle.typing_rules.specs.Typed.{TypedExpr, TypedExprs, TypedName, TypedStmt, TypedStmts, TypedItem, TypedUnit, literal, name, call, member, prefix, postfix, binary, assign, no_typed, more_typed}
use Rattle.typing_rules.specs.Cells.{cell_types, cells, is_captured}
use Rattle.world_rules.specs.declared.data.Told.TheVariants as line
use Rattle.world_rules.specs.World.{World}
use Rattle.world_rules.specs.Engine.{engine, may_run, no_script, too_deep}
use Rattle.source_meaning.specs.Values.{constant_value, is_true, divides_by_zero, operate, parts_of, test_value, start_part, one_int, prefixed, postfixed, applied}
use Rattle.source_meaning.specs.Evaluation.{Deferred, Progress, Outcome, Gives, Divides, OutOfSteps, bind, spend, spend_of, chosen, with_variable}
use Rattle.source_meaning.specs.Spots.{Spot, OfLocal, OfGlobal, further, spot, read_at, written_at}
use Rattle.source_meaning.specs.Expressions.{Running, Caller, Arguments, with_argument, all_parts, answered, runs_script, executed, asked, engine_called, made, unit_called, defaults, callee_called}
use Rattle.source_meaning.specs.Expressions.{named, member_of, stepped, is_step, before_operand, operated, unwritten, combined, write_there, read_there, assigned, argument, eval, evals}
use Rattle.source_meaning.specs.Statements.{Flow, Next, Broke, Continued, Returned, on_next, on_body, on_switch, turns, looped, maybe, tested, initial, declared, after_stmt, exec, execs, selected}
use Rattle.source_meaning.specs.Statements.{from_default}
use Rattle.source_meaning.specs.Scripts.{Listed, Setting, Function, functions, bound, parameter_names, result_of, waiting_limit, body_run, calls, calling, global_names, no_functions, globals_made}
use Rattle.source_meaning.specs.Scripts.{without_variables, entry_called, unit_started, running, listed_started, script_named, Starter, resumed, starter_begun, executing, started, with_steps}
use Rattle.source_meaning.specs.Scripts.{run_script}
use Rattle.command_meaning.specs.WithoutActions.{HasNoAction, HaveValues, HasNoneThere, NamesHaveNone, StatementHasNone, StatementsHaveNone, ItemHasNone, UnitHasNoAction}
use Rattle.command_meaning.proofs.BareCalls.{IsBare, told_bare, engine_bare}

-- ---- outcomes in a bare world, whose values keep something

abbrev pub Ends : {A : Type 0} → (A → Type 0) → Outcome A → Type 0
Ends P (Gives a p) = P a × IsBare p.world
Ends P (Divides self p) = IsBare p.world
Ends P (OutOfSteps p) = IsBare p.world

abbrev pub Any : {A : Type 0} → A → Type 0
Any a = Unit {0}

abbrev pub Bare : {A : Type 0} → Outcome A → Type 0
Bare {A} r = Ends (Any {A = A}) r

ends_bind : {A B : Type 0} (P : A → Type 0) (Q : B → Type 0) (r : Outcome A) (f : A → Progress → Outcome B) → Ends P r
    → ((a : A) (q : Progress) → P a → IsBare q.world → Ends Q (f a q)) → Ends Q (bind r f)
unfolding bind
ends_bind P Q (Gives a q) f h k = k a q h.0 h.1
ends_bind P Q (Divides self q) f h k = h
ends_bind P Q (OutOfSteps q) f h k = h

bare_bind : {A B : Type 0} (r : Outcome A) (f : A → Progress → Outcome B) → Bare r → ((a : A) (q : Progress) → IsBare q.world → Bare (f a q)) → Bare (bind r f)
bare_bind {A} {B} r f h k = ends_bind (Any {A = A}) (Any {A = B}) r f h (λ a q any b. k a q b)

ends_spend : {A : Type 0} (P : A → Type 0) (p : Progress) (go : Progress → Outcome A) → IsBare p.world → ((q : Progress) → IsBare q.world → Ends P (go q)) → Ends P (spend p go)
unfolding spend
ends_spend P p go h k = on p.left
  where
    on : (n : ℕ) → Ends P (spend_of n p go)
    on zero = h
    on (suc n) = k (record p { left = n }) h

bare_spend : {A : Type 0} (p : Progress) (go : Progress → Outcome A) → IsBare p.world → ((q : Progress) → IsBare q.world → Bare (go q)) → Bare (spend p go)
bare_spend {A} p go h k = ends_spend (Any {A = A}) p go h k

bare_chosen : {A : Type 0} (b : Bool) (go other : Progress → Outcome A) (p : Progress) → Bare (go p) → Bare (other p) → Bare (chosen b go other p)
bare_chosen true go other p h k = h
bare_chosen false go other p h k = k

-- an evaluation, from a bare world on
abbrev Keeps : {A : Type 0} → (Progress → Outcome A) → Type 0
Keeps go = (p : Progress) → IsBare p.world → Bare (go p)

-- ---- nodes

made_bare : (ts : List Ty) → Keeps (made ts)
made_bare [] p h = (tt, h)
made_bare (t ∷ ts) p h = bare_spend p (λ q. bind (made ts q) (λ parts r. Gives (start_part t ∷ parts) r)) h
    (λ q k. bare_bind (made ts q) (λ parts r. Gives (start_part t ∷ parts) r) (made_bare ts q k) (λ parts r j. (tt, j)))

defaults_bare : (self : ℕ) (ks : List Const) → Keeps (defaults self ks)
defaults_bare self [] p h = (tt, h)
defaults_bare self (k ∷ ks) p h =
    bare_bind (defaults self ks p) (λ values q. spend q (λ r. Gives ((constant_value self k ∷ []) ∷ values) r)) (defaults_bare self ks p h)
    (λ values q j. bare_spend q (λ r. Gives ((constant_value self k ∷ []) ∷ values) r) j (λ r i. (tt, i)))

named_bare : (self : ℕ) (place : Place) → Keeps (named self place)
named_bare self (Local n) p h = bare_spend p (λ q. Gives (q.locals n) q) h (λ q k. (tt, k))
named_bare self (Global n) p h = bare_spend p (λ q. Gives (q.globals n) q) h (λ q k. (tt, k))
named_bare self (IsConst k) p h = bare_spend p (λ q. Gives (constant_value self k ∷ []) q) h (λ q j. (tt, j))

member_bare : (s : Option Spot) (before count : ℕ) (value : Progress → Outcome (List Value)) → Keeps value → Keeps (member_of s before count value)
member_bare None before count value keeps p h =
    bare_bind (value p) (λ parts q. spend q (λ r. Gives (parts_of before count parts) r)) (keeps p h)
    (λ parts q k. bare_spend q (λ r. Gives (parts_of before count parts) r) k (λ r j. (tt, j)))
member_bare (Some s) before count value keeps p h = bare_spend p (λ q. Gives (read_at (further before s) count q) q) h (λ q k. (tt, k))

-- a write leaves the world as it is
written_bare : (s : Spot) (parts : List Value) (p : Progress) → IsBare p.world → IsBare (written_at s parts p).world
written_bare (OfLocal n before) parts p h = h
written_bare (OfGlobal n before) parts p h = h

there_bare : (s : Option Spot) (parts : List Value) (p : Progress) → IsBare p.world → IsBare (write_there s parts p).world
there_bare None parts p h = h
there_bare (Some s) parts p h = written_bare s parts p h

stepped_bare : (s : Option Spot) (change : List Value → List Value) (gives : List Value → List Value → List Value) → Keeps (stepped s change gives)
stepped_bare None change gives p h = bare_spend p (λ q. Gives [] q) h (λ q k. (tt, k))
stepped_bare (Some s) change gives p h =
    bare_spend p (λ q. Gives (gives (read_at s 1 q) (change (read_at s 1 q))) (written_at s (change (read_at s 1 q)) q)) h
    (λ q k. (tt, written_bare s (change (read_at s 1 q)) q k))

operand_bare : (o : PrefixOperator) (b : Bool) (s : Option Spot) (operand : Progress → Outcome (List Value)) → Keeps operand → Keeps (before_operand o b s operand)
operand_bare o true s operand keeps p h = stepped_bare s (one_int (prefixed o)) (λ old new. new) p h
operand_bare o false s operand keeps p h =
    bare_bind (operand p) (λ parts q. spend q (λ r. Gives (one_int (prefixed o) parts) r)) (keeps p h)
    (λ parts q k. bare_spend q (λ r. Gives (one_int (prefixed o) parts) r) k (λ r j. (tt, j)))

abbrev WriteKeeps : (List Value → Progress → Progress) → Type 0
WriteKeeps write = (parts : List Value) (q : Progress) → IsBare q.world → IsBare (write parts q).world

operated_bare : (self : ℕ) (o : BinaryOperator) (v w : List Value) (write : List Value → Progress → Progress) → WriteKeeps write → Keeps (operated self o v w write)
operated_bare self o v w write writes p h =
    let go = λ (r : Progress). Gives (operate o v w) (write (operate o v w) r) in
    bare_chosen (divides_by_zero o w) (λ q. Divides self q) (λ q. spend q go) p h (bare_spend p go h (λ r k. (tt, writes (operate o v w) r k)))

plain_bare : (self : ℕ) (o : BinaryOperator) (left right : Progress → Outcome (List Value)) → Keeps left → Keeps right → (p : Progress) → IsBare p.world
    → Bare (bind (left p) (λ v q. bind (right q) (λ w r. operated self o v w unwritten r)))
plain_bare self o left right lefts rights p h =
    bare_bind (left p) (λ v q. bind (right q) (λ w r. operated self o v w unwritten r)) (lefts p h)
    (λ v q k. bare_bind (right q) (λ w r. operated self o v w unwritten r) (rights q k) (λ w r j. operated_bare self o v w unwritten (λ parts s i. i) r j))

alone_bare : (b : Bool) → Keeps (λ q. spend q (λ r. Gives (test_value b) r))
alone_bare b q h = bare_spend q (λ r. Gives (test_value b) r) h (λ r k. (tt, k))

other_bare : (self : ℕ) (o : BinaryOperator) (v : List Value) (right : Progress → Outcome (List Value)) → Keeps right → Keeps (λ q. bind (right q) (λ w r. operated self o v w unwritten r))
other_bare self o v right rights q h = bare_bind (right q) (λ w r. operated self o v w unwritten r) (rights q h) (λ w r k. operated_bare self o v w unwritten (λ parts s i. i) r k)

combined_bare : (self : ℕ) (o : BinaryOperator) (left right : Progress → Outcome (List Value)) → Keeps left → Keeps right → Keeps (combined self o left right)
combined_bare self bin.And left right lefts rights p h =
    let other = λ (v : List Value) (r : Progress). bind (right r) (λ w s. operated self bin.And v w unwritten s) in
    let alone = λ (r : Progress). spend r (λ s. Gives (test_value false) s) in
    bare_bind (left p) (λ v q. chosen (is_true v) (other v) alone q) (lefts p h)
    (λ v q k. bare_chosen (is_true v) (other v) alone q (other_bare self bin.And v right rights q k) (alone_bare false q k))
combined_bare self bin.Or left right lefts rights p h =
    let other = λ (v : List Value) (r : Progress). bind (right r) (λ w s. operated self bin.Or v w unwritten s) in
    let alone = λ (r : Progress). spend r (λ s. Gives (test_value true) s) in
    bare_bind (left p) (λ v q. chosen (is_true v) alone (other v) q) (lefts p h)
    (λ v q k. bare_chosen (is_true v) alone (other v) q (alone_bare true q k) (other_bare self bin.Or v right rights q k))
combined_bare self o left right lefts rights p h = plain_bare self o left right lefts rights p h

assigned_bare : (self : ℕ) (o : Option BinaryOperator) (s : Option Spot) (count : ℕ) (value : Progress → Outcome (List Value)) → Keeps value → Keeps (assigned self o s count value)
assigned_bare self None s count value keeps p h =
    bare_bind (value p) (λ parts q. spend q (λ r. Gives parts (write_there s parts r))) (keeps p h)
    (λ parts q k. bare_spend q (λ r. Gives parts (write_there s parts r)) k (λ r j. (tt, there_bare s parts r j)))
assigned_bare self (Some o) s count value keeps p h =
    bare_spend p (λ q. bind (value q) (λ w r. operated self o (read_there s count q) w (write_there s) r)) h
    (λ q k. bare_bind (value q) (λ w r. operated self o (read_there s count q) w (write_there s) r) (keeps q k)
    (λ w r j. operated_bare self o (read_there s count q) w (write_there s) (there_bare s) r j))

-- ---- expressions

abbrev CallerKeeps : Caller → Type 0
CallerKeeps caller = (f : ℕ) (values : List (List Value)) → Keeps (caller f values)

abbrev ExecuteKeeps : (List ℕ → ℕ → Progress → Outcome (List Value)) → Type 0
ExecuteKeeps execute = (script_name : List ℕ) (target : ℕ) → Keeps (execute script_name target)

-- arguments of which none is an action
abbrev HasNone : Arguments → Type 0
HasNone a = a.action ≡ None

module _ (c : Running) (executes : ExecuteKeeps c.execute) where
  executed_bare : (values : List Value) → Keeps (executed c values)
  executed_bare (Text script_name ∷ Object target ∷ []) p h = executes script_name target p h
  executed_bare values p h = bare_spend p (λ q. Gives [] q) h (λ q k. (tt, k))

  asked_bare : (routine : ℕ) (a : Arguments) → HasNone a → Keeps (asked c routine a)
  asked_bare routine a none p h =
      let go = λ (q : Progress). answered (engine c.table c.tables routine (record { caller = c.self; values = all_parts a.values; action = a.action }) q.world) q in
      bare_spend p go h
      (λ q k. (
        tt,
        subst (λ (action : Option Deferred). IsBare (engine c.table c.tables routine (record { caller = c.self; values = all_parts a.values; action = action }) q.world).world) (sym none)
            (engine_bare c.table c.tables routine c.self (all_parts a.values) q.world k),
      ))

  engine_called_bare : (routine : ℕ) (a : Arguments) → HasNone a → Keeps (engine_called c routine a)
  engine_called_bare routine a none p h =
      bare_chosen (runs_script c.table routine) (λ q. executed c (all_parts a.values) q) (λ q. asked c routine a q) p (executed_bare (all_parts a.values) p h) (asked_bare routine a none p h)

  module _ (caller : Caller) (callers : CallerKeeps caller) where
    unit_called_bare : (f : ℕ) (a : Arguments) → Keeps (unit_called caller f a)
    unit_called_bare f a p h =
        bare_spend p (λ q. bind (caller f a.values q) (λ parts r. Gives parts (record r { locals = q.locals }))) h
        (λ q k. bare_bind (caller f a.values q) (λ parts r. Gives parts (record r { locals = q.locals })) (callers f a.values q k) (λ parts r j. (tt, j)))

    called_bare : (f : Callee) (ts : List Ty) (arguments : Progress → Outcome Arguments)
        → ((p : Progress) → IsBare p.world → Ends HasNone (arguments p)) → Keeps (callee_called c caller f ts arguments)
    called_bare (InUnit f) ts arguments each p h =
        bare_bind (made ts p) (λ parts q. bind (arguments q) (λ a r. unit_called caller f a r)) (made_bare ts p h)
        (λ parts q k. ends_bind HasNone Any (arguments q) (λ a r. unit_called caller f a r) (each q k) (λ a r none j. unit_called_bare f a r j))
    called_bare (Engine routine) ts arguments each p h =
        ends_bind HasNone Any (arguments p) (λ a q. engine_called c routine a q) (each p h) (λ a q none k. engine_called_bare routine a none q k)

    argument_bare : (sight : List ℕ) (b : Bool) (e : TypedExpr) (value : Progress → Outcome (List Value)) → b ≡ false → Keeps value → (a : Arguments) → HasNone a → (p : Progress) → IsBare p.world
        → Ends HasNone (argument c sight b e value a p)
    argument_bare sight true e value is keeps a none p h = absurd (true≢false is)
    argument_bare sight false e value is keeps a none p h =
        ends_bind (Any {A = List Value}) HasNone (value p) (λ parts q. Gives (with_argument parts a) q) (keeps p h) (λ parts q any k. (none, k))

    mutual
      eval_bare : (e : TypedExpr) → HasNoAction e → (sight : List ℕ) → Keeps (eval c caller sight e)
      eval_bare (literal k) plain sight p h = bare_spend p (λ q. Gives (constant_value c.self k ∷ []) q) h (λ q j. (tt, j))
      eval_bare (name t place) plain sight p h = named_bare c.self place p h
      eval_bare (call t f es ks) plain sight p h =
          let go = λ (values : List (List Value)) (r : Progress). evals c caller sight es (record { values = values; action = None }) r in
          called_bare f (cell_types c.structs t) (λ q. bind (defaults c.self ks q) go)
          (λ q k. ends_bind (Any {A = List (List Value)}) HasNone (defaults c.self ks q) go (defaults_bare c.self ks q k)
          (λ values r any j. evals_bare es plain sight (record { values = values; action = None }) refl r j)) p h
      eval_bare (member t e before) plain sight p h = member_bare (spot e) before (cells c.structs t) (λ q. eval c caller sight e q) (eval_bare e plain sight) p h
      eval_bare (prefix t o e) plain sight p h = operand_bare o (is_step o) (spot e) (λ q. eval c caller sight e q) (eval_bare e plain sight) p h
      eval_bare (postfix t o e) plain sight p h = stepped_bare (spot e) (one_int (postfixed o)) (λ old new. old) p h
      eval_bare (binary t o d e) plain sight p h =
          combined_bare c.self o (λ q. eval c caller sight d q) (λ q. eval c caller sight e q) (eval_bare d plain.0 sight) (eval_bare e plain.1 sight) p h
      eval_bare (assign t o d e) plain sight p h =
          assigned_bare c.self (applied o) (spot d) (cells c.structs t) (λ q. eval c caller sight e q) (eval_bare e plain.1 sight) p h

      evals_bare : (es : TypedExprs) → HaveValues es → (sight : List ℕ) (a : Arguments) → HasNone a → (p : Progress) → IsBare p.world → Ends HasNone (evals c caller sight es a p)
      evals_bare no_typed plain sight a none p h = (none, h)
      evals_bare (more_typed e es) plain sight a none p h =
          let go = λ (b : Arguments) (q : Progress). argument c sight (is_captured e) e (λ r. eval c caller sight e r) b q in
          ends_bind HasNone HasNone (evals c caller sight es a p) go (evals_bare es plain.2 sight a none p h)
          (λ b q still k. argument_bare sight (is_captured e) e (λ r. eval c caller sight e r) plain.0 (eval_bare e plain.1 sight) b still q k)

    -- ---- statements

    next_bare : (f : Flow) (go : Progress → Outcome Flow) → Keeps go → Keeps (on_next f go)
    next_bare Next go keeps p h = keeps p h
    next_bare Broke go keeps p h = (tt, h)
    next_bare Continued go keeps p h = (tt, h)
    next_bare (Returned parts) go keeps p h = (tt, h)

    body_bare : (f : Flow) (go : Progress → Outcome Flow) → Keeps go → Keeps (on_body f go)
    body_bare Next go keeps p h = keeps p h
    body_bare Broke go keeps p h = (tt, h)
    body_bare Continued go keeps p h = keeps p h
    body_bare (Returned parts) go keeps p h = (tt, h)

    turns_bare : (k : ℕ) (test third : Progress → Outcome (List Value)) (body : Progress → Outcome Flow) → Keeps test → Keeps body → Keeps third → Keeps (turns k test body third)
    turns_bare zero test third body tests bodies thirds p h = h
    turns_bare (suc k) test third body tests bodies thirds p h =
        let turn = λ (u : Progress). bind (third u) (λ w x. turns k test body third x) in
        let round = λ (s : Progress). bind (body s) (λ f t. on_body f turn t) in
        let after = λ (v : List Value) (r : Progress). chosen (is_true v) round (λ s. Gives Next s) r in
        let turn_keeps : Keeps turn = λ u b. bare_bind (third u) (λ w x. turns k test body third x) (thirds u b) (λ w x d. turns_bare k test third body tests bodies thirds x d) in
        bare_bind (test p) (λ v q. spend q (after v)) (tests p h)
        (λ v q j. bare_spend q (after v) j
        (λ r i. bare_chosen (is_true v) round (λ s. Gives Next s) r (bare_bind (body r) (λ f t. on_body f turn t) (bodies r i) (λ f t d. body_bare f turn turn_keeps t d)) (tt, i)))

    looped_bare : (test third : Progress → Outcome (List Value)) (body : Progress → Outcome Flow) → Keeps test → Keeps body → Keeps third → Keeps (looped test body third)
    looped_bare test third body tests bodies thirds p h = turns_bare (suc p.left) test third body tests bodies thirds p h

    nothing_bare : Keeps {A = List Value} (λ q. Gives [] q)
    nothing_bare p h = (tt, h)

    maybe_bare : (sight : List ℕ) (o : Option TypedExpr) → HasNoneThere o → Keeps (maybe c caller sight o)
    maybe_bare sight None plain p h = (tt, h)
    maybe_bare sight (Some e) plain p h = eval_bare e plain sight p h

    tested_bare : (sight : List ℕ) (o : Option TypedExpr) → HasNoneThere o → Keeps (tested c caller sight o)
    tested_bare sight None plain p h = bare_spend p (λ q. Gives (Int (pos 1) ∷ []) q) h (λ q k. (tt, k))
    tested_bare sight (Some e) plain p h = eval_bare e plain sight p h

    initial_bare : (sight : List ℕ) (t : Ty) (o : Option TypedExpr) → HasNoneThere o → Keeps (initial c caller sight t o)
    initial_bare sight t None plain p h = made_bare (cell_types c.structs t) p h
    initial_bare sight t (Some e) plain p h = eval_bare e plain sight p h

    declared_bare : (ds : List TypedName) → NamesHaveNone ds → (sight : List ℕ) → Keeps (declared c caller sight ds)
    declared_bare [] plain sight p h = (tt, h)
    declared_bare (d ∷ ds) plain sight p h =
        let go = λ (parts : List Value) (q : Progress). declared c caller (d.name.number ∷ sight) ds (record q { locals = with_variable q.locals d.name.number parts }) in
        bare_bind (initial c caller sight d.name.ty d.value p) go (initial_bare sight d.name.ty d.value plain.0 p h)
        (λ parts q k. declared_bare ds plain.1 (d.name.number ∷ sight) (record q { locals = with_variable q.locals d.name.number parts }) k)

    mutual
      exec_bare : (s : TypedStmt) → StatementHasNone s → (sight : List ℕ) → Keeps (exec c caller sight s)
      exec_bare (block n xs) plain sight p h = execs_bare xs plain sight p h
      exec_bare (empty n) plain sight p h = (tt, h)
      exec_bare (expression n e) plain sight p h = bare_bind (eval c caller sight e p) (λ parts q. Gives Next q) (eval_bare e plain sight p h) (λ parts q k. (tt, k))
      exec_bare (if_only n e a) plain sight p h =
          let go = λ (v : List Value) (q : Progress). chosen (is_true v) (λ r. exec c caller sight a r) (λ r. Gives Next r) q in
          bare_bind (eval c caller sight e p) go (eval_bare e plain.0 sight p h)
          (λ v q k. bare_chosen (is_true v) (λ r. exec c caller sight a r) (λ r. Gives Next r) q (exec_bare a plain.1 sight q k) (tt, k))
      exec_bare (if_else n e a b) plain sight p h =
          let go = λ (v : List Value) (q : Progress). chosen (is_true v) (λ r. exec c caller sight a r) (λ r. exec c caller sight b r) q in
          bare_bind (eval c caller sight e p) go (eval_bare e plain.0 sight p h)
          (λ v q k. bare_chosen (is_true v) (λ r. exec c caller sight a r) (λ r. exec c caller sight b r) q (exec_bare a plain.1 sight q k) (exec_bare b plain.2 sight q k))
      exec_bare (while_loop n e a) plain sight p h =
          looped_bare (λ q. eval c caller sight e q) (λ q. Gives [] q) (λ q. exec c caller sight a q) (eval_bare e plain.0 sight) (exec_bare a plain.1 sight) nothing_bare p h
      exec_bare (do_loop n a e) plain sight p h =
          let loop = λ (r : Progress). looped (λ s. eval c caller sight e s) (λ s. exec c caller sight a s) (λ s. Gives [] s) r in
          bare_bind (exec c caller sight a p) (λ f q. on_body f loop q) (exec_bare a plain.0 sight p h)
          (λ f q k. body_bare f loop
          (looped_bare (λ s. eval c caller sight e s) (λ s. Gives [] s) (λ s. exec c caller sight a s)
          (eval_bare e plain.1 sight) (exec_bare a plain.0 sight) nothing_bare) q k)
      exec_bare (for_loop n x y z a) plain sight p h =
          let go = λ (parts : List Value) (q : Progress). looped (λ r. tested c caller sight y r) (λ r. exec c caller sight a r) (λ r. maybe c caller sight z r) q in
          bare_bind (maybe c caller sight x p) go (maybe_bare sight x plain.0 p h)
          (λ parts q k. looped_bare (λ r. tested c caller sight y r) (λ r. maybe c caller sight z r)
          (λ r. exec c caller sight a r) (tested_bare sight y plain.1) (exec_bare a plain.3 sight)
          (maybe_bare sight z plain.2) q k)
      exec_bare (switch n e xs) plain sight p h =
          let ends = λ (f : Flow) (r : Progress). Gives (on_switch f) r in
          let otherwise = λ (r : Progress). from_default c caller sight xs r in
          bare_bind (eval c caller sight e p) (λ v q. bind (selected c caller sight v otherwise xs q) ends) (eval_bare e plain.0 sight p h)
          (λ v q k. bare_bind (selected c caller sight v otherwise xs q) ends (selected_bare xs plain.1 sight v otherwise (default_bare xs plain.1 sight) q k) (λ f r j. (tt, j)))
      exec_bare (break_off n) plain sight p h = bare_spend p (λ q. Gives Broke q) h (λ q k. (tt, k))
      exec_bare (continue_on n) plain sight p h = bare_spend p (λ q. Gives Continued q) h (λ q k. (tt, k))
      exec_bare (return_from n o) plain sight p h =
          bare_bind (maybe c caller sight o p) (λ parts q. spend q (λ r. Gives (Returned parts) r)) (maybe_bare sight o plain p h)
          (λ parts q k. bare_spend q (λ r. Gives (Returned parts) r) k (λ r j. (tt, j)))
      exec_bare (declaration n t ds) plain sight p h = declared_bare ds plain sight p h
      exec_bare (case_label n k) plain sight p h = (tt, h)
      exec_bare (default_label n) plain sight p h = (tt, h)

      execs_bare : (ss : TypedStmts) → StatementsHaveNone ss → (sight : List ℕ) → Keeps (execs c caller sight ss)
      execs_bare no_stmt plain sight p h = (tt, h)
      execs_bare (more_stmts s ss) plain sight p h =
          let rest = λ (r : Progress). execs c caller (after_stmt s sight) ss r in
          bare_bind (exec c caller sight s p) (λ f q. on_next f rest q) (exec_bare s plain.0 sight p h)
          (λ f q k. next_bare f rest (execs_bare ss plain.1 (after_stmt s sight)) q k)

      selected_bare : (ss : TypedStmts) → StatementsHaveNone ss → (sight : List ℕ) (v : List Value) (otherwise : Progress → Outcome Flow) → Keeps otherwise
          → Keeps (selected c caller sight v otherwise ss)
      selected_bare no_stmt plain sight v otherwise keeps p h = keeps p h
      selected_bare (more_stmts (case_label n k) ss) plain sight v otherwise keeps p h =
          let go = λ (q : Progress). chosen (values_eq v (constant_value c.self k ∷ [])) (λ r. execs c caller sight ss r) (λ r. selected c caller sight v otherwise ss r) q in
          bare_spend p go h
          (λ q j. bare_chosen (values_eq v (constant_value c.self k ∷ [])) (λ r. execs c caller sight ss r) (λ r. selected c caller sight v otherwise ss r) q
          (execs_bare ss plain.1 sight q j) (selected_bare ss plain.1 sight v otherwise keeps q j))
      selected_bare (more_stmts s ss) plain sight v otherwise keeps p h = selected_bare ss plain.1 (after_stmt s sight) v otherwise keeps p h

      default_bare : (ss : TypedStmts) → StatementsHaveNone ss → (sight : List ℕ) → Keeps (from_default c caller sight ss)
      default_bare no_stmt plain sight p h = (tt, h)
      default_bare (more_stmts (default_label n) ss) plain sight p h = execs_bare ss plain.1 sight p h
      default_bare (more_stmts s ss) plain sight p h = default_bare ss plain.1 (after_stmt s sight) p h

-- ---- functions

abbrev FunctionHasNone : Option Function → Type 0
FunctionHasNone None = Unit {0}
FunctionHasNone (Some f) = StatementsHaveNone f.body

abbrev FunctionsHaveNone : List Function → Type 0
FunctionsHaveNone fs = AllByRecursion (λ (f : Function). StatementsHaveNone f.body) fs

-- the functions of a unit, and its globals
functions_of : (is : List TypedItem) → AllByRecursion ItemHasNone is → FunctionsHaveNone (functions is)
functions_of [] plain = tt
functions_of (function n t x ps (Some body) ∷ is) plain = (plain.0, functions_of is plain.1)
functions_of (function n t x ps None ∷ is) plain = functions_of is plain.1
functions_of (structure n x ls ∷ is) plain = functions_of is plain.1
functions_of (constant n t x k ∷ is) plain = functions_of is plain.1
functions_of (global n t xs ∷ is) plain = functions_of is plain.1

names_joined : (xs ys : List TypedName) → NamesHaveNone xs → NamesHaveNone ys → NamesHaveNone (xs ++ ys)
names_joined [] ys h k = k
names_joined (x ∷ xs) ys h k = (h.0, names_joined xs ys h.1 k)

globals_of : (is : List TypedItem) → AllByRecursion ItemHasNone is → NamesHaveNone (global_names is)
globals_of [] plain = tt
globals_of (global n t xs ∷ is) plain = names_joined xs (global_names is) plain.0 (globals_of is plain.1)
globals_of (function n t x ps body ∷ is) plain = globals_of is plain.1
globals_of (structure n x ls ∷ is) plain = globals_of is plain.1
globals_of (constant n t x k ∷ is) plain = globals_of is plain.1

function_at : (fs : List Function) → FunctionsHaveNone fs → (n : ℕ) → FunctionHasNone (slice_get fs n)
function_at [] plain n = tt
function_at (f ∷ fs) plain zero = plain.0
function_at (f ∷ fs) plain (suc n) = function_at fs plain.1 n

module _ (c : Running) (executes : ExecuteKeeps c.execute) where
  run_bare : (caller : Caller) → CallerKeeps caller → (o : Option Function) → FunctionHasNone o → (values : List (List Value)) → Keeps (body_run c caller o values)
  run_bare caller callers None plain values p h = (tt, h)
  run_bare caller callers (Some f) plain values p h =
      bare_bind (execs c caller (parameter_names f.parameters) f.body (record p { locals = bound f.parameters values })) (λ flow q. Gives (result_of (cell_types c.structs f.result) flow) q)
      (execs_bare c executes caller callers f.body plain (parameter_names f.parameters) (record p { locals = bound f.parameters values }) h) (λ flow q k. (tt, k))

  calls_bare : (fs : List Function) → FunctionsHaveNone fs → (k : ℕ) → CallerKeeps (calls c fs k)
  calls_bare fs plain zero f values p h = h
  calls_bare fs plain (suc k) f values p h = run_bare (calls c fs k) (calls_bare fs plain k) (slice_get fs f) (function_at fs plain f) values p h

  entry_bare : (caller : Caller) → CallerKeeps caller → (e : EntryPoint) → Keeps (entry_called caller e)
  entry_bare caller callers (Main f) p h = callers f [] p h
  entry_bare caller callers (Conditional f) p h = bare_bind (made (IntTy ∷ []) p) (λ parts q. caller f [] q) (made_bare (IntTy ∷ []) p h) (λ parts q k. callers f [] q k)

  unit_bare : (u : TypedUnit) → UnitHasNoAction u → Keeps (unit_started c u)
  unit_bare u plain p h =
      bare_bind (declared c no_functions [] (global_names u.items) (without_variables p)) (λ flow q. entry_called (calling c (functions u.items) q) u.entry (globals_made q))
      (declared_bare c executes no_functions (λ f values q k. (tt, k)) (global_names u.items) (globals_of u.items plain) [] (without_variables p) h)
      (λ flow q k. entry_bare (calling c (functions u.items) q) (calls_bare (functions u.items) (functions_of u.items plain) (suc q.left)) u.entry (globals_made q) k)

-- ---- scripts

abbrev ListedHasNone : Option Listed → Type 0
ListedHasNone None = Unit {0}
ListedHasNone (Some l) = UnitHasNoAction l.unit

abbrev pub AllHaveNone : List Listed → Type 0
AllHaveNone scripts = AllByRecursion (λ (l : Listed). UnitHasNoAction l.unit) scripts

listed_at : (scripts : List Listed) → AllHaveNone scripts → (n : ℕ) → ListedHasNone (slice_get scripts n)
listed_at [] plain n = tt
listed_at (l ∷ scripts) plain zero = plain.0
listed_at (l ∷ scripts) plain (suc n) = listed_at scripts plain.1 n

abbrev StartKeeps : Option Starter → Type 0
StartKeeps None = Unit {0}
StartKeeps (Some start) = (script self : ℕ) → Keeps (start script self)

module _ (s : Setting) (plain : AllHaveNone s.scripts) where
  listed_bare : (execute : ℕ → List ℕ → ℕ → Progress → Outcome (List Value)) → ((self : ℕ) → ExecuteKeeps (execute self)) → (script self : ℕ) (o : Option Listed) → ListedHasNone o
      → Keeps (listed_started s execute script self o)
  listed_bare execute executes script self None none p h = (tt, h)
  listed_bare execute executes script self (Some l) none p h =
      let c = running s (execute self) script self l.unit in
      bare_spend p (λ q. bind (unit_started c l.unit q) (λ parts r. Gives [] r)) h
      (λ q k. bare_bind (unit_started c l.unit q) (λ parts r. Gives [] r) (unit_bare c (executes self) l.unit none q k) (λ parts r j. (tt, j)))

  begun_bare : (start : Option Starter) → StartKeeps start → (script : Option ℕ) (script_name : List ℕ) (target : ℕ) → Keeps (starter_begun start script script_name target)
  begun_bare start keeps None script_name target p h =
      bare_spend p (λ q. Gives [] (record q { world = no_script target script_name q.world })) h (λ q k. (tt, told_bare target (line.NoScript script_name) q.world k))
  begun_bare None keeps (Some script) script_name target p h =
      bare_spend p (λ q. Gives [] (record q { world = too_deep target script_name q.world })) h (λ q k. (tt, told_bare target (line.Deep script_name) q.world k))
  begun_bare (Some start) keeps (Some script) script_name target p h =
      bare_bind (start script target p) (λ parts q. spend (resumed p q) (λ r. Gives [] r)) (keeps script target p h)
      (λ parts q k. bare_spend (resumed p q) (λ r. Gives [] r) k (λ r j. (tt, j)))

  executing_bare : (start : Option Starter) → StartKeeps start → (self : ℕ) → ExecuteKeeps (executing s start self)
  executing_bare start keeps self [] target p h = bare_spend p (λ q. Gives [] q) h (λ q k. (tt, k))
  executing_bare start keeps self (b ∷ script_name) target p h =
      let go = λ (q : Progress). starter_begun start (script_named s.scripts (b ∷ script_name)) (b ∷ script_name) target q in
      let stays = λ (q : Progress). spend q (λ r. Gives [] r) in
      bare_chosen (may_run self target p.world) go stays p (begun_bare start keeps (script_named s.scripts (b ∷ script_name)) (b ∷ script_name) target p h)
      (bare_spend p (λ r. Gives [] r) h (λ r k. (tt, k)))

  started_bare : (room script self : ℕ) → Keeps (started s room script self)
  started_bare zero script self p h =
      listed_bare (executing s None) (λ o. executing_bare None tt o) script self (slice_get s.scripts script) (listed_at s.scripts plain script) p h
  started_bare (suc room) script self p h =
      listed_bare (executing s (Some (started s room)))
      (λ o. executing_bare (Some (started s room)) (started_bare room) o) script self (slice_get s.scripts script)
      (listed_at s.scripts plain script) p h

  -- an entry that starts a script
  pub script_bare : (n script self : ℕ) (w : World Deferred) → IsBare w → Bare (run_script s n script self w)
  script_bare n script self w h = started_bare waiting_limit script self (with_steps n w) h
