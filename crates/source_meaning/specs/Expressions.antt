-- What an expression means in a running script: its value, with the steps that it takes and what it
-- changes. Operands are evaluated left to right, arguments last to first.
use Rattle.std.specs.Prelude.{ℕ, ◌==◌, Bool, true, false, List, [], ◌∷◌, Option, None, Some, slice_get}
use Rattle.std.specs.List.{flat_map}
use Rattle.nss_tree.specs.declared.operators.PrefixOperator.{PrefixOperator}
use Rattle.nss_tree.specs.declared.operators.PrefixOperator.TheVariants as pre
use Rattle.nss_tree.specs.declared.operators.BinaryOperator.{BinaryOperator}
use Rattle.nss_tree.specs.declared.operators.BinaryOperator.TheVariants as bin
use Rattle.nwq_value.specs.declared.value.Ty.{Ty}
use Rattle.nwq_value.specs.declared.value.Value.{Value}
use Rattle.nwq_value.specs.declared.value.Value.TheVariants.{Text, Object}
use Rattle.nwq_value.specs.declared.engine.Const.{Const}
use Rattle.nwq_value.specs.declared.engine.Role.{Role}
use Rattle.nwq_value.specs.declared.engine.Role.TheVariants.{Built}
use Rattle.nwq_value.specs.declared.engine.Routine.{Routine}
use Rattle.nwq_value.specs.Engine.{EngineTable}
use Rattle.typing_rules.specs.declared.places.Place.{Place}
use Rattle.typing_rules.specs.declared.places.Place.TheVariants.{Local, Global, Const as IsConst}
use Rattle.typing_rules.specs.declared.places.Callee.{Callee}
use Rattle.typing_rules.specs.declared.places.Callee.TheVariants.{Unit as InUnit, Engine}
use Rattle.typing_rules.specs.Typed.{TypedExpr, TypedExprs, literal, name, call, member, prefix, postfix, binary, assign, no_typed, more_typed}
use Rattle.typing_rules.specs.Cells.{Structs, cell_types, cells, is_captured}
use Rattle.world_rules.specs.Pure.{CellLookup}
use Rattle.world_rules.specs.Rows.{Answered}
use Rattle.world_rules.specs.Engine.{engine}
use Rattle.source_meaning.specs.Values.{constant_value, start_part, parts_of, is_true, one_int, test_value, operate, divides_by_zero, applied, prefixed, postfixed}
use Rattle.source_meaning.specs.Evaluation.{Deferred, Progress, Outcome, Gives, Divides, bind, spend, chosen}
use Rattle.source_meaning.specs.Spots.{Spot, further, spot, read_at, written_at}

-- What a running script stands in: header and tables, the structs of its unit, its number among the
-- scripts, the object that it runs as, and what comes of running another script, by its name and
-- the object that it is to run as.
pub record Running : Type 0 where
  pub table : EngineTable
  pub tables : CellLookup
  pub structs : Structs
  pub script : ℕ
  pub self : ℕ
  pub execute : List ℕ → ℕ → Progress → Outcome (List Value)

-- what a call of a function of the unit gives, by the function's number and its arguments
abbrev pub Caller : Type 0
Caller = ℕ → List (List Value) → Progress → Outcome (List Value)

-- the arguments of a call: the values, first to last, and the action, where one is among them
pub record Arguments : Type 0 where
  pub values : List (List Value)
  pub action : Option Deferred

abbrev pub with_argument : List Value → Arguments → Arguments
with_argument parts a = record a { values = parts ∷ a.values }

-- ---- calls of the engine

abbrev pub parts_in : Option Value → List Value
parts_in None = []
parts_in (Some v) = v ∷ []

abbrev pub all_parts : List (List Value) → List Value
all_parts values = flat_map (λ parts. parts) values

abbrev pub answered : Answered Deferred → Progress → Outcome (List Value)
answered a p = Gives (parts_in a.value) (record p { world = a.world })

-- ExecuteScript, the engine's own routine that runs another script at once
abbrev pub execute_script : ℕ
execute_script = 8

abbrev pub is_execute_script : Role → Bool
is_execute_script (Built n) = n == execute_script
is_execute_script _ = false

abbrev pub runs_script_in : Option Routine → Bool
runs_script_in None = false
runs_script_in (Some r) = is_execute_script r.role

abbrev pub runs_script : EngineTable → ℕ → Bool
runs_script table routine = runs_script_in (slice_get table.routines routine)

-- a name and a target
abbrev pub executed : Running → List Value → Progress → Outcome (List Value)
executed c (Text callee_called ∷ Object target ∷ []) p = c.execute callee_called target p
executed c _ p = spend p (λ q. Gives [] q)

abbrev pub asked : Running → ℕ → Arguments → Progress → Outcome (List Value)
asked c routine a p = spend p (λ q. answered
    (engine c.table c.tables routine
    (record { caller = c.self; values = all_parts a.values; action = a.action }) q.world) q)

abbrev pub engine_called : Running → ℕ → Arguments → Progress → Outcome (List Value)
engine_called c routine a p = chosen (runs_script c.table routine)
    (λ q. executed c (all_parts a.values) q) (λ q. asked c routine a q) p

-- ---- calls of the unit

-- parts with the starting values of their types, each a step
abbrev pub made : List Ty → Progress → Outcome (List Value)
made [] p = Gives [] p
made (t ∷ ts) p = spend p (λ q. bind (made ts q) (λ parts r. Gives (start_part t ∷ parts) r))

-- The call is begun, which is a step; what it gives is its value, and the variables of the caller
-- are as before.
abbrev pub unit_called : Caller → ℕ → Arguments → Progress → Outcome (List Value)
unit_called caller f a p = spend p
    (λ q. bind (caller f a.values q) (λ parts r. Gives parts (record r { locals = q.locals })))

-- ---- nodes, by what their parts mean

-- the defaults that stand in for arguments, the last one first
abbrev pub defaults : ℕ → List Const → Progress → Outcome (List (List Value))
defaults self [] p = Gives [] p
defaults self (k ∷ ks) p = bind (defaults self ks p)
    (λ values q. spend q (λ r. Gives ((constant_value self k ∷ []) ∷ values) r))

-- The result is made before the arguments have their values.
abbrev pub callee_called : Running → Caller → Callee → List Ty → (Progress → Outcome Arguments)
    → Progress → Outcome (List Value)
callee_called c caller (InUnit f) result arguments p = bind (made result p)
    (λ parts q. bind (arguments q) (λ a r. unit_called caller f a r))
callee_called c caller (Engine routine) result arguments p = bind (arguments p)
    (λ a q. engine_called c routine a q)

abbrev pub named : ℕ → Place → Progress → Outcome (List Value)
named self (Local n) p = spend p (λ q. Gives (q.locals n) q)
named self (Global n) p = spend p (λ q. Gives (q.globals n) q)
named self (IsConst k) p = spend p (λ q. Gives (constant_value self k ∷ []) q)

-- a member of a variable is read there, of another value it is taken out
abbrev pub member_of : Option Spot → ℕ → ℕ → (Progress → Outcome (List Value)) → Progress
    → Outcome (List Value)
member_of None before count value p = bind (value p)
    (λ parts q. spend q (λ r. Gives (parts_of before count parts) r))
member_of (Some s) before count value p = spend p
    (λ q. Gives (read_at (further before s) count q) q)

-- the int at a spot is changed; which of the two it gives, the new int or the old one
abbrev pub stepped : Option Spot → (List Value → List Value)
    → (List Value → List Value → List Value) → Progress → Outcome (List Value)
stepped None change gives p = spend p (λ q. Gives [] q)
stepped (Some s) change gives p = spend p
    (λ q. Gives (gives (read_at s 1 q) (change (read_at s 1 q)))
    (written_at s (change (read_at s 1 q)) q))

abbrev pub is_step : PrefixOperator → Bool
is_step pre.Increment = true
is_step pre.Decrement = true
is_step _ = false

abbrev pub before_operand : PrefixOperator → Bool → Option Spot → (Progress → Outcome (List Value))
    → Progress → Outcome (List Value)
before_operand o true s operand p = stepped s (one_int (prefixed o)) (λ old new. new) p
before_operand o false s operand p = bind (operand p)
    (λ parts q. spend q (λ r. Gives (one_int (prefixed o) parts) r))

-- a divisor that is 0 is found before the step
abbrev pub operated : ℕ → BinaryOperator → List Value → List Value
    → (List Value → Progress → Progress) → Progress → Outcome (List Value)
operated self o v w write p = chosen (divides_by_zero o w) (λ q. Divides self q)
    (λ q. spend q (λ r. Gives (operate o v w) (write (operate o v w) r))) p

abbrev pub unwritten : List Value → Progress → Progress
unwritten parts p = p

-- `&&` leaves its right operand out where the left one is 0, and `||` where it isn't.
abbrev pub combined : ℕ → BinaryOperator → (Progress → Outcome (List Value))
    → (Progress → Outcome (List Value)) → Progress → Outcome (List Value)
combined self bin.And left right p = bind (left p) (λ v q. chosen (is_true v)
    (λ r. bind (right r) (λ w s. operated self bin.And v w unwritten s))
    (λ r. spend r (λ s. Gives (test_value false) s)) q)
combined self bin.Or left right p = bind (left p) (λ v q. chosen (is_true v)
    (λ r. spend r (λ s. Gives (test_value true) s))
    (λ r. bind (right r) (λ w s. operated self bin.Or v w unwritten s)) q)
combined self o left right p = bind (left p)
    (λ v q. bind (right q) (λ w r. operated self o v w unwritten r))

abbrev pub write_there : Option Spot → List Value → Progress → Progress
write_there None parts p = p
write_there (Some s) parts p = written_at s parts p

abbrev pub read_there : Option Spot → ℕ → Progress → List Value
read_there None count p = []
read_there (Some s) count p = read_at s count p

-- `=` writes its value; every other assignment reads its place first, which is a step
abbrev pub assigned : ℕ → Option BinaryOperator → Option Spot → ℕ
    → (Progress → Outcome (List Value)) → Progress → Outcome (List Value)
assigned self None s count value p = bind (value p)
    (λ parts q. spend q (λ r. Gives parts (write_there s parts r)))
assigned self (Some o) s count value p = spend p
    (λ q. bind (value q) (λ w r. operated self o (read_there s count q) w (write_there s) r))

-- what is captured of an action: its call, the names in sight, and the variables as they are
abbrev pub deferred : Running → List ℕ → TypedExpr → Progress → Deferred
deferred c sight e p = record {
  script = c.script;
  call = e;
  sight = sight;
  globals = p.globals;
  locals = p.locals;
}

-- an argument that is an action is captured, which is a step
abbrev pub argument : Running → List ℕ → Bool → TypedExpr → (Progress → Outcome (List Value))
    → Arguments → Progress → Outcome Arguments
argument c sight true e value a p = spend p
    (λ q. Gives (record a { action = Some (deferred c sight e q) }) q)
argument c sight false e value a p = bind (value p) (λ parts q. Gives (with_argument parts a) q)

-- ---- expressions

-- in a running script, where these variables of the frame are in sight
module _ (c : Running) (caller : Caller) (sight : List ℕ) where
  abbrev mutual
    pub eval : TypedExpr → Progress → Outcome (List Value)
    eval (literal k) p = spend p (λ q. Gives (constant_value c.self k ∷ []) q)
    eval (name t place) p = named c.self place p
    eval (call t f xs ks) p = callee_called c caller f (cell_types c.structs t)
        (λ q. bind (defaults c.self ks q)
        (λ values r. evals xs (record { values = values; action = None }) r)) p
    eval (member t x before) p = member_of (spot x) before (cells c.structs t) (λ q. eval x q) p
    eval (prefix t o x) p = before_operand o (is_step o) (spot x) (λ q. eval x q) p
    eval (postfix t o x) p = stepped (spot x) (one_int (postfixed o)) (λ old new. old) p
    eval (binary t o x y) p = combined c.self o (λ q. eval x q) (λ q. eval y q) p
    eval (assign t o x y) p = assigned c.self (applied o) (spot x) (cells c.structs t)
        (λ q. eval y q) p

    -- the arguments in front of these
    pub evals : TypedExprs → Arguments → Progress → Outcome Arguments
    evals no_typed a p = Gives a p
    evals (more_typed x xs) a p = bind (evals xs a p)
        (λ b q. argument c sight (is_captured x) x (λ r. eval x r) b q)
