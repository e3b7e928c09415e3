-- What a script means: its functions, its start, a deferred call of it, and how it runs other
-- scripts.
use Rattle.std.specs.Prelude.{ℕ, zero, suc, List, [], ◌∷◌, ◌++◌, map, Option, None, Some, slice_get}
use Rattle.std.specs.Char.{to_ascii_lowercase}
use Rattle.std.specs.List.{position}
use Rattle.std.specs.Str.{bytes_eq}
use Rattle.nss_tree.specs.Units.{global, function}
use Rattle.nwq_value.specs.declared.value.Ty.{Ty}
use Rattle.nwq_value.specs.declared.value.Ty.TheVariants.{Int}
use Rattle.nwq_value.specs.declared.value.Value.{Value}
use Rattle.nwq_value.specs.Engine.{EngineTable}
use Rattle.typing_rules.specs.declared.places.EntryPoint.{EntryPoint}
use Rattle.typing_rules.specs.declared.places.EntryPoint.TheVariants.{Main, Conditional}
use Rattle.typing_rules.specs.Typed.{TypedParameter, TypedStmts, TypedName, TypedItem, TypedUnit}
use Rattle.typing_rules.specs.Cells.{structs_from, cell_types}
use Rattle.world_rules.specs.Pure.{CellLookup}
use Rattle.world_rules.specs.World.{World}
use Rattle.world_rules.specs.Engine.{may_run, no_script, too_deep}
use Rattle.source_meaning.specs.Values.{start_parts}
use Rattle.source_meaning.specs.Evaluation.{Variables, no_variables, with_variable, Deferred, Progress, Outcome, Gives, OutOfSteps, bind, spend, chosen}
use Rattle.source_meaning.specs.Expressions.{Running, Caller, made, eval}
use Rattle.source_meaning.specs.Statements.{Flow, Next, Broke, Continued, Returned, declared, execs}

-- a listed script, under its name in lower case
pub record Listed : Type 0 where
  pub name : List ℕ
  pub unit : TypedUnit

-- what all scripts of a play have in common: the header's routines, the tables, and the listed
-- scripts
pub record Setting : Type 0 where
  pub table : EngineTable
  pub tables : CellLookup
  pub scripts : List Listed

-- ---- functions

pub record Function : Type 0 where
  pub result : Ty
  pub parameters : List TypedParameter
  pub body : TypedStmts

-- the functions with bodies, in the order of the bodies
abbrev pub functions : List TypedItem → List Function
functions [] = []
functions (function n t x ps (Some body) ∷ is) = record {
  result = t;
  parameters = ps;
  body = body;
} ∷ functions is
functions (_ ∷ is) = functions is

-- each parameter has the value of its argument
abbrev pub bound : List TypedParameter → List (List Value) → Variables
bound [] values = no_variables
bound (p ∷ ps) [] = no_variables
bound (p ∷ ps) (parts ∷ values) = with_variable (bound ps values) p.name.number parts

abbrev pub parameter_names : List TypedParameter → List ℕ
parameter_names ps = map (λ p. p.name.number) ps

-- a function that is left at its end gives its type's starting value
abbrev pub result_of : List Ty → Flow → List Value
result_of types (Returned parts) = parts
result_of types Next = start_parts types
result_of types Broke = start_parts types
result_of types Continued = start_parts types

abbrev pub body_run : Running → Caller → Option Function → List (List Value) → Progress
    → Outcome (List Value)
body_run c caller None values p = Gives [] p
body_run c caller (Some f) values p =
    bind (execs c caller (parameter_names f.parameters) f.body
    (record p { locals = bound f.parameters values }))
    (λ flow q. Gives (result_of (cell_types c.structs f.result) flow) q)

-- The functions of a unit, where calls may nest so deep.
abbrev pub calls : Running → List Function → ℕ → Caller
calls c fs zero f values p = OutOfSteps p
calls c fs (suc k) f values p = body_run c (calls c fs k) (slice_get fs f) values p

-- Each call takes a step, so calls nest no deeper than steps are left.
abbrev pub calling : Running → List Function → Progress → Caller
calling c fs p = calls c fs (suc p.left)

-- ---- the start of a script

-- the global variables, in order
abbrev pub global_names : List TypedItem → List TypedName
global_names [] = []
global_names (global n t xs ∷ is) = xs ++ global_names is
global_names (_ ∷ is) = global_names is

abbrev pub no_functions : Caller
no_functions f values p = Gives [] p

-- While they are made, the global variables are the script's own.
abbrev pub globals_made : Progress → Progress
globals_made p = record p { globals = p.locals; locals = no_variables }

abbrev pub without_variables : Progress → Progress
without_variables p = record p { globals = no_variables; locals = no_variables }

-- The entry function, whose own call is no step. A condition's result is made as every result is.
abbrev pub entry_called : Caller → EntryPoint → Progress → Outcome (List Value)
entry_called caller (Main f) p = caller f [] p
entry_called caller (Conditional f) p = bind (made (Int ∷ []) p) (λ parts q. caller f [] q)

abbrev pub unit_started : Running → TypedUnit → Progress → Outcome (List Value)
unit_started c u p = bind (declared c no_functions [] (global_names u.items) (without_variables p))
    (λ flow q. entry_called (calling c (functions u.items) q) u.entry (globals_made q))

-- ---- scripts that run others

abbrev pub running : Setting → (List ℕ → ℕ → Progress → Outcome (List Value)) → ℕ → ℕ → TypedUnit
    → Running
running s execute script self u = record {
  table = s.table;
  tables = s.tables;
  structs = structs_from [] u.items;
  script = script;
  self = self;
  execute = execute;
}

-- a script of a number that is started, which is a step; what it gives is dropped
abbrev pub listed_started : Setting → (ℕ → List ℕ → ℕ → Progress → Outcome (List Value)) → ℕ → ℕ
    → Option Listed → Progress → Outcome (List Value)
listed_started s execute script self None p = Gives [] p
listed_started s execute script self (Some l) p =
    spend p (λ q. bind (unit_started (running s (execute self) script self l.unit) l.unit q)
    (λ parts r. Gives [] r))

-- the number of the listed script of this name, where letters count without their case
abbrev pub script_named : List Listed → List ℕ → Option ℕ
script_named scripts name = position (λ l. bytes_eq (map to_ascii_lowercase name) l.name) scripts

-- how a script of a number starts, as an object
abbrev pub Starter : Type 0
Starter = ℕ → ℕ → Progress → Outcome (List Value)

-- it goes on with its own variables
abbrev pub resumed : Progress → Progress → Progress
resumed p q = record q { globals = p.globals; locals = p.locals }

abbrev pub starter_begun : Option Starter → Option ℕ → List ℕ → ℕ → Progress → Outcome (List Value)
starter_begun start None name target p = spend p
    (λ q. Gives [] (record q { world = no_script target name q.world }))
starter_begun None (Some script) name target p = spend p
    (λ q. Gives [] (record q { world = too_deep target name q.world }))
starter_begun (Some start) (Some script) name target p = bind (start script target p)
    (λ parts q. spend (resumed p q) (λ r. Gives [] r))

-- What comes of running the script of a name as a target, in a script of an object: nothing of an
-- empty name, nor of a target that it may not run a script on; a line where the script isn't
-- listed, or as many scripts wait as may; and else the script runs at once, in the same world and
-- with the same steps. The call has its value when that script has ended.
abbrev pub executing : Setting → Option Starter → ℕ → List ℕ → ℕ → Progress → Outcome (List Value)
executing s start self [] target p = spend p (λ q. Gives [] q)
executing s start self (b ∷ name) target p =
    chosen (may_run self target p.world)
    (λ q. starter_begun start (script_named s.scripts (b ∷ name)) (b ∷ name) target q)
    (λ q. spend q (λ r. Gives [] r)) p

-- a script from its start, as an object, where so many scripts more may wait
abbrev pub started : Setting → ℕ → Starter
started s zero script self p = listed_started s (executing s None) script self
    (slice_get s.scripts script) p
started s (suc room) script self p = listed_started s
    (executing s (Some (started s room))) script self (slice_get s.scripts script) p

-- how many scripts at most wait for one that they execute
abbrev pub waiting_limit : ℕ
waiting_limit = 8

abbrev pub next_starter : Setting → ℕ → Option Starter
next_starter s zero = None
next_starter s (suc room) = Some (started s room)

-- ---- entries, for which no script waits

-- how scripts start that an entry's own script runs
abbrev pub first_starter : Setting → Option Starter
first_starter s = next_starter s waiting_limit

-- A deferred call is evaluated in its script, with the names in sight and the variables as they
-- were captured.
abbrev pub call_evaluated : Running → Deferred → List Function → Progress → Outcome (List Value)
call_evaluated c d fs p = eval c (calling c fs p) d.sight d.call p

abbrev pub call_resumed : Setting → Deferred → ℕ → Option Listed → Progress → Outcome (List Value)
call_resumed s d self None p = Gives [] p
call_resumed s d self (Some l) p = call_evaluated
    (running s (executing s (first_starter s) self) d.script self l.unit) d (functions l.unit.items)
    (record p { globals = d.globals; locals = d.locals })

abbrev pub with_steps : ℕ → World Deferred → Progress
with_steps n world = record {
  left = n;
  globals = no_variables;
  locals = no_variables;
  world = world;
}

-- an entry that starts a script, as an object, with at most n steps
abbrev pub run_script : Setting → ℕ → ℕ → ℕ → World Deferred → Outcome (List Value)
run_script s n script self world = started s waiting_limit script self (with_steps n world)

-- an entry that runs a deferred call
abbrev pub run_deferred : Setting → ℕ → Deferred → ℕ → World Deferred → Outcome (List Value)
run_deferred s n d self world = call_resumed s d self (slice_get s.scripts d.script)
    (with_steps n world)
