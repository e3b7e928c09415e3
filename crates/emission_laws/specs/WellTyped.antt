-- What the typed tree of a unit keeps, as far as the shapes of its code need it: values have the
-- types that stand at their nodes.
use Rattle.std.specs.Prelude.{◌≡◌, ◌⊎◌, ℕ, false, List, [], ◌∷◌, Option, None, Some, slice_get}
use Rattle.nss_tree.specs.Statements.{block, empty, expression, if_only, if_else, while_loop, do_loop, for_loop, switch, break_off, continue_on, return_from, declaration, case_label, default_label, no_stmt, more_stmts}
use Rattle.nwq_value.specs.declared.value.Ty.{Ty}
use Rattle.nwq_value.specs.declared.value.Ty.TheVariants.{Void, Int}
use Rattle.nwq_value.specs.Engine.{EngineTable, const_type}
use Rattle.typing_rules.specs.declared.places.EntryPoint.{EntryPoint}
use Rattle.typing_rules.specs.declared.places.EntryPoint.TheVariants.{Main, Conditional}
use Rattle.typing_rules.specs.Typed.{TypedExpr, TypedName, TypedStmt, TypedStmts, TypedUnit}
use Rattle.emission_rules.specs.Layout.{layout_of, params_cells}
use Rattle.emission_rules.specs.Statements.{count_labels}
use Rattle.source_meaning.specs.Scripts.{Function, functions, global_names, parameter_names}
use Rattle.source_laws.specs.Kept.{Site}
use Rattle.source_laws.specs.Laws.{CallsEngine}
use Rattle.source_laws.specs.Carries.{unit_site}
use Rattle.source_laws.specs.FineStatements.{DeclaresNothing, AreFineNames, AreFineStmts}
use Rattle.source_laws.specs.FunctionsRun.{AreParameters}

-- ---- the labels of a switch

-- No label stands behind a declaration.
abbrev pub LabelsFirst : TypedStmts → Type 0
LabelsFirst no_stmt = Unit {0}
LabelsFirst (more_stmts s ss) = (DeclaresNothing s ⊎ (count_labels ss ≡ 0)) × LabelsFirst ss

-- The labels of each switch stand before its declarations, and each case is an int.
abbrev mutual
  pub FitsSwitches : TypedStmt → Type 0
  FitsSwitches (block m xs) = AllFitSwitches xs
  FitsSwitches (empty m) = Unit {0}
  FitsSwitches (expression m e) = Unit {0}
  FitsSwitches (if_only m e a) = FitsSwitches a
  FitsSwitches (if_else m e a b) = FitsSwitches a × FitsSwitches b
  FitsSwitches (while_loop m e a) = FitsSwitches a
  FitsSwitches (do_loop m a e) = FitsSwitches a
  FitsSwitches (for_loop m x y z a) = FitsSwitches a
  FitsSwitches (switch m e xs) = LabelsFirst xs × AllFitSwitches xs
  FitsSwitches (break_off m) = Unit {0}
  FitsSwitches (continue_on m) = Unit {0}
  FitsSwitches (return_from m e) = Unit {0}
  FitsSwitches (declaration m t ds) = Unit {0}
  FitsSwitches (case_label m k) = const_type k ≡ Int
  FitsSwitches (default_label m) = Unit {0}

  pub AllFitSwitches : TypedStmts → Type 0
  AllFitSwitches no_stmt = Unit {0}
  AllFitSwitches (more_stmts s ss) = FitsSwitches s × AllFitSwitches ss

-- ---- a unit

-- where its functions run
abbrev pub site : TypedUnit → Site
site u = unit_site 0 u 0 []

-- where its globals are made: they are local there, and BP is that of the script's start
abbrev pub start_site : TypedUnit → Site
start_site u = record (unit_site 0 u 0 []) { globals = []; bp = 0 }

pub record IsFineFunction (table : EngineTable) (u : TypedUnit) (f : Function) : Type 0 where
  pub parameters : AreParameters (site u) f.parameters
  pub body : AreFineStmts table (functions u.items) (site u) f.result false false
      (params_cells (layout_of u).structs f.parameters) (parameter_names f.parameters) f.body
  pub switches : AllFitSwitches f.body

abbrev pub SomeCallsEngine : Option TypedExpr → Type 0
SomeCallsEngine None = Unit {0}
SomeCallsEngine (Some e) = CallsEngine e

-- no function of the unit is called by a first value
abbrev pub NamesCallEngine : List TypedName → Type 0
NamesCallEngine [] = Unit {0}
NamesCallEngine (d ∷ ds) = SomeCallsEngine d.value × NamesCallEngine ds

-- a function without parameters, with a result of this type
pub record IsBegin (fs : List Function) (f : ℕ) (t : Ty) : Type 0 where
  pub function : Function
  pub is : slice_get fs f ≡ Some function
  pub parameters : function.parameters ≡ []
  pub result : function.result ≡ t

abbrev pub IsFineEntry : List Function → EntryPoint → Type 0
IsFineEntry fs (Main f) = IsBegin fs f Void
IsFineEntry fs (Conditional f) = IsBegin fs f Int

pub record IsWellTyped (table : EngineTable) (u : TypedUnit) : Type 0 where
  pub bodies : (f : ℕ) (fn : Function) → slice_get (functions u.items) f ≡ Some fn
      → IsFineFunction table u fn
  pub names : AreFineNames table (functions u.items) (start_site u) Void 0 [] (global_names u.items)
  pub calls : NamesCallEngine (global_names u.items)
  pub entry : IsFineEntry (functions u.items) u.entry
