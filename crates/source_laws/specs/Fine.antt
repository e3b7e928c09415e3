-- What the typed tree of a script keeps, as far as its meaning needs it: values have the types that
-- stand at their nodes.
use Rattle.std.specs.Prelude.{◌≡◌, ◌<◌, ◌≤◌, ℕ, ◌+◌, true, false, if◌then◌else◌, List, [], ◌∷◌, map, length, take, drop, Some, slice_get, IsFalse}
use Rattle.nwq_value.specs.declared.value.Ty.{Ty}
use Rattle.nwq_value.specs.declared.value.Ty.TheVariants.{Int, Action}
use Rattle.nwq_value.specs.declared.engine.Const.{Const}
use Rattle.nwq_value.specs.declared.engine.Param.{Param}
use Rattle.nwq_value.specs.declared.engine.Routine.{Routine}
use Rattle.nwq_value.specs.Engine.{EngineTable, const_type}
use Rattle.typing_rules.specs.declared.places.Place.TheVariants.{Local, Global, Const as IsConst}
use Rattle.typing_rules.specs.declared.places.Callee.{Callee}
use Rattle.typing_rules.specs.declared.places.Callee.TheVariants.{Unit as InUnit, Engine}
use Rattle.typing_rules.specs.Types.{binary_type, assigned_type}
use Rattle.typing_rules.specs.Typed.{TypedExpr, TypedExprs, TypedParameter, literal, name, call, member, prefix, postfix, binary, assign, no_typed, more_typed, type_of, is_place}
use Rattle.typing_rules.specs.Cells.{Structs, cell_types, cells, is_captured}
use Rattle.stack_shape.specs.Calls.{is_action, is_callable, action_count, result_types}
use Rattle.source_meaning.specs.Expressions.{is_step}
use Rattle.source_meaning.specs.Fields.{IsMember}
use Rattle.source_meaning.specs.Scripts.{Function}
use Rattle.source_laws.specs.Kept.{Site, In}

-- so many types behind the first ones are these, and there is one at least
pub record AreParts (all : List Ty) (before : ℕ) (parts : List Ty) : Type 0 where
  pub are : take (length parts) (drop before all) ≡ parts
  pub inside : before + length parts ≤ length all
  pub some : 0 < length parts

-- an argument without a value is an action
abbrev pub argument_type : TypedExpr → Ty
argument_type e = if is_captured e then Action else type_of e

abbrev pub argument_types : TypedExprs → List Const → List Ty
argument_types no_typed ks = map const_type ks
argument_types (more_typed e es) ks = argument_type e ∷ argument_types es ks

abbrev pub AreValues : TypedExprs → Type 0
AreValues no_typed = Unit {0}
AreValues (more_typed e es) = IsFalse (is_captured e) × AreValues es

-- a type whose values have one part
abbrev pub IsSingle : Structs → Ty → Type 0
IsSingle structs t = cell_types structs t ≡ t ∷ []

abbrev pub AreSingle : Structs → List Param → Type 0
AreSingle structs [] = Unit {0}
AreSingle structs (p ∷ ps) = IsSingle structs p.ty × AreSingle structs ps

-- An action may stand where the globals are made; a value is no action.
pub record IsArgument (x : Site) (e : TypedExpr) : Type 0 where
  pub made : is_captured e ≡ true → x.layout.globals ≡ x.bp
  pub value : is_captured e ≡ false → is_action (type_of e) ≡ false

abbrev pub parameter_type : TypedParameter → Ty
parameter_type p = p.ty

-- a call of a function of the script
pub record CallsFunction (functions : List Function) (t : Ty) (f : ℕ) (es : TypedExprs)
    (ks : List Const) : Type 0 where
  pub function : Function
  pub is : slice_get functions f ≡ Some function
  pub result : function.result ≡ t
  pub arguments : argument_types es ks ≡ map parameter_type function.parameters
  pub values : AreValues es

-- a call of a routine, which takes one action at most
pub record CallsRoutine (table : EngineTable) (structs : Structs) (t : Ty) (n : ℕ) (es : TypedExprs)
    (ks : List Const) : Type 0 where
  pub routine : Routine
  pub is : slice_get table.routines n ≡ Some routine
  pub result : cell_types structs t ≡ result_types routine.result
  pub single : AreSingle structs routine.params
  pub callable : is_callable routine ≡ true
  pub arguments : argument_types es ks ≡ map (λ p. p.ty) routine.params
  pub actions : action_count routine.params ≤ 1

abbrev pub IsCall : EngineTable → Structs → List Function → Ty → Callee → TypedExprs → List Const
    → Type 0
IsCall table structs functions t (InUnit f) es ks = CallsFunction functions t f es ks
IsCall table structs functions t (Engine n) es ks = CallsRoutine table structs t n es ks

-- In a script at this site, with these variables of its frame in sight.
module _ (table : EngineTable) (functions : List Function) (x : Site) (scope : List ℕ) where
  abbrev mutual
    pub IsFine : TypedExpr → Type 0
    IsFine (literal k) = Unit {0}
    IsFine (name t (Local n)) = In n scope × (x.types n ≡ t) × (0 < cells x.layout.structs t)
    IsFine (name t (Global n)) = In n x.globals × (x.types n ≡ t) × (0 < cells x.layout.structs t)
        × (x.layout.globals ≡ x.bp)
    IsFine (name t (IsConst k)) = const_type k ≡ t
    IsFine (call t f es ks) = IsCall table x.layout.structs functions t f es ks × AreFine es
    IsFine (member t e before) = IsFine e
        × AreParts (cell_types x.layout.structs (type_of e)) before (cell_types x.layout.structs t)
        × IsMember x.layout.structs x.fields (type_of e) t before
    IsFine (prefix t o e) = IsFine e × (type_of e ≡ Int) × (t ≡ Int)
        × (is_step o ≡ true → is_place e ≡ true)
    IsFine (postfix t o e) = IsFine e × (type_of e ≡ Int) × (t ≡ Int) × (is_place e ≡ true)
    IsFine (binary t o d e) = IsFine d × IsFine e × (binary_type o (type_of d) (type_of e) ≡ Some t)
    IsFine (assign t o d e) = IsFine d × IsFine e × (is_place d ≡ true)
        × (assigned_type o (type_of d) (type_of e) ≡ Some t)

    pub AreFine : TypedExprs → Type 0
    AreFine no_typed = Unit {0}
    AreFine (more_typed e es) = IsFine e × IsArgument x e × AreFine es
