-- What the statements of a function keep, as far as their meaning needs it.
use Rattle.std.specs.Prelude.{◌≡◌, ◌≤◌, ◌⊎◌, ℕ, ◌+◌, Bool, true, List, [], ◌∷◌, Option, None, Some, IsFalse}
use Rattle.nss_tree.specs.Statements.{block, empty, expression, if_only, if_else, while_loop, do_loop, for_loop, switch, break_off, continue_on, return_from, declaration, case_label, default_label, no_stmt, more_stmts}
use Rattle.nwq_value.specs.declared.value.Ty.{Ty}
use Rattle.nwq_value.specs.declared.value.Ty.TheVariants.{Void, Int}
use Rattle.nwq_value.specs.Engine.{EngineTable, const_type}
use Rattle.typing_rules.specs.Typed.{TypedExpr, TypedName, TypedStmt, TypedStmts, type_of}
use Rattle.std.specs.List.{AllByRecursion}
use Rattle.typing_rules.specs.Cells.{cell_types, cells}
use Rattle.emission_rules.specs.Bounds.{IsCell}
use Rattle.emission_rules.specs.Layout.{position, declared_cells}
use Rattle.emission_rules.specs.Statements.{is_label}
use Rattle.source_meaning.specs.Statements.{after_stmt}
use Rattle.source_meaning.specs.Scripts.{Function}
use Rattle.source_laws.specs.Kept.{Site}
use Rattle.source_laws.specs.Fine.{IsFine}

-- the names in sight behind statements
abbrev pub after_stmts : TypedStmts → List ℕ → List ℕ
after_stmts no_stmt scope = scope
after_stmts (more_stmts s ss) scope = after_stmts ss (after_stmt s scope)

-- a statement that declares nothing
abbrev pub DeclaresNothing : TypedStmt → Type 0
DeclaresNothing (declaration m t ds) = ⊥
DeclaresNothing _ = Unit {0}

abbrev pub HasNoLabels : TypedStmts → Type 0
HasNoLabels no_stmt = Unit {0}
HasNoLabels (more_stmts s ss) = IsFalse (is_label s) × HasNoLabels ss

-- No label of a switch stands behind a declaration, so all of them stand at one depth, with the
-- same variables in sight.
abbrev pub LabelsStandFirst : TypedStmts → Type 0
LabelsStandFirst no_stmt = Unit {0}
LabelsStandFirst (more_stmts s ss) = (DeclaresNothing s ⊎ HasNoLabels ss) × LabelsStandFirst ss

-- In a function with a result of this type, at a depth of the frame, with these variables in sight.
module _ (table : EngineTable) (functions : List Function) (x : Site) (result : Ty) where
  abbrev pub IsFineValue : List ℕ → Ty → Option TypedExpr → Type 0
  IsFineValue scope t None = AllByRecursion IsCell (cell_types x.layout.structs t)
  IsFineValue scope t (Some e) = IsFine table functions x scope e × (type_of e ≡ t)

  abbrev pub IsFineMaybe : List ℕ → Option TypedExpr → Type 0
  IsFineMaybe scope None = Unit {0}
  IsFineMaybe scope (Some e) = IsFine table functions x scope e

  -- a test that is left out is true
  abbrev pub IsFineTest : List ℕ → Option TypedExpr → Type 0
  IsFineTest scope None = Unit {0}
  IsFineTest scope (Some e) = IsFine table functions x scope e × (type_of e ≡ Int)

  -- each name stands where the frame ends
  abbrev pub AreFineNames : ℕ → List ℕ → List TypedName → Type 0
  AreFineNames depth scope [] = Unit {0}
  AreFineNames depth scope (d ∷ ds) =
      (position x.layout d.name.number ≡ depth) × (x.types d.name.number ≡ d.name.ty)
      × IsFineValue scope d.name.ty d.value
      × AreFineNames (depth + cells x.layout.structs d.name.ty) (d.name.number ∷ scope) ds

  abbrev pub IsFineReturn : List ℕ → Option TypedExpr → Type 0
  IsFineReturn scope None = result ≡ Void
  IsFineReturn scope (Some e) = IsFine table functions x scope e × (type_of e ≡ result)
      × (1 ≤ cells x.layout.structs result)

  -- and where `break` may stand, and `continue`
  abbrev mutual
    pub IsFineStmt : Bool → Bool → ℕ → List ℕ → TypedStmt → Type 0
    IsFineStmt breaks continues depth scope
        (block m xs) = AreFineStmts breaks continues depth scope xs
    IsFineStmt breaks continues depth scope (empty m) = Unit {0}
    IsFineStmt breaks continues depth scope (expression m e) = IsFine table functions x scope e
    IsFineStmt breaks continues depth scope (if_only m e a) = IsFineTest scope (Some e)
        × IsFineStmt breaks continues depth scope a × DeclaresNothing a
    IsFineStmt breaks continues depth scope (if_else m e a b) =
        IsFineTest scope (Some e) × IsFineStmt breaks continues depth scope a
        × IsFineStmt breaks continues depth scope b × DeclaresNothing a × DeclaresNothing b
    IsFineStmt breaks continues depth scope (while_loop m e a) = IsFineTest scope (Some e)
        × IsFineStmt true true depth scope a × DeclaresNothing a
    IsFineStmt breaks continues depth scope (do_loop m a e) = IsFineStmt true true depth scope a
        × IsFineTest scope (Some e) × DeclaresNothing a
    IsFineStmt breaks continues depth scope (for_loop m e y z a) =
        IsFineMaybe scope e × IsFineTest scope y × IsFineMaybe scope z
        × IsFineStmt true true depth scope a × DeclaresNothing a
    IsFineStmt breaks continues depth scope (switch m e xs) = IsFineTest scope (Some e)
        × AreFineStmts true continues (depth + 1) scope xs × LabelsStandFirst xs
    IsFineStmt breaks continues depth scope (break_off m) = breaks ≡ true
    IsFineStmt breaks continues depth scope (continue_on m) = continues ≡ true
    IsFineStmt breaks continues depth scope (return_from m e) = IsFineReturn scope e
    IsFineStmt breaks continues depth scope (declaration m t ds) = AreFineNames depth scope ds
    IsFineStmt breaks continues depth scope (case_label m k) = const_type k ≡ Int
    IsFineStmt breaks continues depth scope (default_label m) = Unit {0}

    pub AreFineStmts : Bool → Bool → ℕ → List ℕ → TypedStmts → Type 0
    AreFineStmts breaks continues depth scope no_stmt = Unit {0}
    AreFineStmts breaks continues depth scope (more_stmts s ss) =
        IsFineStmt breaks continues depth scope s
        × AreFineStmts breaks continues (depth + declared_cells x.layout.structs s)
        (after_stmt s scope) ss
