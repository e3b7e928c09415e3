-- A typed unit is as the shapes of its code need it.
use Rattle.std.proofs.Common.{◌≡◌, ◌+◌, ℕ, List, [], ◌∷◌, Option, Some, None, slice_get, refl}
use Rattle.nwq_value.specs.declared.value.Ty.{Ty}
use Rattle.nwq_value.specs.declared.value.Ty.TheVariants.{Void, Int}
use Rattle.nwq_value.specs.Engine.{EngineTable}
use Rattle.typing_rules.specs.declared.places.Callee.TheVariants.{Unit as InUnit, Engine}
use Rattle.typing_rules.specs.declared.places.EntryPoint.{EntryPoint}
use Rattle.typing_rules.specs.declared.places.EntryPoint.TheVariants.{Main, Conditional}
use Rattle.typing_rules.specs.declared.places.Place.TheVariants.{Local, Global, Const as IsConst}
use Rattle.typing_rules.specs.Typed.{TypedExpr, TypedExprs, TypedName, literal, name, call, member, prefix, postfix, binary, assign, no_typed, more_typed}
use Rattle.typing_rules.specs.Cells.{cells}
use Rattle.source_meaning.specs.Scripts.{Function, functions, global_names}
use Rattle.source_laws.specs.Kept.{Site}
use Rattle.source_laws.specs.Fine.{IsFine, AreFine}
use Rattle.source_laws.specs.FineStatements.{IsFineValue, AreFineNames}
use Rattle.emission_laws.specs.WellTyped.{start_site, IsBegin, IsFineEntry}
use Rattle.emission_laws.specs.Laws.{SwitchesFit, FirstValuesCallEngine}
use Rattle.typed_laws.specs.Laws.{FunctionsArePlaced, GlobalsAreFine, HasEntry, EntriesArePlain}
use Rattle.unit_laws.specs.Laws.{TypedUnitsAreWellTyped}

-- ---- what is fine where no function can be called is so where some can

not_there : (f : ℕ) (fn : Function) → slice_get [] f ≡ Some fn → ⊥
not_there f fn is = absurd cc

module _ (table : EngineTable) (fs : List Function) (x : Site) where
  mutual
    fine_with : (scope : List ℕ) (e : TypedExpr) → IsFine table [] x scope e → IsFine table fs x scope e
    fine_with scope (literal k) h = h
    fine_with scope (name t (Local n)) h = h
    fine_with scope (name t (Global n)) h = h
    fine_with scope (name t (IsConst k)) h = h
    fine_with scope (call t (InUnit f) es ks) h = absurd (not_there f h.0.function h.0.is)
    fine_with scope (call t (Engine n) es ks) h = (h.0, all_with scope es h.1)
    fine_with scope (member t e before) h = (fine_with scope e h.0, h.1, h.2)
    fine_with scope (prefix t o e) h = (fine_with scope e h.0, h.1, h.2, h.3)
    fine_with scope (postfix t o e) h = (fine_with scope e h.0, h.1, h.2, h.3)
    fine_with scope (binary t o d e) h = (fine_with scope d h.0, fine_with scope e h.1, h.2)
    fine_with scope (assign t o d e) h = (fine_with scope d h.0, fine_with scope e h.1, h.2, h.3)

    all_with : (scope : List ℕ) (es : TypedExprs) → AreFine table [] x scope es → AreFine table fs x scope es
    all_with scope no_typed h = tt
    all_with scope (more_typed e es) h = (fine_with scope e h.0, h.1, all_with scope es h.2)

  value_with : (scope : List ℕ) (t : Ty) (o : Option TypedExpr) → IsFineValue table [] x Void scope t o → IsFineValue table fs x Void scope t o
  value_with scope t None h = h
  value_with scope t (Some e) h = (fine_with scope e h.0, h.1)

  names_with : (ds : List TypedName) (depth : ℕ) (scope : List ℕ) → AreFineNames table [] x Void depth scope ds → AreFineNames table fs x Void depth scope ds
  names_with [] depth scope h = h
  names_with (d ∷ ds) depth scope h =
      (h.0, h.1, value_with scope d.name.ty d.value h.2, names_with ds (depth + cells x.layout.structs d.name.ty) (d.name.number ∷ scope) h.3)

-- ---- the entry function

begins : (fs : List Function) (f : ℕ) (t : Ty) → HasEntry fs f t → IsBegin fs f t
begins fs f t h = record { function = h.main; is = h.is; parameters = h.parameters; result = h.result }

fine_entry : (fs : List Function) (e : EntryPoint) → ((f : ℕ) → (e ≡ Main f → HasEntry fs f Void) × (e ≡ Conditional f → HasEntry fs f Int)) → IsFineEntry fs e
fine_entry fs (Main f) h = begins fs f Void ((h f).0 refl)
fine_entry fs (Conditional f) h = begins fs f Int ((h f).1 refl)

-- ---- the unit

pub typed_units_are_well_typed : FunctionsArePlaced → GlobalsAreFine → EntriesArePlain → SwitchesFit → FirstValuesCallEngine → TypedUnitsAreWellTyped
typed_units_are_well_typed placed fine plain switches values header tokens tree u table parses types = record {
  bodies = λ f fn is.
      let h = placed header tokens tree u table parses types 0 0 [] f fn is in
      record { parameters = h.parameters; body = h.fine; switches = switches header tree u types f fn is };
  names = names_with header (functions u.items) (start_site u) (global_names u.items) 0 [] (fine header tokens tree u table parses types 0 0 []);
  calls = values header tree u types;
  entry = fine_entry (functions u.items) u.entry (plain header tree u types);
}
