-- What a clear line declares, a table may take.
use Rattle.std.proofs.Common.{◌≤◌, Bool, false, List, [], ◌∷◌, ◌++◌, length, Option, refl, arith, length-append}
use Rattle.nwq_value.specs.declared.value.Ty.{Ty}
use Rattle.nwq_value.specs.declared.engine.Const.{Const}
use Rattle.nwq_value.specs.declared.engine.Param.{Param}
use Rattle.nwq_value.specs.Limits.{parameter_limit}
use Rattle.nwq_value.specs.Engine.{AreConstants, IsNoStruct, FitsType, AreParams}
use Rattle.engine_table.specs.Known.{Known}
use Rattle.engine_table.specs.declared.declaration.Declared.{Declared}
use Rattle.engine_table.specs.declared.declaration.Declaration.{Declaration}
use Rattle.engine_table.specs.declared.declaration.Declaration.TheVariants as declaration
use Rattle.engine_table.specs.declared.symbol.Sign.TheVariants as sign
use Rattle.engine_table.specs.Symbols.{Placed, AreSymbols}
use Rattle.engine_table.specs.Grammar.{sign_at, structure_of, Value, Heading, ParameterType, Parameter, Parameters, ParameterList, Line}
use Rattle.engine_table.specs.Grammar as grammar
use Rattle.engine_table.specs.Headers.{IsClear}
use Rattle.engine_table.specs.Turns.{KeepsDeclaration}
use Rattle.engine_table.specs.Laws.{IsAdmissible, ClearLinesAreAdmissible}
use Rattle.engine_table.proofs.KeepLemmas.{free_function, free_constant, no_struct, made_keeps, params_more, bounds_of, constant_type, constant_bounds, negative_bounds}

-- what is kept of a declaration is what a table asks
keeps_admissible : (k : Known) (d : Declaration) → KeepsDeclaration k d → IsAdmissible k.table d
keeps_admissible k declaration.Passed h = tt
keeps_admissible k (declaration.TypeWord n) h = tt
keeps_admissible k (declaration.Constant d c) h = (free_constant k d h.0, h.2)
keeps_admissible k (declaration.Function f) h =
    let free = free_function k f.head h.0.free in
    record { routine = free.routine; constant = free.constant; room = free.room; result = h.0.result; params = h.0.params; few = h.1 }

front : (xs ys : List Placed) → AreSymbols (xs ++ ys) → AreSymbols xs
front [] ys h = tt
front (x ∷ xs) ys h = (h.0, front xs ys h.1)

back : (xs ys : List Placed) → AreSymbols (xs ++ ys) → AreSymbols ys
back [] ys h = h
back (x ∷ xs) ys h = back xs ys h.1

heading_plain : (k : Known) (b : Bool) (d : Declared) (hs : List Placed) → Heading k b d hs → IsNoStruct d.ty
heading_plain k b d hs (grammar.plain t p q s n is) = no_struct k.words s t is
heading_plain k b d hs (grammar.fixed t o p q s n is) = no_struct k.words s t is

module _ (k : Known) (all : AreConstants k.table.constants) where
  value_fits : (t : Ty) (c : Option Const) (xs : List Placed) → AreSymbols xs → Value k.table.constants t c xs → FitsType c t
  value_fits t o xs h (grammar.constant _ c p s has is) = (constant_type k.table.constants t s c is, constant_bounds k.table.constants t s c all h.0 is)
  value_fits t o xs h (grammar.minus p q n) = (refl, negative_bounds n h.1.0)
  value_fits t o xs h (grammar.other _ _ forgotten loose) = tt

  type_plain : (t : Ty) (xs : List Placed) → ParameterType k t xs → IsNoStruct t
  type_plain t xs (grammar.bare _ p s is) = no_struct k.words s t is
  type_plain t xs (grammar.named _ p q s n is) = no_struct k.words s t is

  parameter_fits : (p : Param) (xs : List Placed) → AreSymbols xs → Parameter k p xs → IsNoStruct p.ty × FitsType p.default p.ty
  parameter_fits p xs h (grammar.required t _ of) = (type_plain t xs of, tt)
  parameter_fits p xs h (grammar.optional t c ts vs e of value) =
      (type_plain t ts of, value_fits t c vs (back ts (sign_at e sign.Equals ∷ vs) h).1 value)

  record FewParams (ps : List Param) : Type 0 where
    fit : AreParams ps
    few : length ps ≤ parameter_limit

  params_fit : (ps : List Param) (xs : List Placed) → AreSymbols xs → Parameters k ps xs → FewParams ps
  params_fit ps xs h (grammar.one p _ is) = let here = parameter_fits p xs h is in record { fit = (here.0, here.1, tt); few = omega arith }
  params_fit ps xs h (grammar.more before p ys zs c is few last) =
      let here = parameter_fits p zs (back ys (sign_at c sign.Comma ∷ zs) h).1 last in
      record {
        fit = params_more before p.ty p.default (params_fit before ys (front ys (sign_at c sign.Comma ∷ zs) h) is).fit here.0 here.1;
        few = let n = length-append before (p ∷ []) in omega (arith, n, few);
      }

  list_fits : (ps : List Param) (xs : List Placed) → AreSymbols xs → ParameterList k ps xs → FewParams ps
  list_fits ps xs h grammar.absent = record { fit = tt; few = omega arith }
  list_fits ps xs h (grammar.present _ _ is) = params_fit ps xs h is

  line_keeps : (d : Declaration) (xs : List Placed) → AreSymbols xs → Line k d xs → IsClear k d → KeepsDeclaration k d
  line_keeps d xs h (grammar.define o p q r n s _ is) clear = made_keeps k (structure_of n) s d is
  line_keeps d xs h (grammar.constant b e c hs vs o s heading value) clear =
      let vs_bounds = front vs (sign_at s sign.Semicolon ∷ []) (back hs (sign_at o sign.Equals ∷ (vs ++ sign_at s sign.Semicolon ∷ [])) h).1 in
      (clear.0, clear.1, bounds_of c e.ty (value_fits e.ty c vs vs_bounds value))
  line_keeps d xs h (grammar.function e ps hs ys o c s heading params) clear =
      let ending : List Placed = sign_at c sign.Close ∷ sign_at s sign.Semicolon ∷ [] in
      let fit = list_fits ps ys (front ys ending (back hs (sign_at o sign.Open ∷ (ys ++ ending)) h).1) params in
      (record { free = clear; result = heading_plain k false e hs heading; params = fit.fit }, fit.few)

pub clear_lines_are_admissible : ClearLinesAreAdmissible
clear_lines_are_admissible k d xs all h line clear = keeps_admissible k d (line_keeps k all d xs h line clear)
