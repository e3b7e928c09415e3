-- The routine that runs another script, in the table of a header.
use Rattle.std.proofs.Common.{◌≡◌, ℕ, zero, suc, List, [], ◌∷◌, slice_get, Some, true, false, sym, subst, ◌∙◌, ap, refl}
use Rattle.std.specs.Prelude.{codes}
use Rattle.std.proofs.lemmas.Bool.Decides.{Decides-eqb}
use Rattle.nwq_value.specs.declared.value.Ty.{Ty}
use Rattle.nwq_value.specs.declared.value.Ty.TheVariants.{Void, Text, Object}
use Rattle.nwq_value.specs.declared.engine.Param.{Param}
use Rattle.nwq_value.specs.declared.engine.Role.{Role}
use Rattle.nwq_value.specs.declared.engine.Role.TheVariants.{Built, Pure, World, Uncallable}
use Rattle.nwq_value.specs.declared.engine.Routine.{Routine}
use Rattle.nwq_value.specs.Header.{header_routines}
use Rattle.nwq_value.specs.Roles.{Signature, BuiltAsHeader, header_signatures, types_of}
use Rattle.nwq_value.specs.Engine.{IsRoutine, AreRoutines}
use Rattle.stack_shape.specs.Calls.{is_action, argument_types}
use Rattle.machine_rules.specs.Calls.{execute_script, is_execute_script}
use Rattle.stack_rules.specs.Laws.{TablesTypeExecuteScript}
use Rattle.stack_rules.proofs.StackLemmas.{some_is}

abbrev its_row : Signature
its_row = record { name = codes "ExecuteScript"; gives = Void; takes = Text ∷ Object ∷ []; role = Some (Built execute_script) }

row_of_number : slice_get header_signatures execute_script ≡ Some its_row
unfolding header_routines
row_of_number = refl

role_is : (role : Role) → is_execute_script role ≡ true → role ≡ Built execute_script
role_is (Built n) h = ap Built ((Decides-eqb n execute_script).0 h)
role_is (Pure n) h = absurd cc
role_is World h = absurd cc
role_is Uncallable h = absurd cc

routine_kept : (rs : List Routine) (i : ℕ) (r : Routine) → AreRoutines rs → slice_get rs i ≡ Some r → IsRoutine r
routine_kept [] i r all h = absurd cc
routine_kept (x ∷ xs) zero r all h = subst IsRoutine (some_is x r h) all.0
routine_kept (x ∷ xs) (suc i) r all h = routine_kept xs i r all.1 h

head_is : (x y : Ty) (xs ys : List Ty) → x ∷ xs ≡ y ∷ ys → (x ≡ y) × (xs ≡ ys)
head_is x y xs ys h = (cc, cc)

value_first : (p : Param) (ps : List Param) (t : Ty) → p.ty ≡ t → is_action t ≡ false → argument_types (p ∷ ps) ≡ t ∷ argument_types ps
value_first p ps t h plain = passes (ap is_action h ∙ plain)
  where
    passes : is_action p.ty ≡ false → argument_types (p ∷ ps) ≡ t ∷ argument_types ps
    passes e = rw e (ap (λ (u : Ty). u ∷ argument_types ps) h)

two_values : (ps : List Param) → types_of ps ≡ Text ∷ Object ∷ [] → argument_types ps ≡ Text ∷ Object ∷ []
two_values [] h = absurd cc
two_values (p ∷ []) h = absurd cc
two_values (p ∷ q ∷ []) h =
    let a = head_is p.ty Text (q.ty ∷ []) (Object ∷ []) h in
    let b = head_is q.ty Object [] [] a.1 in
    value_first p (q ∷ []) Text a.0 refl ∙ ap (λ (ts : List Ty). Text ∷ ts) (value_first q [] Object b.0 refl)
two_values (p ∷ q ∷ s ∷ ps) h = absurd cc

pub tables_type_execute_script : BuiltAsHeader → TablesTypeExecuteScript
tables_type_execute_script built header table number r listed role =
    let kept = routine_kept header.routines number r table.routines listed in
    let row = built r.name r.result (types_of r.params) execute_script (sym kept.role ∙ role_is r.role role) in
    let same = some_is its_row _ (sym row_of_number ∙ row) in
    record {
      takes = two_values r.params (sym (ap (λ (s : Signature). s.takes) same));
      gives = sym (ap (λ (s : Signature). s.gives) same);
    }
