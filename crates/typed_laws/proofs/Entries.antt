-- The function that a typed unit begins with.
use Rattle.std.proofs.Common.{◌≡◌, ℕ, List, [], ◌∷◌, map, codes, Option, Some, None, Bool, true, false, sym, subst, ◌∙◌, refl}
use Rattle.std.specs.Prelude.{if◌then◌else◌}
use Rattle.std.proofs.lemmas.Option.{same_Some}
use Rattle.nwq_value.specs.declared.value.Ty.{Ty}
use Rattle.nwq_value.specs.declared.value.Ty.TheVariants.{Void, Int}
use Rattle.nwq_value.specs.declared.engine.Param.{Param}
use Rattle.typing_rules.specs.declared.places.EntryPoint.{EntryPoint}
use Rattle.typing_rules.specs.declared.places.EntryPoint.TheVariants.{Main, Conditional}
use Rattle.typing_rules.specs.Types.{same_type}
use Rattle.typing_rules.specs.Typed.{TypedParameter}
use Rattle.typing_rules.specs.Sight.{Head, Signature, has_body, first_types, body_number, start}
use Rattle.typing_rules.specs.Rules.{when, is_empty, is_plain, begins}
use Rattle.typing_rules.specs.Verdicts.{heads}
use Rattle.typing_rules.specs.Laws.{ItemsAreRight}
use Rattle.source_laws.specs.Fine.{parameter_type}
use Rattle.source_meaning.specs.Scripts.{Function, functions}
use Rattle.typed_laws.specs.Laws.{HasEntry, EntriesArePlain}
use Rattle.typed_laws.proofs.Types.{same_type_is}
use Rattle.typed_laws.proofs.Bodies.{when_is, both_are, AreBodies, after_all}

none_there : (ps : List TypedParameter) (qs : List Param) → map parameter_type ps ≡ map (λ (q : Param). q.ty) qs → is_empty qs ≡ true → ps ≡ []
none_there [] qs h e = refl
none_there (p ∷ ps) [] h e = absurd cc
none_there (p ∷ ps) (q ∷ qs) h e = absurd cc

module _ (fs : List Function) (hs : List Head) (all : AreBodies fs hs) where
  entry_of : (x : List ℕ) (t : Ty) → begins x t hs ≡ true → HasEntry fs (body_number x hs) t
  entry_of x t h =
      let b = both_are (has_body x hs) (is_plain t (first_types x hs)) h in
      by b.0 (first_types x hs) refl b.1
    where
      by : has_body x hs ≡ true → (o : Option (Option Signature)) → first_types x hs ≡ o → is_plain t o ≡ true → HasEntry fs (body_number x hs) t
      by has None same plain = absurd cc
      by has (Some None) same plain = absurd cc
      by has (Some (Some s)) same plain =
          let k = all x s has same in
          let b = both_are (is_empty s.params) (same_type t s.result) plain in
          record { main = k.function; is = k.is; parameters = none_there k.function.parameters s.params k.params b.0; result = k.result ∙ sym (same_type_is t s.result b.1) }

  main_is : (n m : ℕ) (t : Ty) → HasEntry fs n t → Main n ≡ Main m → HasEntry fs m t
  main_is n m t h e = let same : n ≡ m = cc in subst (λ k. HasEntry fs k t) same h

  conditional_is : (n m : ℕ) (t : Ty) → HasEntry fs n t → Conditional n ≡ Conditional m → HasEntry fs m t
  conditional_is n m t h e = let same : n ≡ m = cc in subst (λ k. HasEntry fs k t) same h

  not_conditional : (n m : ℕ) → Main n ≡ Conditional m → ⊥
  not_conditional n m e = absurd cc

  entries : (e : EntryPoint) (m : ℕ) → (b : Bool) → begins (codes "main") Void hs ≡ b
      → (if b then Some (Main (body_number (codes "main") hs)) else when (begins (codes "StartingConditional") Int hs) (Conditional (body_number (codes "StartingConditional") hs))) ≡ Some e
      → (e ≡ Main m → HasEntry fs m Void) × (e ≡ Conditional m → HasEntry fs m Int)
  entries e m true same h =
      let is = same_Some _ _ h in (
        λ f. main_is (body_number (codes "main") hs) m Void (entry_of (codes "main") Void same) (is ∙ f),
        λ f. absurd (not_conditional (body_number (codes "main") hs) m (is ∙ f)),
      )
  entries e m false same h =
      let w = when_is (begins (codes "StartingConditional") Int hs) (Conditional (body_number (codes "StartingConditional") hs)) e h in (
        λ f. absurd (not_conditional m (body_number (codes "StartingConditional") hs) (sym (w.1 ∙ f))),
        λ f. conditional_is (body_number (codes "StartingConditional") hs) m Int (entry_of (codes "StartingConditional") Int w.0) (w.1 ∙ f),
      )

pub entries_are_plain : ItemsAreRight → EntriesArePlain
entries_are_plain right table tree u typed m =
    let hs = heads table tree.items in
    let all = after_all right hs [] (start table) tree.items u.items typed.items (record { heads = tt; are = λ y s has e. absurd cc; count = refl }) in
    entries (functions u.items) hs all.are u.entry m (begins (codes "main") Void hs) refl typed.entry.gives
