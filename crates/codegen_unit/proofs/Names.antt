-- Declared names, one after another.
use Rattle.std.proofs.Common.{◌≡◌, ◌<◌, ◌+◌, ℕ, List, ◌∷◌, length, drop, get_or, arith, ap, sym, refl, ◌∙◌, subst}
use Rattle.std.specs.Option.{option_map}
use Rattle.std.proofs.lemmas.List.{at_drop_more}
use Rattle.nss_tree.specs.declared.statements.DeclaredName.{DeclaredName}
use Rattle.ncs_emit.specs.Labelled.{LabelledCode}
use Rattle.typing_rules.specs.declared.expressions.Expression.{Expression}
use Rattle.typing_rules.specs.declared.places.Variable.{Variable}
use Rattle.typing_rules.specs.Reading.{plain}
use Rattle.typing_rules.specs.Typed.{TypedName}
use Rattle.typing_rules.specs.UnitReading.{typed_name, typed_names}
use Rattle.typing_rules.specs.Cells.{cells}
use Rattle.emission_rules.specs.Layout.{Layout}
use Rattle.emission_rules.specs.Statements.{emit_names, initial, names_labels, some_labels}
use Rattle.codegen_expr.specs.Emitted.{extended}
use Rattle.codegen_unit.specs.Ready.{NamesReady}
use Rattle.codegen_unit.proofs.Bounded.{all_names_grow, extended_twice}

next : {A : Type 0} (F : List TypedName → A) (xs : List (DeclaredName Expression Variable)) (i : ℕ) (x : DeclaredName Expression Variable) → x ≡ get_or xs i x → i < length xs
    → F (typed_names (drop i xs)) ≡ F (typed_name x ∷ typed_names (drop (i + 1) xs))
next F xs i x is lt = at_drop_more (λ ys. F (typed_names ys)) xs i x lt ∙ ap (λ y. F (typed_name y ∷ typed_names (drop (i + 1) xs))) (sym is)

pub names_ready : (l : Layout) (xs : List (DeclaredName Expression Variable)) (i : ℕ)
    (x : DeclaredName Expression Variable) (now after : LabelledCode) (depth count : ℕ) → x ≡ get_or xs i x
    → i < length xs
    → after ≡ extended now (initial l now.labels depth x.name.ty (option_map plain x.value)) (some_labels (option_map plain x.value)) → count ≡ cells l.structs x.name.ty
    → NamesReady now.labels l depth (typed_names (drop i xs)) → NamesReady after.labels l (depth + count) (typed_names (drop (i + 1) xs))
names_ready l xs i x now after depth count is lt put few ready =
    let r = subst (λ ys. NamesReady now.labels l depth ys) (next (λ ys. ys) xs i x is lt) ready in
    let made : after.labels ≡ now.labels + some_labels (option_map plain x.value) = ap (λ (d : LabelledCode). d.labels) put in
    record {
      bounded = all_names_grow now.labels after.labels l (typed_names (drop (i + 1) xs)) (omega arith) r.bounded.2;
      deep = omega (arith, r.deep, r.bounded.0.few);
      globals = r.globals;
      labelled = omega (arith, r.labelled);
    }

pub names_step : (l : Layout) (xs : List (DeclaredName Expression Variable)) (i : ℕ)
    (x : DeclaredName Expression Variable) (now after end : LabelledCode) (depth count : ℕ) → x ≡ get_or xs i x
    → i < length xs
    → after ≡ extended now (initial l now.labels depth x.name.ty (option_map plain x.value)) (some_labels (option_map plain x.value)) → count ≡ cells l.structs x.name.ty
    → extended now (emit_names l now.labels depth (typed_names (drop i xs))) (names_labels (typed_names (drop i xs))) ≡ end
    → extended after (emit_names l after.labels (depth + count) (typed_names (drop (i + 1) xs))) (names_labels (typed_names (drop (i + 1) xs))) ≡ end
names_step l xs i x now after end depth count is lt put few before =
    let ys = typed_names (drop (i + 1) xs) in
    let value = option_map plain x.value in
    ap (λ c. extended c (emit_names l c.labels (depth + count) ys) (names_labels ys)) put
    ∙ (ap (λ k. extended (extended now (initial l now.labels depth x.name.ty value) (some_labels value)) (emit_names l (now.labels + some_labels value) (depth + k) ys) (names_labels ys)) few
    ∙ (extended_twice now (initial l now.labels depth x.name.ty value) _ (some_labels value) (names_labels ys) (some_labels value + names_labels ys) refl
    ∙ (sym (next (λ zs. extended now (emit_names l now.labels depth zs) (names_labels zs)) xs i x is lt) ∙ before)))
