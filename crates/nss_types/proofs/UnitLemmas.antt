-- What the walk over a unit's items says of the unit.
use Rattle.std.proofs.Common.{◌≡◌, ℕ, Bool, true, false, if◌then◌else◌, List, Option, None, Some, IsSome, Result, Ok, Err, refl, sym, ap, ◌∙◌}
use Rattle.std.specs.Option.{option_map}
use Rattle.std.specs.Result.{IfErr, IfOk}
use Rattle.nwq_value.specs.Engine.{EngineTable}
use Rattle.nss_tree.specs.Source.{SourceItem, SourceTree}
use Rattle.typing_rules.specs.declared.fault.Fault.{Fault}
use Rattle.typing_rules.specs.declared.places.EntryPoint.{EntryPoint}
use Rattle.typing_rules.specs.declared.places.EntryPoint.TheVariants.{Main, Conditional}
use Rattle.typing_rules.specs.declared.units.Typed.{Typed}
use Rattle.typing_rules.specs.Laws.{LeastIsKept, NoneKeptIsTyped, VerdictsAreRight}
use Rattle.typing_rules.specs.Meaning.{TypesUnit}
use Rattle.typing_rules.specs.Nodes.{at, fine, kept, two}
use Rattle.typing_rules.specs.Rules.{when}
use Rattle.typing_rules.specs.Sight.{Head, start}
use Rattle.typing_rules.specs.Typed.{TypedItem}
use Rattle.typing_rules.specs.UnitReading.{typed_unit}
use Rattle.typing_rules.specs.Verdicts.{entry_verdict, heads, items_faults, items_fine, unit_faults, unit_of, unit_typed}
use Rattle.nss_types.specs.Answers.{IsKeptFault}
use Rattle.nss_expressions.specs.Kept.{kept_append}

-- ---- the function that a script begins with

picked : Option ℕ → Option ℕ → Option EntryPoint
picked (Some n) p = Some (Main n)
picked None (Some m) = Some (Conditional m)
picked None None = None

module _ (a b : Bool) (n m : ℕ) where
  by_both : picked (when a n) (when b m) ≡ (if a then Some (Main n) else when b (Conditional m))
  unfolding picked
  by_both = by a b
    where
      by : (a b : Bool) → picked (when a n) (when b m) ≡ (if a then Some (Main n) else when b (Conditional m))
      by true b = refl
      by false true = refl
      by false false = refl

  pub none_begins : None ≡ when a n → None ≡ when b m → None ≡ (if a then Some (Main n) else when b (Conditional m))
  unfolding picked
  none_begins e f = ap (λ o. picked o None) e ∙ (ap (picked (when a n)) f ∙ by_both)

  pub second_begins : (k : ℕ) → None ≡ when a n → Some k ≡ when b m → Some (Conditional k) ≡ (if a then Some (Main n) else when b (Conditional m))
  unfolding picked
  second_begins k e f = ap (λ o. picked o (Some k)) e ∙ (ap (picked (when a n)) f ∙ by_both)

-- ---- the unit

some_of_map : {A B : Type 0} (f : A → B) (o : Option A) (b : B) → option_map f o ≡ Some b → IsSome o
some_of_map f None b is = absurd cc
some_of_map f (Some a) b is = refl

module _ (typed : VerdictsAreRight) (least : LeastIsKept) (settled : NoneKeptIsTyped) (table : EngineTable) (u : SourceTree) (hs : List Head) (xs : List SourceItem)
    (items : Option (List TypedItem)) (entry : Option EntryPoint) (mid last : Option Fault) (xs_are : xs ≡ u.items) (hs_are : hs ≡ heads table xs)
    (walked : items ≡ items_fine hs (start table) xs) (kept_so_far : mid ≡ kept None (items_faults hs (start table) xs)) (entered : entry ≡ fine (entry_verdict hs))
    (kept_last : last ≡ kept mid (at u.count (entry_verdict hs))) where
  declared : hs ≡ heads table u.items
  declared = hs_are ∙ ap (heads table) xs_are

  unit_is : option_map unit_of (two items entry) ≡ unit_typed table u
  unit_is =
      ap (λ i. option_map unit_of (two i entry)) (walked ∙ (ap (λ h. items_fine h (start table) xs) declared ∙ ap (items_fine (heads table u.items) (start table)) xs_are))
      ∙ ap (λ e. option_map unit_of (two (items_fine (heads table u.items) (start table) u.items) e)) (entered ∙ ap (λ h. fine (entry_verdict h)) declared)

  least_is : last ≡ kept None (unit_faults table u)
  least_is =
      kept_last ∙ (ap (λ h. kept mid (at u.count (entry_verdict h))) declared
      ∙ (ap (λ m. kept m (at u.count (entry_verdict (heads table u.items))))
      (kept_so_far ∙ (ap (λ h. kept None (items_faults h (start table) xs)) declared ∙ ap (λ ys. kept None (items_faults (heads table u.items) (start table) ys)) xs_are))
      ∙ sym (kept_append None (items_faults (heads table u.items) (start table) u.items) (at u.count (entry_verdict (heads table u.items))))))

  pub is_there : last ≡ None → IsSome (two items entry)
  is_there none = let t = settled table u (sym least_is ∙ none) in some_of_map unit_of (two items entry) t.0 (unit_is ∙ t.1)

  pub types : (r : Result Typed Fault) → IfOk r (λ t. option_map unit_of (two items entry) ≡ Some (typed_unit t)) → IfOk r (λ t. TypesUnit table u (typed_unit t))
  types (Ok t) is = (typed table u (typed_unit t)).0 (sym unit_is ∙ is)
  types (Err f) is = tt

  pub refuses : (r : Result Typed Fault) → IfErr r (λ f. last ≡ Some f) → IfErr r (IsKeptFault table u)
  refuses (Ok t) is = tt
  refuses (Err f) is = record { least = least table u f (sym least_is ∙ is); first = sym least_is ∙ is }
