-- The laws of whole units.
use Rattle.std.proofs.Common.{◌≡◌, ◌∙◌, refl, sym, ◌⊎◌, inl, inr, Option, None, Some, List, [], ◌∷◌, le_antisymm}
use Rattle.std.proofs.lemmas.Option.{none-some, same_Some}
use Rattle.typing_rules.specs.declared.fault.Fault.{Fault}
use Rattle.typing_rules.specs.Typed.{TypedUnit}
use Rattle.typing_rules.specs.Nodes.{Among, kept, IsLeast}
use Rattle.typing_rules.specs.Verdicts.{unit_faults}
use Rattle.typing_rules.specs.Meaning.{TypesUnit, FaultInUnit}
use Rattle.typing_rules.specs.Laws.{OneTyped, TypedIsFaultless, FaultlessIsTyped, OneToken, SomeAnswer, VerdictsAreRight, ItemsAreRight, FaultsAreListed, LeastIsKept, NoneKeptIsTyped}
use Rattle.typing_rules.proofs.RightItems.{right_item, right_unit}
use Rattle.typing_rules.proofs.Least.{kept_is, kept_below, kept_none}

pub one_typed : OneTyped
one_typed table u s t h k = same_Some _ _ (sym ((right_unit table u).complete s h) ∙ (right_unit table u).complete t k)

no_fault : (fs : List Fault) (f : Fault) → fs ≡ [] → Among f fs → ⊥
no_fault [] f e h = h
no_fault (g ∷ gs) f e h = absurd cc

pub typed_is_faultless : TypedIsFaultless
typed_is_faultless table u t f h k =
    let r = right_unit table u in no_fault (unit_faults table u) f (r.quiet t (r.complete t h)) (r.up f k)

pub least_is_kept : LeastIsKept
least_is_kept table u f e = record {
  is = from (kept_is None (unit_faults table u) f e);
  least = λ g h. (kept_below None (unit_faults table u) f e).1 g ((right_unit table u).up g h);
}
  where
    from : (None ≡ Some f) ⊎ Among f (unit_faults table u) → FaultInUnit table u f
    from (inl h) = absurd (none-some f h)
    from (inr h) = (right_unit table u).out f h

pub none_kept_is_typed : NoneKeptIsTyped
none_kept_is_typed table u e = (right_unit table u).settled tt (kept_none (unit_faults table u) e)

pub some_answer : SomeAnswer
some_answer table u = by (kept None (unit_faults table u)) refl
  where
    by : (o : Option Fault) → kept None (unit_faults table u) ≡ o → ((t : TypedUnit) × TypesUnit table u t) ⊎ ((f : Fault) × IsLeast (FaultInUnit table u) f)
    by None e = let t = none_kept_is_typed table u e in inl (t.0, (right_unit table u).sound t.0 t.1)
    by (Some f) e = inr (f, least_is_kept table u f e)

pub faultless_is_typed : FaultlessIsTyped
faultless_is_typed table u none = by (some_answer table u)
  where
    by : ((t : TypedUnit) × TypesUnit table u t) ⊎ ((f : Fault) × IsLeast (FaultInUnit table u) f) → (t : TypedUnit) × TypesUnit table u t
    by (inl h) = h
    by (inr h) = absurd (none h.0 h.1.is)

pub one_token : OneToken
one_token table u f g h k = le_antisymm (h.least g k.is) (k.least f h.is)

pub verdicts_are_right : VerdictsAreRight
verdicts_are_right table u t = ((right_unit table u).sound t, (right_unit table u).complete t)

pub items_are_right : ItemsAreRight
items_are_right hs c i t = ((right_item hs c i).sound t, (right_item hs c i).complete t)

pub faults_are_listed : FaultsAreListed
faults_are_listed table u f = ((right_unit table u).out f, (right_unit table u).up f)
