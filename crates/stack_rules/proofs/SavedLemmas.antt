-- What captured states hold that fit a table.
use Rattle.std.proofs.Common.{◌≡◌, List, [], ◌∷◌, ◌++◌, map, reverse, Option, None, Some, inl, inr, sym, subst}
use Rattle.std.proofs.lemmas.List.{reverse-append, reverse-reverse}
use Rattle.nwq_value.specs.declared.value.Ty.{Ty}
use Rattle.saved_state.specs.declared.cell.Cell.{Cell}
use Rattle.saved_state.specs.declared.cell.Cell.TheVariants.{Value as Holds, Base}
use Rattle.saved_state.specs.declared.saved.Saved.{Saved}
use Rattle.stack_shape.specs.declared.shape.Slot.TheVariants.{Of}
use Rattle.machine_rules.specs.Machine.{Host}
use Rattle.machine_rules.specs.Outlines.{slots}
use Rattle.stack_rules.specs.Fits.{AllValues, FitsAction, HoldsValues, Tables}
use Rattle.stack_rules.specs.Laws.{FittingHoldsValues, Unchanged, ByCall, ByMissing, ByDepth, KeptHoldsValues}

some_is : {A : Type 0} (a b : A) → Some a ≡ Some b → a ≡ b
some_is a b h = cc

typed_values : (cells : List Cell) (types : List Ty) → slots cells ≡ map Of types → AllValues cells
typed_values [] types h = tt
typed_values (Holds v ∷ cells) [] h = absurd cc
typed_values (Holds v ∷ cells) (t ∷ types) h = typed_values cells types cc
typed_values (Base bp ∷ cells) [] h = absurd cc
typed_values (Base bp ∷ cells) (t ∷ types) h = absurd cc

all_append : (a b : List Cell) → AllValues a → AllValues b → AllValues (a ++ b)
all_append [] b h k = k
all_append (Holds v ∷ a) b h k = all_append a b h k
all_append (Base bp ∷ a) b h k = absurd h

all_reverse : (cells : List Cell) → AllValues cells → AllValues (reverse cells)
all_reverse [] h = tt
all_reverse (Holds v ∷ cells) h =
    subst AllValues (sym (reverse-append (Holds v ∷ []) cells)) (all_append (reverse cells) (Holds v ∷ []) (all_reverse cells h) tt)
all_reverse (Base bp ∷ cells) h = absurd h

reversed_values : (cells : List Cell) (types : List Ty) → slots (reverse cells) ≡ map Of types → AllValues cells
reversed_values cells types h = subst AllValues (reverse-reverse cells) (all_reverse (reverse cells) (typed_values (reverse cells) types h))

pub fitting_holds : FittingHoldsValues
fitting_holds table saved f = record {
  globals = reversed_values saved.globals f.types.globals f.globals;
  locals = reversed_values saved.locals f.types.locals f.locals;
}

handed_holds : {W : Type 0} (host : Host W) (tables : Tables) (action : Option Saved) (saved : Saved) → FitsAction host.scripts tables action
    → action ≡ Some saved → HoldsValues saved
handed_holds host tables None saved f e = absurd cc
handed_holds host tables (Some handed) saved f e =
    subst (λ s. HoldsValues s) (some_is handed saved e) (fitting_holds (tables handed.script) handed f.fits)

pub kept_holds : {W : Type 0} → KeptHoldsValues W
kept_holds host tables first kept keeps begins world Unchanged saved has = begins saved has
kept_holds host tables first kept keeps begins world (ByCall number caller r values action before known callable types fits reached) saved has =
    elim (keeps.call number caller values action before saved has) [
      | inl old ↦ kept_holds host tables first kept keeps begins before reached saved old
      | inr is ↦ handed_holds host tables action saved fits is
    ]
kept_holds host tables first kept keeps begins world (ByMissing target name before reached) saved has =
    kept_holds host tables first kept keeps begins before reached saved (keeps.missing target name before saved has)
kept_holds host tables first kept keeps begins world (ByDepth target name before reached) saved has =
    kept_holds host tables first kept keeps begins before reached saved (keeps.depth target name before saved has)
