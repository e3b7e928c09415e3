-- How parts are made of the values that they tell.
use Rattle.std.specs.Prelude.{◌≡◌, Bool, true, List, map, IsTrue}
use Rattle.std.specs.List.{AllByRecursion, list_all}
use Rattle.nwq_value.specs.declared.value.Value.{Value}
use Rattle.saved_state.specs.declared.cell.Cell.{Cell}
use Rattle.saved_state.specs.declared.cell.Cell.TheVariants.{Value as Holds}
use Rattle.saved_state.specs.declared.saved.Saved.{Saved}
use Rattle.action_queue.specs.declared.queue.Item.{Item}
use Rattle.action_queue.specs.declared.queue.Item.TheVariants.{Do, Wait, Speak}
use Rattle.delay_agenda.specs.declared.entry.Kind.{Kind}
use Rattle.delay_agenda.specs.declared.entry.Kind.TheVariants.{Event, Stored, Turn, Unapply}

-- a part tells a value, can be written, and has short texts
pub record IsPartOf {A B : Type 0} (tells : B → A) (Is : B → Type 0) (is_short : B → Bool) (x : A)
    (p : B) : Type 0 where
  pub same : tells p ≡ x
  pub form : Is p
  pub short : IsTrue (is_short p)

-- so do parts of so many values, one by one
pub record ArePartsOf {A B : Type 0} (tells : B → A) (Is : B → Type 0) (is_short : B → Bool)
    (xs : List A) (ps : List B) : Type 0 where
  pub same : map tells ps ≡ xs
  pub form : AllByRecursion Is ps
  pub short : IsTrue (list_all is_short ps)

-- whatever the texts are
abbrev pub any_text : {B : Type 0} → B → Bool
any_text p = true

-- the cell holds a value
pub record HoldsValue (c : Cell) : Type 0 where
  pub value : Value
  pub is : c ≡ Holds value

-- a captured state has no base cells
pub record HasCells (s : Saved) : Type 0 where
  pub globals : AllByRecursion HoldsValue s.globals
  pub locals : AllByRecursion HoldsValue s.locals

-- nor has that of an action, and of an entry
abbrev pub HasValues : Item Saved → Type 0
HasValues (Do s) = HasCells s
HasValues (Wait ms) = Unit {0}
HasValues (Speak text) = Unit {0}

abbrev pub KindHasValues : Kind Saved → Type 0
KindHasValues (Event o script user) = Unit {0}
KindHasValues (Stored o s) = HasCells s
KindHasValues (Turn o) = Unit {0}
KindHasValues (Unapply o) = Unit {0}
