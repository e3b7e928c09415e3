-- Worlds that differ in their stored actions alone, where a relation says which actions belong
-- together.
use Rattle.std.specs.Prelude.{◌≡◌, Option, None, Some}
use Rattle.delay_agenda.specs.declared.entry.Entry.{Entry}
use Rattle.delay_agenda.specs.declared.entry.Kind.{Kind}
use Rattle.delay_agenda.specs.declared.entry.Kind.TheVariants.{Event, Stored, Turn, Unapply}
use Rattle.world_rules.specs.World.{World}
use Rattle.world_rules.specs.Rows.{Answered}
use Rattle.world_rules.specs.Turns.{Begun, Turned}
use Rattle.world_rules.specs.Mapped.{map_world}

-- two stored actions that belong together
pub record Related {X Y : Type 0} (R : X → Y → Type 0) : Type 0 where
  pub left : X
  pub right : Y
  pub related : R left right

abbrev pub left_of : {X Y : Type 0} {R : X → Y → Type 0} → Related R → X
left_of p = p.left

abbrev pub right_of : {X Y : Type 0} {R : X → Y → Type 0} → Related R → Y
right_of p = p.right

-- Two worlds are alike where one world has both in it: its stored actions are pairs, whose left
-- sides make the first world, and whose right sides the second.
pub record Alike {X Y : Type 0} (R : X → Y → Type 0) (w : World X) (v : World Y) : Type 0 where
  pub pairs : World (Related R)
  pub left : map_world left_of pairs ≡ w
  pub right : map_world right_of pairs ≡ v

-- the same of an action that may be missing
abbrev pub OptionAlike : {X Y : Type 0} → (X → Y → Type 0) → Option X → Option Y → Type 0
OptionAlike R None None = Unit {0}
OptionAlike R (Some x) (Some y) = R x y
OptionAlike R None (Some y) = ⊥
OptionAlike R (Some x) None = ⊥

abbrev pub KindAlike : {X Y : Type 0} → (X → Y → Type 0) → Kind X → Kind Y → Type 0
KindAlike R (Event o script user) (Event p name number) = (o ≡ p) × (script ≡ name)
    × (user ≡ number)
KindAlike R (Stored o x) (Stored p y) = (o ≡ p) × R x y
KindAlike R (Turn o) (Turn p) = o ≡ p
KindAlike R (Unapply o) (Unapply p) = o ≡ p
KindAlike R _ _ = ⊥

pub record EntryAlike {X Y : Type 0} (R : X → Y → Type 0) (e : Entry X) (f : Entry Y) : Type 0 where
  pub due : e.due ≡ f.due
  pub number : e.number ≡ f.number
  pub kind : KindAlike R e.kind f.kind

-- two calls' answers: one value, and worlds that are alike
pub record AnsweredAlike {X Y : Type 0} (R : X → Y → Type 0) (a : Answered X)
    (b : Answered Y) : Type 0 where
  pub value : a.value ≡ b.value
  pub world : Alike R a.world b.world

-- two entries that are begun, or none in either world
abbrev pub BegunAlike : {X Y : Type 0} → (X → Y → Type 0) → Option (Begun X) → Option (Begun Y)
    → Type 0
BegunAlike R None None = Unit {0}
BegunAlike R (Some a) (Some b) = EntryAlike R a.entry b.entry × Alike R a.world b.world
BegunAlike R None (Some b) = ⊥
BegunAlike R (Some a) None = ⊥

pub record TurnedAlike {X Y : Type 0} (R : X → Y → Type 0) (t : Turned X)
    (u : Turned Y) : Type 0 where
  pub action : OptionAlike R t.action u.action
  pub world : Alike R t.world u.world
