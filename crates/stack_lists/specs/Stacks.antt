-- Lists of slots that share their lower parts, with their depths and lists that lie far down in
-- them.
use Rattle.std.specs.Prelude.{◌≡◌, ◌≤◌, ◌<◌, ◌+◌, ◌^◌, ℕ, zero, suc, ◌==◌, if◌then◌else◌, List, [], ◌∷◌, ◌++◌, length, map, take, Some, slice_get}
use Rattle.std.specs.Ordering.{nat_cmp}
use Rattle.std.specs.BTreeMap.{BTreeMap, get}
use Rattle.nwq_value.specs.declared.value.Ty.{Ty}
use Rattle.stack_shape.specs.TopFirst.{types_on}
use Rattle.stack_shape.specs.declared.shape.Slot.{Slot}
use Rattle.stack_shape.specs.declared.shape.Slot.TheVariants.{Of, Base}
use Rattle.stack_lists.specs.declared.lists.Node.{Node}
use Rattle.stack_lists.specs.declared.stacks.Link.{Link}
use Rattle.stack_lists.specs.declared.stacks.Agreed.{Agreed}
use Rattle.stack_lists.specs.declared.stacks.Join.{Join}
use Rattle.stack_lists.specs.Shared.{AreOlder, read}

abbrev pub node_of : Link → Node Slot
node_of l = record { item = l.slot; below = l.below }

abbrev pub nodes_of : List Link → List (Node Slot)
nodes_of links = map node_of links

-- how many slots a list has from its topmost base on
abbrev pub from_base : List Slot → ℕ
from_base [] = 0
from_base (Base ∷ slots) = suc (length slots)
from_base (Of t ∷ slots) = from_base slots

-- so many of the topmost slots are values
abbrev pub AreTyped : ℕ → List Slot → Type 0
AreTyped count slots = (types : List Ty) × (types_on count slots ≡ Some types)

-- The one list ends with the other.
pub record LiesOn (nodes : List (Node Slot)) (upper lower : ℕ) : Type 0 where
  pub front : List Slot
  pub is : read nodes upper ≡ front ++ read nodes lower

-- One list is made on another: past two jumps that are equally long, else to that list. All three
-- are told by their depths.
abbrev pub leap : ℕ → ℕ → ℕ → ℕ
leap below near far = if (below + far) == (near + near) then far else below

abbrev pub jump_within : ℕ → ℕ → ℕ
jump_within zero depth = 0
jump_within (suc limit) zero = 0
jump_within (suc limit) (suc below) = leap below (jump_within limit below)
    (jump_within limit (jump_within limit below))

-- how deep the list is to which one of so many slots leads
unfoldable pub jump_depth : ℕ → ℕ
jump_depth depth = jump_within depth depth

pub record IsLink (nodes : List (Node Slot)) (number : ℕ) (l : Link) : Type 0 where
  pub depth : l.depth ≡ length (read nodes number)
  pub older : l.jump < number
  pub on : LiesOn nodes number l.jump
  pub far : length (read nodes l.jump) ≡ jump_depth l.depth
  pub based : l.based ≡ from_base (read nodes number)

-- the link is the list's top
pub record IsTop (nodes : List (Node Slot)) (number : ℕ) (l : Link) : Type 0 where
  pub link : IsLink nodes number l
  pub top : read nodes number ≡ l.slot ∷ read nodes l.below
  pub older : l.below < number
  pub inside : l.below ≤ length nodes
  pub few : number ≤ 2 ^ 25

-- a link may be added
pub record IsNew (nodes : List (Node Slot)) (l : Link) : Type 0 where
  pub below : l.below ≤ length nodes
  pub depth : l.depth ≡ length (read nodes l.below) + 1
  pub on : LiesOn nodes l.below l.jump
  pub older : l.jump ≤ l.below
  pub far : length (read nodes l.jump) ≡ jump_depth l.depth
  pub based : l.based ≡ from_base (l.slot ∷ read nodes l.below)

pub record AreLinked (links : List Link) : Type 0 where
  pub older : AreOlder (nodes_of links)
  pub each : (k : ℕ) (l : Link) → slice_get links k ≡ Some l → IsLink (nodes_of links) (suc k) l
  pub few : length links ≤ 2 ^ 25

-- so many of the topmost slots are the same
pub record Agrees (nodes : List (Node Slot)) (a : Agreed) : Type 0 where
  pub first : a.first ≤ length nodes
  pub second : a.second ≤ length nodes
  pub same : take a.count (read nodes a.first) ≡ take a.count (read nodes a.second)

pub record AllAgree (nodes : List (Node Slot)) (agreed : BTreeMap ℕ Agreed) : Type 0 where
  pub by : (key : ℕ) (a : Agreed) → get nat_cmp agreed key ≡ Some a → Agrees nodes a

-- so many of the one list's topmost slots on the other list
pub record IsJoin (nodes : List (Node Slot)) (j : Join) : Type 0 where
  pub upper : j.upper ≤ length nodes
  pub lower : j.lower ≤ length nodes
  pub inside : j.number ≤ length nodes
  pub reads : read nodes j.number ≡ take j.count (read nodes j.upper) ++ read nodes j.lower

pub record AllJoin (nodes : List (Node Slot)) (joins : BTreeMap ℕ Join) : Type 0 where
  pub by : (key : ℕ) (j : Join) → get nat_cmp joins key ≡ Some j → IsJoin nodes j
