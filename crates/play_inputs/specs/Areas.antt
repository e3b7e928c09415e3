-- The area of the GFF file that a command names.
use Rattle.std.specs.Prelude.{◌≡◌, ℕ, List, [], ◌∷◌, Option, Some, None}
use Rattle.nwq_outside.specs.Outside.{Contents}
use Rattle.gff_tree.specs.Tree.{PlainNode}
use Rattle.gff_tree.specs.Whole.{PlainGff}
use Rattle.gff_read.specs.Stands.{Stands}
use Rattle.area_rules.specs.declared.fault.AreaFault.{AreaFault}
use Rattle.area_rules.specs.declared.fault.AreaFault.TheVariants as fault
use Rattle.area_rules.specs.Broken.{Place, broken_places}
use Rattle.area_rules.specs.Area.{PlainArea, area_of}
use Rattle.command_work.specs.declared.flaw.AreaFlaw.{AreaFlaw}
use Rattle.command_work.specs.declared.flaw.AreaFlaw.TheVariants as flaw
use Rattle.command_work.specs.Refusal.{BadArea}
use Rattle.command_work.specs.Work.{Work, Gives, Refused, Finds, then}
use Rattle.command_files.specs.Trees.{tree_in, tree_named}

-- what is wrong with a tree that is no area
abbrev pub area_flaw : AreaFault → Option AreaFlaw
area_flaw (fault.Shape list member entry) = Some (flaw.Shape list member entry)
area_flaw fault.NoMemory = None

abbrev pub place_flaw : Place → AreaFlaw
place_flaw place = flaw.Shape place.list place.member place.entry

-- what comes of a tree: it breaks no rule of areas, or this is the first place at which it does
pub data AreaFate : Type 0 where
  Whole : AreaFate
  Broken : (place : Place) → AreaFate

pub data IsAreaFate (top : PlainNode) : AreaFate → Type 0 where
  whole : broken_places top ≡ [] → IsAreaFate top Whole
  broken : (place : Place) (others : List Place) → broken_places top ≡ place ∷ others
      → IsAreaFate top (Broken place)

abbrev pub area_by : List ℕ → PlainGff → AreaFate → Work PlainArea
area_by name tree Whole = Gives (area_of tree)
area_by name tree (Broken place) = Refused (BadArea name (place_flaw place))

-- the area of a tree, which is that of the file of this name
unfoldable pub area_in : List ℕ → PlainGff → Work PlainArea
area_in name tree = Finds (λ (c : Contents) fate. IsAreaFate tree.top fate) (area_by name tree)

-- the area in the bytes of the file of this name
unfoldable pub area_of_bytes : List ℕ → List ℕ → Work PlainArea
area_of_bytes name bytes = then (tree_in name bytes) (area_in name)

-- The bytes stand for the tree of this area, which breaks no rule.
pub record TellsArea (bytes : List ℕ) (area : PlainArea) : Type 0 where
  pub stands : Stands bytes area.tree
  pub whole : broken_places area.tree.top ≡ []
  pub is : area ≡ area_of area.tree

-- the area in the file of this name
unfoldable pub area_named : List ℕ → Work PlainArea
area_named name = then (tree_named name) (area_in name)
