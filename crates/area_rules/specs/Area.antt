-- An area: the tree that was read, and what its objects are now.
use Rattle.std.specs.Prelude.{◌≡◌, ◌<◌, ◌-◌, ℕ, ℤ, zero, suc, pos, negsuc, if◌then◌else◌, IsTrue, List, [], ◌∷◌, map, length, codes, slice_index}
use Rattle.std.specs.List.{AllByRecursion, IsDistinct}
use Rattle.std.specs.Str.{bytes_eq}
use Rattle.gff_tree.specs.Tree.{PlainNode, NoField, Struct, is_sound}
use Rattle.gff_tree.specs.Whole.{PlainGff}
use Rattle.local_variables.specs.Variables.{Variable, same_variable}
use Rattle.area_rules.specs.Objects.{Script, AreaObject, objects_of}
use Rattle.area_rules.specs.Broken.{broken_places}

pub record PlainArea : Type 0 where
  pub tree : PlainGff
  pub objects : List AreaObject

abbrev pub top_of : PlainArea → PlainNode
top_of area = area.tree.top

-- the area that a tree tells
abbrev pub area_of : PlainGff → PlainArea
area_of tree = record { tree = tree; objects = objects_of tree.top }

-- the tree of an area without objects
abbrev pub empty_tree : PlainGff
empty_tree = record { file_type = codes "GIT "; top = Struct 4294967295 NoField }

abbrev pub empty_area : PlainArea
empty_area = record { tree = empty_tree; objects = [] }

-- the object at a place from 0; past the end there is none
abbrev pub object_at : List AreaObject → ℕ → AreaObject
object_at [] i = record { tag = []; vars = []; scripts = [] }
object_at (object ∷ objects) zero = object
object_at (object ∷ objects) (suc i) = object_at objects i

-- objects are numbered from 1
abbrev pub object : PlainArea → ℕ → AreaObject
object area o = object_at area.objects (o - 1)

-- the numbers of the objects with a tag, where the first object has number n
abbrev pub tagged : List ℕ → ℕ → List AreaObject → List ℕ
tagged tag n [] = []
tagged tag n (object ∷ objects) = if bytes_eq tag object.tag then n ∷ tagged tag
    (suc n) objects else tagged tag (suc n) objects

-- the object with a tag before which so many others with it stand, or 0
abbrev pub by_tag : PlainArea → List ℕ → ℤ → ℕ
by_tag area tag (pos nth) = slice_index (tagged tag 1 area.objects) nth
by_tag area tag (negsuc nth) = 0

-- the name of the resource under a label, or the empty one
abbrev pub script_named : List ℕ → List Script → List ℕ
script_named label [] = []
script_named label (script ∷ scripts) = if bytes_eq label script.label then script.name else script_named label scripts

-- an object whose variables are changed
abbrev pub with_vars : (List Variable → List Variable) → AreaObject → AreaObject
with_vars change object = record object { vars = change object.vars }

-- the area where the variables of one object alone are others
abbrev pub variables_changed_at : ℕ → (List Variable → List Variable) → List AreaObject
    → List AreaObject
variables_changed_at i change [] = []
variables_changed_at zero change (object ∷ objects) = with_vars change object ∷ objects
variables_changed_at (suc i) change
    (object ∷ objects) = object ∷ variables_changed_at i change objects

abbrev pub changed : PlainArea → ℕ → (List Variable → List Variable) → PlainArea
changed area o change = record area { objects = variables_changed_at (o - 1) change area.objects }

-- an object but for its variables
abbrev pub bare : AreaObject → AreaObject
bare object = record object { vars = [] }

-- no two variables of an object have one type and name
abbrev pub HaveDistinct : List AreaObject → Type 0
HaveDistinct objects = AllByRecursion (λ object. IsDistinct same_variable object.vars) objects

-- what every area keeps: its tree is sound and breaks no rule, its objects are the tree's but for
-- their variables, and no two variables of an object have one type and name
pub record IsArea (area : PlainArea) : Type 0 where
  pub sound : IsTrue (is_sound (top_of area))
  pub whole : broken_places (top_of area) ≡ []
  pub same : map bare area.objects ≡ map bare (objects_of (top_of area))
  pub distinct : HaveDistinct area.objects
  pub few : length area.objects < 4294967296
