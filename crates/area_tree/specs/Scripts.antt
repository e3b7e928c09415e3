-- The index from labels to scripts.
use Rattle.std.specs.Prelude.{◌≡◌, ℕ, suc, List, [], ◌∷◌, if◌then◌else◌, Option, None, Some, Box}
use Rattle.std.specs.declared.alloc.Global.{Global}
use Rattle.std.specs.Option.{option_map}
use Rattle.std.specs.Str.{bytes_eq}
use Rattle.nwq_value.specs.Index.{number_under}
use Rattle.area_rules.specs.Objects.{Script}

-- those of an object that may have none
abbrev pub boxed : Option (Box (List Script) Global) → List Script
boxed None = []
boxed (Some noted) = noted.value

-- the place of the first script under a label
abbrev pub script_place : List ℕ → List Script → Option ℕ
script_place label [] = None
script_place label (script ∷ scripts) = if bytes_eq label script.label then Some 0 else option_map suc (script_place label scripts)

-- the index has under each label the place of its first script
abbrev pub HasFirst : List Script → List (List ℕ × ℕ) → Type 0
HasFirst scripts index = (label : List ℕ) → number_under label index ≡ script_place label scripts

-- the place that stands there, or else this one
abbrev pub place_or : Option ℕ → Option ℕ → Option ℕ
place_or None other = other
place_or (Some place) other = Some place

-- the index has this place under the label too, where it had none
abbrev pub NotesFirst : List ℕ → ℕ → List (List ℕ × ℕ) → List (List ℕ × ℕ) → Type 0
NotesFirst label place old new = (x : List ℕ)
    → number_under x new ≡ place_or (number_under x old)
    (if bytes_eq x label then Some place else None)
