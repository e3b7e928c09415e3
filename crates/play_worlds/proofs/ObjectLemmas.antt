-- An object that is named by its tag is one of the area, or none.
use Rattle.std.proofs.Common.{◌≤◌, ◌<◌, ◌+◌, ℕ, zero, suc, Bool, true, false, List, [], ◌∷◌, length, if◌then◌else◌, arith}
use Rattle.std.specs.Prelude.{slice_index, map}
use Rattle.std.specs.List.{AllByRecursion}
use Rattle.std.specs.Str.{bytes_eq}
use Rattle.area_rules.specs.Area.{PlainArea, tagged}
use Rattle.area_rules.specs.Objects.{AreaObject}
use Rattle.plan_text.specs.declared.plan.Line.{Line}
use Rattle.plan_text.specs.declared.plan.Line.TheVariants.{Event, Start, Free}
use Rattle.play_worlds.specs.Worlds.{object_named, begun_by}

-- the number at a place, where the first is this one or the others begin
first_or : (here : Bool) (n bound : ℕ) (rest : List ℕ) → n < bound → ((i : ℕ) → slice_index rest i < bound) → (i : ℕ)
    → slice_index (if here then n ∷ rest else rest) i < bound
first_or true n bound rest first others zero = first
first_or true n bound rest first others (suc i) = others i
first_or false n bound rest first others i = others i

tagged_below : (tag : List ℕ) (n bound : ℕ) (objects : List AreaObject) → 0 < n → n + length objects ≤ bound → (i : ℕ) → slice_index (tagged tag n objects) i < bound
tagged_below tag n bound [] some inside i = omega (arith, some, inside)
tagged_below tag n bound (object ∷ objects) some inside i =
    first_or (bytes_eq tag object.tag) n bound (tagged tag (suc n) objects) (omega (arith, inside))
    (tagged_below tag (suc n) bound objects (omega arith) (omega (arith, inside))) i

pub named_within : (area : PlainArea) (nth : ℕ) (tag : List ℕ) → object_named area nth tag ≤ length area.objects
named_within area nth tag =
    let below = tagged_below tag 1 (1 + length area.objects) area.objects (omega arith) (omega arith) nth in omega (arith, below)

line_within : (area : PlainArea) (line : Line) → (begun_by area line).object ≤ length area.objects
line_within area (Event due nth label tag) = named_within area nth tag
line_within area (Start due nth name tag) = named_within area nth tag
line_within area (Free due name) = omega arith

pub all_within : (area : PlainArea) (lines : List Line) → AllByRecursion (λ p. p.object ≤ length area.objects) (map (begun_by area) lines)
all_within area [] = tt
all_within area (line ∷ lines) = (line_within area line, all_within area lines)
