-- The worlds in which plays begin: an area with the events and starts of a plan, or nothing but a
-- start of one script.
use Rattle.std.specs.Prelude.{ℕ, zero, suc, pos, List, [], ◌∷◌, map, take}
use Rattle.nwq_value.specs.Limits.{text_limit}
use Rattle.area_rules.specs.Area.{PlainArea, empty_area, object, by_tag, script_named}
use Rattle.plan_text.specs.declared.plan.Line.{Line}
use Rattle.plan_text.specs.declared.plan.Line.TheVariants.{Event, Start, Free}
use Rattle.plan_text.specs.declared.plan.Plan.{Plan}
use Rattle.saved_state.specs.declared.saved.Saved.{Saved}
use Rattle.world_rules.specs.World.{World}
use Rattle.world_rules.specs.Turns.{Planned, new_world}

-- a script's name in a world, which is a text
abbrev pub text_name : List ℕ → List ℕ
text_name name = take text_limit name

-- ---- one script

-- a script starts at time 0, with no object as self
abbrev pub start_of : List ℕ → Planned
start_of name = record { due = 0; object = 0; script = text_name name }

-- the world of the area without objects with a start of this script and no random numbers; actions
-- are cleared as the second version of plans has it
abbrev pub first_world : List ℕ → World Saved
first_world name = new_world empty_area [] (start_of name ∷ []) 2

-- ---- a plan

-- the object with a tag before which so many others with it stand; 0 where there is none
abbrev pub object_named : PlainArea → ℕ → List ℕ → ℕ
object_named area nth tag = by_tag area tag (pos nth)

-- the script in an object's field of this label; no name where there is no such object, or no such
-- field
abbrev pub script_at : PlainArea → List ℕ → ℕ → List ℕ
script_at area label zero = []
script_at area label (suc o) = script_named label (object area (suc o)).scripts

-- what a line of a plan begins in an area. An event names an object and a field, a start a script
-- and an object, or none.
abbrev pub begun_by : PlainArea → Line → Planned
begun_by area (Event due nth label tag) =
    let o = object_named area nth tag in record {
      due = due;
      object = o;
      script = text_name (script_at area label o);
    }
begun_by area (Start due nth name tag) = record {
  due = due;
  object = object_named area nth tag;
  script = name;
}
begun_by area (Free due name) = record { due = due; object = 0; script = name }

-- the world of an area and a plan
abbrev pub plan_world : PlainArea → Plan → World Saved
plan_world area plan = new_world area plan.random (map (begun_by area) plan.events) plan.version
