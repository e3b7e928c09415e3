-- How parts tell a world. No public clause speaks of it.
use Rattle.std.specs.Prelude.{◌≡◌, ℕ, List, map, Option, IsTrue}
use Rattle.std.specs.List.{AllByRecursion, list_all}
use Rattle.ncs_code.specs.File.{IsCode}
use Rattle.plan_text.specs.Plans.{Limits}
use Rattle.ncs_machine.specs.declared.scripts.Loaded.{Loaded}
use Rattle.saved_state.specs.declared.saved.Saved.{Saved}
use Rattle.area_rules.specs.Objects.{AreaObject}
use Rattle.world_rules.specs.declared.data.Things.{Things}
use Rattle.world_rules.specs.World.{World}
use Rattle.state_format.specs.Parts.{HasForm, IsObject}
use Rattle.state_format.specs.declared.parts.Object.{Object}
use Rattle.state_format.specs.declared.parts.Parts.{Parts}
use Rattle.state_parts.specs.World.{things_of, variables_of, entries_of}
use Rattle.state_parts.specs.ShortTexts.{has_short_items, is_short_entry}
use Rattle.state_parts.specs.Keeping.{HasValues}
use Rattle.play_save.specs.Scripts.{script_parts}
use Rattle.play_save.specs.States.{IsPlayOf, HasCome}

-- no captured state of an action in a world has base cells
abbrev pub QueuesHaveValues : List (Things Saved) → Type 0
QueuesHaveValues things = AllByRecursion
    (λ (t : Things Saved). AllByRecursion HasValues t.queue.actions) things

-- parts tell the objects of a world, with their variables in its area, and have short texts
pub record TellObjects (objects : List AreaObject) (things : List (Things Saved))
    (parts : List Object) : Type 0 where
  pub kept : map things_of parts ≡ things
  pub variables : map variables_of parts ≡ map (λ (o : AreaObject). o.vars) objects
  pub short : IsTrue (list_all has_short_items parts)

-- and can be written
pub record AreObjectsOf (objects : List AreaObject) (things : List (Things Saved))
    (parts : List Object) : Type 0 where
  pub told : TellObjects objects things parts
  pub form : AllByRecursion IsObject parts

-- parts that tell a world, but for the tree of its area
pub record Tells (s : Parts) (w : World Saved) : Type 0 where
  pub clock : s.clock ≡ w.clock
  pub version : s.version ≡ w.version
  pub random : s.random ≡ w.random
  pub next : s.next ≡ w.agenda.next
  pub entries : entries_of s ≡ w.agenda.entries
  pub short : IsTrue (list_all is_short_entry s.agenda)
  pub objects : TellObjects w.area.objects w.things s.objects

-- parts of a play that tell its world, and can be written
pub record IsKept (header : Option (List ℕ)) (scripts : List Loaded) (file : List ℕ)
    (limits : Limits) (taken done : ℕ) (w : World Saved) (s : Parts) : Type 0 where
  pub form : HasForm s
  pub play : IsPlayOf s header (script_parts scripts) file limits
  pub come : HasCome s taken done
  pub tells : Tells s w
  pub code : AllByRecursion (λ (l : Loaded). IsCode l.code.code) scripts
