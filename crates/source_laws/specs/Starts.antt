-- That the code of a script does what its start means.
use Rattle.std.specs.Prelude.{◌≡◌, ℕ, Bool, true, false, List, [], Option, Some, slice_get}
use Rattle.nwq_value.specs.Engine.{EngineTable}
use Rattle.nwq_value.specs.declared.value.Ty.{Ty}
use Rattle.nwq_value.specs.declared.value.Ty.TheVariants.{Void, Int}
use Rattle.nwq_value.specs.declared.value.Value.{Value}
use Rattle.ncs_code.specs.File.{header_size}
use Rattle.typing_rules.specs.Typed.{TypedUnit}
use Rattle.typing_rules.specs.declared.places.EntryPoint.{EntryPoint}
use Rattle.typing_rules.specs.declared.places.EntryPoint.TheVariants.{Main, Conditional}
use Rattle.saved_state.specs.declared.saved.Saved.{Saved}
use Rattle.emission_rules.specs.Units.{has_globals}
use Rattle.world_rules.specs.World.{World}
use Rattle.world_rules.specs.Alike.{Alike}
use Rattle.machine_rules.specs.Frames.{Frame}
use Rattle.source_meaning.specs.Evaluation.{Deferred, Progress}
use Rattle.source_meaning.specs.Scripts.{Function, Listed, Setting, Starter, functions, global_names, executing, listed_started}
use Rattle.source_laws.specs.Ledger.{Machine, MachineHost, Sim}
use Rattle.source_laws.specs.Kept.{Site, IsListed, at}
use Rattle.source_laws.specs.Carries.{Carries, unit_site}
use Rattle.source_laws.specs.Calling.{EngineRuns, ExecutesRun}
use Rattle.source_laws.specs.FineStatements.{AreFineNames}
use Rattle.source_laws.specs.FunctionsRun.{IsPlaced}

-- The script while its globals are made: they are variables of a frame, and nothing lies beneath.
-- So it also begins and ends.
abbrev pub making : Site → Site
making x = record x { globals = []; bp = 0 }

-- A unit that begins with a function of this kind and result. Its globals are fine as declarations
-- in whose values no function is called, and its functions are placed.
pub record BeginsWith (begin : ℕ → EntryPoint) (t : Ty) (table : EngineTable) (u : TypedUnit)
    (x : Site) : Type 0 where
  pub entry : ℕ
  pub begins : u.entry ≡ begin entry
  pub main : Function
  pub is : slice_get (functions u.items) entry ≡ Some main
  pub parameters : main.parameters ≡ []
  pub result : main.result ≡ t
  pub made : AreFineNames table [] (making x) Void 0 [] (global_names u.items)
  pub placed : (f : ℕ) (fn : Function) → slice_get (functions u.items) f ≡ Some fn
      → IsPlaced table (functions u.items) x f fn

-- Where the last RETN of a start without globals stands: behind the call of the entry function, and
-- for a condition behind that of its result.
abbrev pub main_return : ℕ
main_return = 19

abbrev pub condition_return : ℕ
condition_return = 27

-- With globals it stands behind the first call, which makes them and calls the entry function.
abbrev pub return_place : Bool → ℕ → ℕ
return_place true last = 19
return_place false last = last

-- The start is over there, with an empty stack, in a world that is alike.
abbrev pub EndsAlike : (Saved → Deferred → Type 0) → List Value → Progress → Type 0
EndsAlike R v p = (w : World Saved) × Alike R w p.world

abbrev pub end_place : (R : Saved → Deferred → Type 0) → Site → ℕ → (v : List Value) (p : Progress)
    → EndsAlike R v p → Machine
end_place R x place v p h = at x place [] [] [] h.0

-- From its first instruction on, with an empty stack, the code of such a script does what its start
-- means, up to its last RETN, for which a credit is left: as any object, and whatever scripts wait
-- for it. What it asks of scripts that are run it also asks where globals are made, where no typed
-- unit runs one: ExecuteScript gives no value.
abbrev pub StartsRun : (ℕ → EntryPoint) → Ty → ℕ → Type 0
StartsRun begin t last =
    (s : Setting) (host : MachineHost) (start : Option Starter) (script self : ℕ)
    (waiting : List Frame) (l : Listed) (p : Progress) (w : World Saved)
    → host.table ≡ s.table → slice_get s.scripts script ≡ Some l
    → IsListed host (unit_site script l.unit self waiting)
    → EngineRuns host (Carries s) s.tables
    → ((most : ℕ) → ExecutesRun host (Carries s) (unit_site script l.unit self waiting)
    (executing s start self) most)
    → ((most : ℕ) → ExecutesRun host (Carries s) (making (unit_site script l.unit self waiting))
    (executing s start self) most)
    → BeginsWith begin t host.table l.unit (unit_site script l.unit self waiting)
    → Alike (Carries s) w p.world
    → Sim host (Carries s) (EndsAlike (Carries s))
    (end_place (Carries s) (making (unit_site script l.unit self waiting))
    (return_place (has_globals l.unit.items) last)) p.left 0
    (at (making (unit_site script l.unit self waiting)) header_size [] [] [] w) (λ v. 1)
    (listed_started s (executing s start) script self (Some l) p)

-- scripts that begin with `void main()`
abbrev pub MainsRun : Type 0
MainsRun = StartsRun Main Void main_return

-- scripts that begin with `int StartingConditional()`
abbrev pub ConditionsRun : Type 0
ConditionsRun = StartsRun Conditional Int condition_return
