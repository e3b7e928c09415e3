-- How a run's answer tells its ending, and what a run leaves of a world.
use Rattle.std.specs.Prelude.{◌≡◌, ◌≤◌, ◌+◌, ℕ, suc, List}
use Rattle.saved_state.specs.declared.saved.Saved.{Saved}
use Rattle.machine_rules.specs.Machine.{Script, Host, State}
use Rattle.machine_rules.specs.Runs.{Ran as Run, run}
use Rattle.stack_rules.specs.Fits.{Tables, FitsOne}
use Rattle.ncs_machine.specs.Stored.{StatesFit}
use Rattle.ncs_machine.specs.Steps.{IsHalfway}
use Rattle.ncs_machine.specs.declared.scripts.Begin.{Begin}
use Rattle.ncs_machine.specs.declared.scripts.Begin.TheVariants.{Start, Stored}
use Rattle.machine_rules.specs.Runs.{Ending, Over, ZeroDivisor, OutOfInstructions}
use Rattle.world_rules.specs.World.{World, count}
use Rattle.world_rules.specs.Kept.{IsActing}
use Rattle.ncs_machine.specs.declared.entry.Ran.{Ran}
use Rattle.ncs_machine.specs.declared.entry.Ran.TheVariants.{Ended, Divide, Limit, NoMemory}

-- each answer tells one ending, but for the want of memory, which may come at any time
abbrev pub EndsAs : Ran → Ending → Type 0
EndsAs Ended ending = ending ≡ Over
EndsAs Divide ending = ending ≡ ZeroDivisor
EndsAs Limit ending = ending ≡ OutOfInstructions
EndsAs NoMemory ending = Unit {0}

-- a fact of every run but one that was cut short for want of memory
abbrev pub WhereRan : Ran → Type 0 → Type 0
WhereRan Ended fact = fact
WhereRan Divide fact = fact
WhereRan Limit fact = fact
WhereRan NoMemory fact = Unit {0}

-- a fact of a run that was cut short
abbrev pub WhereCut : Ran → Type 0 → Type 0
WhereCut Ended fact = Unit {0}
WhereCut Divide fact = Unit {0}
WhereCut Limit fact = Unit {0}
WhereCut NoMemory fact = fact

-- A run from this state took just so many instructions, and was cut short in the next one: the
-- world is the one between the two, or already as the next one's engine call left it.
pub record IsCut (h : Host (World Saved)) (instructions self : ℕ) (first : State (World Saved))
    (v : World Saved) : Type 0 where
  pub ending : (run h instructions first).ending ≡ OutOfInstructions
  pub counted : (run h instructions first).count ≡ instructions
  pub own : self ≡ (run h instructions first).last.running.self
  pub world : IsHalfway (run h instructions first).last.world
      (run h (suc instructions) first).last.world v

-- What so many instructions leave of a world: objects and clock, an entry posted for each at most,
-- and objects that act act on.
pub record IsLeft {X : Type 0} (instructions : ℕ) (w v : World X) : Type 0 where
  pub objects : count v ≡ count w
  pub clock : v.clock ≡ w.clock
  pub no_less : w.agenda.next ≤ v.agenda.next
  pub few : v.agenda.next ≤ w.agenda.next + instructions
  pub acting : (o : ℕ) → IsActing o w → IsActing o v

-- An answer, a count and an object tell this run, which led from the one world to the other.
pub record IsRunOf (ran : Ran) (instructions self : ℕ) (r : Run (World Saved))
    (scripts : List Script) (tables : Tables) (w v : World Saved) : Type 0 where
  pub ending : EndsAs ran r.ending
  pub counted : WhereRan ran (instructions ≡ r.count)
  pub own : WhereRan ran (self ≡ r.last.running.self)
  pub world : WhereRan ran (v ≡ r.last.world)
  pub fit : WhereRan ran (StatesFit scripts tables w → StatesFit scripts tables v)
  pub left : WhereRan ran (IsLeft instructions w v)

-- a captured state with which an entry begins fits
abbrev pub FitsBegin : List Script → Tables → Begin → Type 0
FitsBegin scripts tables Start = Unit {0}
FitsBegin scripts tables (Stored saved) = FitsOne scripts tables saved
